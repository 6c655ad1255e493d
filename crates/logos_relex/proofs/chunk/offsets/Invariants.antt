use Rattle.std.proofs.Common.{◌≡◌, map, take}
use Rattle.logos_relex.specs.Chunks.{offset_of}
use Rattle.logos_relex.proofs.chunk.offsets.Given as goal

-- The items so far are stored.
abbrev pub invariant-loop-item : goal.invariant-loop-item
invariant-loop-item l = l.items.items ≡ map offset_of (take l.item-index l.found)
