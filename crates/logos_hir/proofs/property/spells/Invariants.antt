use Rattle.std.proofs.Common.{◌≡◌, length, drop}
use Rattle.std.specs.Str.{bytes_eq}
use Rattle.logos_hir.proofs.property.spells.Given as goal

-- the whole is the same exactly if the rest is
abbrev pub invariant-loop-i : goal.invariant-loop-i
invariant-loop-i l = (length l.name ≡ length l.word) × (bytes_eq l.name l.word ≡ bytes_eq (drop l.i l.name) (drop l.i l.word))
