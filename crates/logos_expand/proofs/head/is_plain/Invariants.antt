use Rattle.std.proofs.Common.{◌≡◌, drop}
use Rattle.logos_expand.specs.Heads.{is_plain}
use Rattle.logos_expand.proofs.head.is_plain.Given as goal

-- the bytes that are left decide
abbrev pub invariant-loop-byte : goal.invariant-loop-byte
invariant-loop-byte l = is_plain (drop l.byte-index l.bytes) ≡ is_plain l.bytes
