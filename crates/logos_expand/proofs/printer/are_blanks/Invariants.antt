use Rattle.std.proofs.Common.{◌≡◌, drop}
use Rattle.logos_expand.specs.Expanding.{are_blanks}
use Rattle.logos_expand.proofs.printer.are_blanks.Given as goal

-- the bytes that are left decide
abbrev pub invariant-loop-byte : goal.invariant-loop-byte
invariant-loop-byte l = are_blanks (drop l.byte-index l.bytes) ≡ are_blanks l.bytes
