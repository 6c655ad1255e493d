use Rattle.std.proofs.Common.{◌≡◌, ◌≤◌, drop}
use Rattle.logos_pattern_tokens.specs.Token.{hex_from}
use Rattle.logos_pattern_tokens.proofs.counts.scalar_of.Given as goal

abbrev pub invariant-loop-c : goal.invariant-loop-c
invariant-loop-c l = (l.number ≤ 0x10FFFF) × (hex_from l.number (drop l.c-index l.digits) ≡ hex_from 0 l.digits)
