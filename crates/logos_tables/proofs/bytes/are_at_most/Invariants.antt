use Rattle.std.proofs.Common.{◌≡◌, drop}
use Rattle.logos_tables.specs.Texts.{are_at_most}
use Rattle.logos_tables.proofs.bytes.are_at_most.Given as goal

-- the numbers that are left decide
abbrev pub invariant-loop-number : goal.invariant-loop-number
invariant-loop-number l = are_at_most l.most (drop l.number-index l.numbers) ≡ are_at_most l.most l.numbers
