use Rattle.std.proofs.Common.{◌≡◌, length}
use Rattle.logos_pattern_tokens.specs.Openings.{letters_from}
use Rattle.logos_pattern_tokens.proofs.openings.letters_from.Given as goal

abbrev pub invariant-loop-rest : goal.invariant-loop-rest
invariant-loop-rest l = letters_from l.letters l.rest ≡ letters_from l.fn.start l.fn.text

abbrev pub decreases-loop-rest : goal.decreases-loop-rest
decreases-loop-rest l = length l.rest
