use Rattle.std.proofs.Common.{◌≡◌, ◌<◌, ◌^◌, length}
use Rattle.logos_pattern_tokens.specs.Token.{number_from}
use Rattle.logos_pattern_tokens.proofs.counts.number_from.Given as goal

abbrev pub invariant-loop-rest : goal.invariant-loop-rest
invariant-loop-rest l = (l.number < 2 ^ 32) × (number_from l.number l.rest ≡ number_from l.fn.start l.fn.text)

abbrev pub decreases-loop-rest : goal.decreases-loop-rest
decreases-loop-rest l = length l.rest
