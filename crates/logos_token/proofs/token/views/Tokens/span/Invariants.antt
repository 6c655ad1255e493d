use Rattle.std.proofs.Common.{◌≡◌}
use Rattle.logos_token.specs.Tokens.{count_of}
use Rattle.logos_token.specs.Views.{tokens_of}
use Rattle.logos_token.proofs.reading.CountLemmas.{run_end}
use Rattle.logos_token.proofs.token.views.Tokens.span.Given as goal

abbrev pub invariant-loop-next : goal.invariant-loop-next
invariant-loop-next l = run_end l.to (tokens_of l.rest) ≡ run_end l.initial.to (tokens_of l.initial.rest)

abbrev pub decreases-loop-next : goal.decreases-loop-next
decreases-loop-next l = count_of (tokens_of l.rest)
