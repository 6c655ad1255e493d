use Rattle.std.proofs.Common.{◌+◌, ◌*◌, ◌≤◌}
use Rattle.logos_token.specs.Tokens.{count_of}
use Rattle.logos_token.specs.Views.{tokens_of}
use Rattle.logos_causes.proofs.closures.+search.Given as goal

abbrev pub decreases-search_run : goal.decreases-search_run
decreases-search_run l = 2 * count_of (tokens_of l.run) + 1

abbrev pub decreases-search_first : goal.decreases-search_first
decreases-search_first l = 2 * count_of (tokens_of l.run)

abbrev pub invariant-search_run-loop-rest : goal.invariant-search_run-loop-rest
invariant-search_run-loop-rest l = count_of (tokens_of l.rest) ≤ count_of (tokens_of l.run)

abbrev pub decreases-search_run-loop-rest : goal.decreases-search_run-loop-rest
decreases-search_run-loop-rest l = count_of (tokens_of l.rest)
