use Rattle.std.proofs.Common.{◌≡◌}
use Rattle.logos_token.specs.Tokens.{count_of}
use Rattle.logos_token.specs.Views.{tokens_of}
use Rattle.logos_rust_file.specs.Derives.{derives}
use Rattle.logos_rust_file.proofs.derives.derives.Given as goal

abbrev pub invariant-loop-found : goal.invariant-loop-found
invariant-loop-found l = derives (tokens_of l.tokens) ≡ derives (tokens_of l.rest)

abbrev pub decreases-loop-found : goal.decreases-loop-found
decreases-loop-found l = count_of (tokens_of l.rest)
