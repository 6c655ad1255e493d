use Rattle.std.proofs.Common.{◌≡◌}
use Rattle.logos_token.specs.Tokens.{count_of}
use Rattle.logos_token.specs.Views.{tokens_of}
use Rattle.logos_rust_file.specs.Fronts.{after_body}
use Rattle.logos_rust_file.proofs.fronts.skip_body.Given as goal

abbrev pub invariant-loop-tree : goal.invariant-loop-tree
invariant-loop-tree l = after_body (tokens_of l.tokens) ≡ after_body (tokens_of l.rest)

abbrev pub decreases-loop-tree : goal.decreases-loop-tree
decreases-loop-tree l = count_of (tokens_of l.rest)
