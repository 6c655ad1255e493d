use Rattle.std.proofs.Common.{◌≡◌}
use Rattle.logos_token.specs.Tokens.{count_of}
use Rattle.logos_token.specs.Views.{tokens_of}
use Rattle.logos_rust_file.specs.Fronts.{after_attributes}
use Rattle.logos_rust_file.proofs.fronts.skip_attributes.Given as goal

abbrev pub invariant-loop-next : goal.invariant-loop-next
invariant-loop-next l = after_attributes (tokens_of l.tokens) ≡ after_attributes (tokens_of l.rest)

abbrev pub decreases-loop-next : goal.decreases-loop-next
decreases-loop-next l = count_of (tokens_of l.rest)
