use Rattle.std.proofs.Common.{◌↔◌}
use Rattle.logos_token.specs.Tokens.{count_of}
use Rattle.logos_token.specs.Views.{tokens_of}
use Rattle.logos_warnings.specs.Mistakes.{HasHelper}
use Rattle.logos_warnings.proofs.attributes.has_helper.Given as goal

-- the run has a helper attribute exactly if the rest has one
abbrev pub invariant-loop-attribute : goal.invariant-loop-attribute
invariant-loop-attribute l = HasHelper (tokens_of l.run) ↔ HasHelper (tokens_of l.rest)

abbrev pub decreases-loop-attribute : goal.decreases-loop-attribute
decreases-loop-attribute l = count_of (tokens_of l.rest)
