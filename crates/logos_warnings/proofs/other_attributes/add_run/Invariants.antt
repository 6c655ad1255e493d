use Rattle.logos_token.specs.Tokens.{count_of}
use Rattle.logos_token.specs.Views.{tokens_of}
use Rattle.logos_warnings.specs.Shown.{AddsEach, IsIgnoredIn}
use Rattle.logos_warnings.proofs.ShownLemmas.{AreLeft}
use Rattle.logos_warnings.proofs.other_attributes.add_run.Given as goal

-- the warnings so far are about attributes of the run, of which the others are left
abbrev pub invariant-loop-attribute : goal.invariant-loop-attribute
invariant-loop-attribute l = AddsEach (IsIgnoredIn (tokens_of l.run)) l.initial.warnings.items l.warnings.items × AreLeft (tokens_of l.run) (tokens_of l.rest)

abbrev pub decreases-loop-attribute : goal.decreases-loop-attribute
decreases-loop-attribute l = count_of (tokens_of l.rest)
