use Rattle.logos_token.specs.Tokens.{count_of}
use Rattle.logos_token.specs.Views.{tokens_of}
use Rattle.logos_layout.specs.Inner.{FollowsInner}
use Rattle.logos_layout.proofs.inner_attributes.read_inner.Given as goal

-- the rest follows inner ones
abbrev pub invariant-loop-to : goal.invariant-loop-to
invariant-loop-to l = FollowsInner (tokens_of l.run) (tokens_of l.rest)

abbrev pub decreases-loop-to : goal.decreases-loop-to
decreases-loop-to l = count_of (tokens_of l.rest)
