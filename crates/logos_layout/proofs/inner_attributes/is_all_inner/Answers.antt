use Rattle.std.proofs.Common.{subst}
use Rattle.logos_token.specs.Views.{tokens_of}
use Rattle.logos_layout.specs.Inner.{FollowsInner}
use Rattle.logos_layout.proofs.inner_attributes.is_all_inner.Goals as goal

pub returns : goal.returns
returns c = λ empty. subst (FollowsInner (tokens_of c.args.run)) (c.is_empty.ensures.0 empty) c.read_inner.ensures
