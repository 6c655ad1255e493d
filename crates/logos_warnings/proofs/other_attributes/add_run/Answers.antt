use Rattle.logos_token.specs.Views.{tokens_of}
use Rattle.logos_warnings.specs.Shown.{IsIgnoredIn}
use Rattle.logos_warnings.proofs.ShownLemmas.{adds_none, ignored_next, left_next}
use Rattle.logos_warnings.proofs.other_attributes.add_run.Goals as goal

pub loop-attribute-init : goal.loop-attribute-init
loop-attribute-init c = (adds_none (IsIgnoredIn (tokens_of c.args.run)) _, λ attribute has. has)

pub loop-attribute-preserved : goal.loop-attribute-preserved
loop-attribute-preserved c =
    let so = c.loop-attribute.invariant in (
      ignored_next (tokens_of c.args.run) _ _ _ _ so.1 c.in-Some.ensures.0 so.0 c.in_ok-add_attribute.ensures,
      left_next (tokens_of c.args.run) _ so.1 c.in-Some.ensures.0,
    )

pub returns : goal.returns
returns c = c.loop-attribute.invariant.0
