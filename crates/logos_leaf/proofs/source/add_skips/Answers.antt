use Rattle.std.proofs.Common.{◌∙◌, sym}
use Rattle.std.proofs.lemmas.List.{nil_from_length}
use Rattle.logos_leaf.specs.Variants.{no_skip, one_skip}
use Rattle.logos_leaf.proofs.source.add_skips.Goals as goal

pub loop-skip-preserved : goal.loop-skip-preserved
loop-skip-preserved c = λ after new rest. c.loop-skip.invariant after new (rw c.in-Some.ensures.steps.0 (one_skip c.in_ok-leaf.ensures.ok (rw c.in_ok-push_leaf.ensures at rest)))

pub returns : goal.returns
returns c =
    c.loop-skip.invariant _ _
    (rw (nil_from_length c.loop-skip.skip-iterator.rest.items (sym c.loop-skip.skip-iterator.rest.ok.0 ∙ c.in-None.ensures.steps.0)) no_skip)
