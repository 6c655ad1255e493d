use Rattle.std.proofs.Common.{◌∙◌}
use Rattle.logos_show.proofs.ChoiceLemmas.{first_all, first_next_at}
use Rattle.logos_show.proofs.choice.first_enum.Goals as goal

pub loop-one-preserved : goal.loop-one-preserved
loop-one-preserved c = first_next_at c.args.found.now c.loop-one.choice.first _ c.loop-one.one-index _ c.loop-one-test.true c.in_ok-choice.ensures c.loop-one.invariant

pub returns : goal.returns
returns c = c.chosen_of.ensures ∙ first_all c.args.found.now c.loop-one.choice.first c.loop-one.one-index c.loop-one-test.false c.loop-one.invariant
