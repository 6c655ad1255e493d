use Rattle.logos_questions.specs.Orders.{order_value}
use Rattle.logos_show.proofs.RunLemmas.{answered_reading}
use Rattle.logos_show.proofs.program.answer.Goals as goal

pub returns-clause-answered : goal.returns-clause-answered
returns-clause-answered g c =
    answered_reading g.F.Files.read_yields (order_value c.args.task.order) _ _ _ _ c.as_str.ensures.value _ _ c.answer_about.result _ c.in-Ok.ensures.read _ c.in-Ok-new.ensures c.answer_about.ensures.answered
