use Rattle.logos_questions.specs.Orders.{order_value}
use Rattle.logos_show.proofs.RunLemmas.{compared_reading}
use Rattle.logos_show.proofs.comparison.compare.Goals as goal

pub returns-clause-judged : goal.returns-clause-judged
returns-clause-judged g c =
    compared_reading g.F.Files.read_yields (order_value c.args.task.order) _ _ _ _ c.as_str.ensures.value _ _ c.compare_sources.result c.args.source.now c.args.other.now c.in-Ok.ensures.read _ c.in-Ok-new.ensures
    c.compare_sources.ensures.judged
