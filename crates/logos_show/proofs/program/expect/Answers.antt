use Rattle.logos_show.proofs.RunLemmas.{expected}
use Rattle.logos_questions.specs.Orders.{order_value}
use Rattle.logos_show.proofs.program.expect.Goals as goal

pub returns-clause-expected : goal.returns-clause-expected
returns-clause-expected g c =
    expected g.F.Files.read_yields (order_value c.args.task.order) c.args.path.now _ _ _ c.in_ok-stored.stored.items c.new-made.result.items _ _ c.in_ok-stored.ensures.read c.new-made.ensures.items c.in_ok-answer.ensures.answered _ _
    c.deref.result.now c.deref-2.result.now c.deref.ensures.value c.deref-2.ensures.value c.write_agreement.result c.write_agreement.ensures.printed
