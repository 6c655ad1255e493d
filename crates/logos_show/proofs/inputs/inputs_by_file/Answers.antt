use Rattle.logos_show.proofs.RunLemmas.{inputs_shown, lexer_made}
use Rattle.logos_questions.specs.Orders.{order_value}
use Rattle.logos_show.proofs.inputs.inputs_by_file.Goals as goal

pub returns-in-Ok-clause-printed : goal.returns-in-Ok-clause-printed
returns-in-Ok-clause-printed g c =
    inputs_shown (order_value c.args.task.order) c.args.source.now.text c.in-Ok.made.graph (lexer_made c.in_ok-one.ensures.chosen c.text_of.ensures c.in-Ok.ensures.accepted c.in-Ok.ensures.given) _ _
    c.args.most c.is_json.result c.is_json.ensures c.inputs_by_graph.result c.inputs_by_graph.ensures.printed
