use Rattle.logos_show.proofs.RunLemmas.{are_bytes, lexer_made, matches_shown}
use Rattle.logos_questions.specs.Orders.{order_value}
use Rattle.logos_show.proofs.matches.matches_by_file.Goals as goal

pub returns-in-Ok-clause-printed : goal.returns-in-Ok-clause-printed
returns-in-Ok-clause-printed g c =
    matches_shown (order_value c.args.task.order) c.args.source.now.text c.in-Ok.made.graph (lexer_made c.in_ok-one.ensures.chosen c.text_of.ensures c.in-Ok.ensures.accepted c.in-Ok.ensures.given) _ _
    c.args.bytes.now (are_bytes c.args.bytes.now c.type_inv.bytes) c.args.point.location c.is_json.result c.is_json.ensures c.matches_by_lexer.result c.matches_by_lexer.ensures.printed
