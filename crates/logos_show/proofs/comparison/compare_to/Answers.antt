use Rattle.logos_show.proofs.RunLemmas.{compared_to, lexer_made}
use Rattle.logos_replies.specs.declared.verdict.Judgment.{Judgment}
use Rattle.logos_questions.specs.Orders.{order_value}
use Rattle.logos_show.proofs.comparison.compare_to.Goals as goal

pub returns-in-Ok-clause-judged : goal.returns-in-Ok-clause-judged
returns-in-Ok-clause-judged g c =
    compared_to (order_value c.args.task.order) _ _ (λ (judgment : Judgment). judgment.agreement) c.args.one.graph.now c.args.one.path.now c.args.source.now c.in-Ok.made.graph
    (lexer_made c.in_ok-other.ensures.chosen c.text_of.ensures c.in-Ok.ensures.accepted c.in-Ok.ensures.given) c.named_lexer.result.graph.now c.named_lexer.ensures.graph c.named_lexer.result.path.now c.named_lexer.ensures.path
    c.is_json.result c.is_json.ensures c.compare_with.result c.compare_with.ensures.judged
