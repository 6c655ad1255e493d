use Rattle.logos_show.proofs.RunLemmas.{compared_files, lexer_made}
use Rattle.logos_replies.specs.declared.verdict.Judgment.{Judgment}
use Rattle.logos_questions.specs.Orders.{order_value}
use Rattle.logos_show.proofs.comparison.compare_files.Goals as goal

pub returns-in-Ok-clause-judged : goal.returns-in-Ok-clause-judged
returns-in-Ok-clause-judged g c =
    compared_files (order_value c.args.task.order) _ _ (λ (judgment : Judgment). judgment.agreement) c.args.source.now c.args.other.now c.in-Ok.made.graph
    (lexer_made c.in_ok-one.ensures.chosen c.text_of.ensures c.in-Ok.ensures.accepted c.in-Ok.ensures.given) c.named_lexer.result.graph.now c.named_lexer.ensures.graph c.named_lexer.result.path.now c.named_lexer.ensures.path
    c.compare_to.result c.compare_to.ensures.judged
