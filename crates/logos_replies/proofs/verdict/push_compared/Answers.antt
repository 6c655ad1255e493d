use Rattle.logos_replies.proofs.VerdictLemmas.{difference_shown}
use Rattle.logos_replies.proofs.verdict.push_compared.Goals as goal

pub returns-in-Differ : goal.returns-in-Differ
returns-in-Differ c =
    difference_shown c.args.pair.one.graph.now c.args.pair.other.graph.now c.args.pair.one.path.now c.args.pair.other.path.now c.args.compared.now c.in-Differ.input.items c.deref.result.now c.deref.ensures.value c.args.page.now
    c.push_difference.new.page (λ text w. rw c.in-Differ.is w) c.push_difference.result c.push_difference.ensures
