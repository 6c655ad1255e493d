use Rattle.logos_tables.proofs.AddLemmas.{appends_both}
use Rattle.logos_tables.proofs.lexer.push_steps.Goals as goal

pub returns : goal.returns
returns c =
    let classes = rw c.deref.ensures.value at c.in_ok-push_runs.ensures in
    let runs = rw c.deref-2.ensures.value at c.in_ok-push_runs-2.ensures in
    let rows = rw c.deref-3.ensures.value at c.in_ok-push_field.ensures in
    appends_both classes (appends_both runs rows)
