use Rattle.std.proofs.Common.{◌∙◌}
use Rattle.logos_tables.proofs.AddLemmas.{tables_added}
use Rattle.logos_tables.proofs.lexer.push_code.Goals as goal

pub returns : goal.returns
returns c =
    let made = c.in_ok-made.made in
    tables_added c.args.code.now made.classes.numbers.items made.classes.symbols.items made.rows.slots.items made.rows.distinct.keys made.class_runs.items made.runs.items
    _ _ _ _ _ _ _ _ c.in_ok-made.ensures c.root.ensures.root (c.len.ensures ∙ made.classes.symbols.ok.0)
    c.in_ok-push_data.ensures c.in_ok-push_steps.ensures c.in_ok-push_marks.ensures c.in_ok-push_skips.ensures c.in_ok-push_numbers.ensures
