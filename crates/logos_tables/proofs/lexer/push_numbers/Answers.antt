use Rattle.std.proofs.Common.{◌∙◌}
use Rattle.logos_tables.proofs.AddLemmas.{numbers_added}
use Rattle.logos_tables.proofs.lexer.push_numbers.Goals as goal

pub returns : goal.returns
returns c =
    let made = c.args.made.now in
    numbers_added _ _ _ (c.len.ensures ∙ made.rows.slots.ok.0) (c.len-2.ensures ∙ made.runs.ok.0) c.in_ok-push_unpacked.ensures c.in_ok-push_entries_size.ensures
    c.in_ok-push_masks.ensures c.in_ok-push_folded.ensures
