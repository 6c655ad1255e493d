use Rattle.logos_code.specs.CodeView.{code_of}
use Rattle.logos_code.proofs.CodeLemmas.{root_there}
use Rattle.logos_code.proofs.RowLemmas.{first_row_describes}
use Rattle.logos_code.proofs.code.construction.tables_of.Goals as goal

pub returns : goal.returns
returns c = record {
  valid = c.requires;
  first_row = first_row_describes (code_of c.args.parts.now) c.in_ok-rows.rows.items c.first_row-first.result c.in_ok-rows.ensures
      (root_there (code_of c.args.parts.now) c.requires.sound) (rw c.deref.ensures.value at c.first_row-first.ensures);
  all_rows = c.in_ok-rows.ensures;
  all_masks = c.in_ok-masks.ensures;
  all_signs = c.in_ok-signs.ensures;
  all_last_marks = c.in_ok-last_marks.ensures;
  all_uses = c.in_ok-uses.ensures;
}
