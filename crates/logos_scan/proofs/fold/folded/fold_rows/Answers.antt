use Rattle.std.proofs.Common.{◌≡◌, ◌∙◌, length, ap, rules}
use Rattle.logos_scan.proofs.fold.FoldLemmas.{rows_count, rows_each, rows_within}
use Rattle.logos_scan.proofs.fold.folded.fold_rows.Goals as goal

pub loop-state-preserved : goal.loop-state-preserved
loop-state-preserved c =
    let i = c.loop-state.invariant in
    let items = c.in_ok-extend_from_slice.ensures.items in
    let long : length c.row_of.result ≡ 272 = search rules in
    let old = c.loop-state.rows.items in
    let s = c.loop-state.state in
    let code = c.args.code.now in
    record {
      count = ap length items ∙ rows_count code old c.row_of.result s i.count long c.row_of.ensures;
      each = rw items (rows_each code old c.row_of.result s i.count long c.row_of.ensures i.each);
      within = rw items (rows_within code old c.row_of.result s i.count long c.row_of.ensures i.within);
    }
