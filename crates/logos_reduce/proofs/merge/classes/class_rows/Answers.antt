use Rattle.std.proofs.Common.{◌≡◌, ℕ, List, [], slice_index, option_map, ap, ◌∙◌}
use Rattle.logos_reduce.specs.Merge.{target_block}
use Rattle.logos_reduce.specs.Table.{to}
use Rattle.logos_reduce.specs.Rows.{target_by}
use Rattle.logos_reduce.specs.RowsView.{rows_of}
use Rattle.logos_reduce.proofs.tables.PushLemmas.{pushed, length_pushed}
use Rattle.logos_reduce.proofs.merge.classes.class_rows.Goals as goal

pub loop-leader-preserved : goal.loop-leader-preserved
loop-leader-preserved c =
    let table = c.args.table.now in
    let class = slice_index c.args.of.now.items in
    let leaders = c.args.leaders.now.items in
    let i = c.loop-leader.leader-index in
    let at = c.deref-leader-items.ensures.value in (
      length_pushed (rows_of c.loop-leader.rows) (rows_of c.push.new.self) _ i c.in_ok-push.ensures c.loop-leader.invariant.0,
      λ h k m. pushed (λ (i : ℕ) (row : List ℕ). (k : ℕ) → target_by row k ≡ target_block table class (slice_index leaders i) k)
          (rows_of c.loop-leader.rows) (rows_of c.push.new.self) _ [] i c.in_ok-push.ensures c.loop-leader.invariant.0 (λ j l k. c.loop-leader.invariant.1 j k l)
          (λ k. c.class_row.ensures k ∙ ap (option_map class) (c.row.ensures.row k ∙ ap (λ (xs : List ℕ). to table (slice_index xs i) k) at)) h m k,
    )
