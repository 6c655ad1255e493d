use Rattle.std.proofs.Common.{◌≡◌, ℕ, List, [], slice_index, option_map, option_and_then, arith, ap, ◌∙◌}
use Rattle.std.proofs.lemmas.Grind.{get_or_default_zero}
use Rattle.logos_reduce.specs.Merge.{target_block}
use Rattle.logos_reduce.specs.Table.{to}
use Rattle.logos_reduce.specs.Rows.{target_by, target_of}
use Rattle.logos_reduce.specs.RowsView.{rows_of}
use Rattle.logos_reduce.proofs.tables.PushLemmas.{pushed, length_pushed}
use Rattle.logos_reduce.proofs.number.numbered_rows.Goals as goal

pub loop-block-preserved : goal.loop-block-preserved
loop-block-preserved c =
    let table = c.args.table.now in
    let block = slice_index c.args.merged.now.blocks.of.items in
    let leaders = c.args.merged.now.leaders.items in
    let states = c.args.order.now.states.items in
    let numbers = c.args.order.now.numbers.items in
    let i = c.loop-block.block-index in
    let number = λ (b : ℕ). target_of (slice_index numbers b) in
    let slot = c.args.order.now.in_order.placed i (let n = c.deref-block-items.ensures.len in omega arith) in
    let at : c.index.result.now ≡ slice_index leaders (slice_index states i) =
    (rw c.deref-block-items.ensures.value at c.index.ensures) ∙ get_or_default_zero leaders (slice_index states i) c.index.result.now (omega (arith, slot.0, c.requires.room)) in (
      length_pushed (rows_of c.loop-block.rows) (rows_of c.push.new.self) _ i c.in_ok-push.ensures c.loop-block.invariant.0,
      λ h k m. pushed (λ (i : ℕ) (row : List ℕ). (k : ℕ) → target_by row k ≡ option_and_then number (target_block table block (slice_index leaders (slice_index states i)) k))
          (rows_of c.loop-block.rows) (rows_of c.push.new.self) _ [] i c.in_ok-push.ensures c.loop-block.invariant.0 (λ j l k. c.loop-block.invariant.1 j k l)
          (λ k. c.numbered_row-row.ensures k ∙ ap (λ (o : _). option_and_then number (option_map block o)) (c.row.ensures.row k ∙ ap (λ (s : ℕ). to table s k) at)) h m k,
    )
