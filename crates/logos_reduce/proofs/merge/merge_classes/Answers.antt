use Rattle.std.proofs.Common.{◌≡◌, ◌<◌, vec_len, slice_index, arith, ap, sym, ◌∙◌}
use Rattle.logos_reduce.specs.inside.Merge.{IsFiner}
use Rattle.logos_reduce.specs.Table.{size}
use Rattle.logos_reduce.proofs.merging.HistoryLemmas.{sound-extended, finer-extended}
use Rattle.logos_reduce.proofs.merging.MergeLemmas.{fewer_pairs}
use Rattle.logos_reduce.proofs.merge.merge_classes.Goals as goal

pub refine-requires-in-Some-clause-sound : goal.refine-requires-in-Some-clause-sound
refine-requires-in-Some-clause-sound c =
    let s = c.in-Some.found.state in
    let l : s < vec_len c.loop-blocks.blocks.of = omega (arith, c.in-Some.ensures.0, c.loop-blocks.invariant.0) in
    sound-extended c.args.table.now c.loop-blocks.blocks.splits.items _ _ _ (let w = c.loop-blocks.blocks.within s l in omega arith) c.loop-blocks.invariant.1 c.in_ok-split-in-Some.ensures.extension

pub loop-blocks-smaller : goal.loop-blocks-smaller
loop-blocks-smaller c =
    let table = c.args.table.now in
    let old = c.loop-blocks.blocks in
    let split = c.in_ok-split-in-Some.split in
    let new = c.in_ok-blocks-in-Some.blocks in
    let s = c.in-Some.found.state in
    let leader = c.in-Some.found.leader in
    let hs : s < size table = c.in-Some.ensures.0 in
    let at : leader ≡ slice_index c.in_ok-leaders.leaders.items (slice_index old.of.items s) = c.in-Some.ensures.2 in
    let p = c.in_ok-leaders.ensures.leaders s (omega (arith, c.loop-blocks.invariant.0)) in
    let hl : leader < size table = omega (arith, at, p.0, c.loop-blocks.invariant.0) in
    let wider : IsFiner (size table) (slice_index split.of.items) (slice_index old.of.items) = finer-extended table _ _ _ _ c.in_ok-split-in-Some.ensures.extension in
    fewer_pairs (size table) (slice_index new.of.items) (slice_index old.of.items) s leader
    (λ t u ht hu e. wider t u ht hu (c.in_ok-blocks-in-Some.ensures.finer t u ht hu e))
    hs hl (sym p.1 ∙ ap (slice_index old.of.items) (sym at))
    (λ e. c.in_ok-split-in-Some.ensures.parted (c.in_ok-blocks-in-Some.ensures.finer s leader hs hl e))
