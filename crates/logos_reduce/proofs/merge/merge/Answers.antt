use Rattle.std.proofs.Common.{arith, slice_index}
use Rattle.logos_reduce.proofs.merging.ClassLemmas.{merged_by_class}
use Rattle.logos_reduce.proofs.merge.merge.Goals as goal

pub looked_up-requires : goal.looked_up-requires
looked_up-requires c = λ s l.
    let w = c.in_ok-classes.classes.within s l in
    omega (arith, w, c.in_ok-small.ensures.size, c.in_ok-merged.ensures.len)

pub leaders_of-requires : goal.leaders_of-requires
leaders_of-requires c = λ s l.
    let classes = c.in_ok-classes.classes in
    let w = classes.within s (omega (arith, c.in_ok-of.ensures.len)) in
    let b = c.in_ok-merged.merged.blocks.within (slice_index classes.of.items s) (omega (arith, w, c.in_ok-small.ensures.size, c.in_ok-merged.ensures.len)) in
    let e = c.in_ok-of.ensures.found s (omega (arith, c.in_ok-of.ensures.len)) in
    omega (arith, b, e)

pub returns-clause-merged : goal.returns-clause-merged
returns-clause-merged c =
    let table = c.args.table.now in
    let classes = c.in_ok-classes.classes in
    let merged = c.in_ok-merged.merged in
    merged_by_class table c.in_ok-small.small merged.blocks.splits.items (slice_index merged.blocks.of.items) (slice_index merged.leaders.items) (slice_index classes.of.items) (slice_index c.in_ok-of.of.items)
    c.in_ok-merged.ensures.merged c.in_ok-small.ensures.table
    (λ s l. let w = classes.within s (omega (arith, c.in_ok-classes.ensures.len)) in omega (arith, w, c.in_ok-small.ensures.size))
    (λ s l. c.in_ok-of.ensures.found s (omega (arith, c.in_ok-classes.ensures.len)))
    (slice_index c.in_ok-leaders.leaders.items)
    (λ s l. let p = c.in_ok-leaders.ensures.leaders s (omega (arith, c.in_ok-of.ensures.len, c.in_ok-classes.ensures.len)) in (omega (arith, p.0, c.in_ok-of.ensures.len, c.in_ok-classes.ensures.len), p.1))
