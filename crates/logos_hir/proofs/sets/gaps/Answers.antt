use Rattle.std.proofs.Common.{arith, ap, ◌∙◌, max, get_or}
use Rattle.logos_hir.specs.Sets.{next}
use Rattle.logos_hir.proofs.lemmas.RangeLemmas.{range_at, char_bound, char_limit, next_limit, next_above, max_limit, gaps_step}
use Rattle.logos_hir.proofs.sets.gaps.Goals as goal

pub push_gap-requires-clause-end : goal.push_gap-requires-clause-end
push_gap-requires-clause-end c =
    let r = range_at c.args.ranges.now c.loop-range.range-index (record { first = 0; last = 0 }) c.requires.ranges c.loop-range-test.true in
    search (char_limit, r.0)

pub after-requires : goal.after-requires
after-requires c =
    let r = range_at c.args.ranges.now c.loop-range.range-index (record { first = 0; last = 0 }) c.requires.ranges c.loop-range-test.true in
    search (char_bound, r.1)

pub loop-range-preserved : goal.loop-range-preserved
loop-range-preserved c =
    let xs = c.args.ranges.now in
    let i = c.loop-range.range-index in
    let r = range_at xs i (record { first = 0; last = 0 }) c.requires.ranges c.loop-range-test.true in
    let m = c.max-first.ensures ∙ ap (λ n. max c.loop-range.first n) c.after.ensures in
    let above = next_above (get_or xs i (record { first = 0; last = 0 })).last in
    record {
      limit = rw m (max_limit c.loop-range.first (next (get_or xs i (record { first = 0; last = 0 })).last) c.loop-range.invariant.limit (next_limit (get_or xs i (record { first = 0; last = 0 })).last r.1));
      canonical = c.in_ok-push_gap.ensures.canonical;
      free = c.in_ok-push_gap.ensures.free c.max-first.result (omega (arith, m)) (omega (arith, m, r.2, above));
      members = λ x hx. gaps_step _ _ xs i c.loop-range.first c.max-first.result c.args.last x (record { first = 0; last = 0 }) c.requires.ranges c.requires.sorted c.loop-range-test.true hx m
          (c.in_ok-push_gap.ensures.members x hx) (c.loop-range.invariant.members x hx);
    }
