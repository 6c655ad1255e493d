use Rattle.std.proofs.Common.{◌≡◌, ℕ, List, slice_index, ap, arith}
use Rattle.std.proofs.Math.ListN.{replicate}
use Rattle.logos_reduce.proofs.tables.PushLemmas.{filled}
use Rattle.logos_reduce.proofs.order.Order.new.Goals as goal

pub returns-clause-none : goal.returns-clause-none
returns-clause-none c = λ s m.
    let e = c.in_ok-numbers.ensures.items_if_clones_equal (λ y e. e) in
    let z : slice_index c.in_ok-numbers.numbers.items s ≡ slice_index (replicate c.args.len 0) s = ap (λ (xs : List ℕ). slice_index xs s) e in
    let o : slice_index (replicate c.args.len 0) s ≡ 0 = filled c.args.len s 0 in
    omega arith
