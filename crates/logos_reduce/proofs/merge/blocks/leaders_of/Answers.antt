use Rattle.std.proofs.Common.{◌≡◌, ℕ, List, slice_index, ap, arith}
use Rattle.std.proofs.Math.ListN.{replicate}
use Rattle.logos_reduce.proofs.tables.PushLemmas.{filled}
use Rattle.logos_reduce.proofs.merge.blocks.leaders_of.Goals as goal

pub loop-s-init : goal.loop-s-init
loop-s-init c = (
  omega (arith, c.in_ok-leaders.ensures.len),
  λ s l. absurd (omega arith),
  λ some j.
      let e = c.in_ok-leaders.ensures.items_if_clones_equal (λ y e. e) in
      let z : slice_index c.in_ok-leaders.leaders.items j ≡ slice_index (replicate c.args.count 0) j = ap (λ (xs : List ℕ). slice_index xs j) e in
      let o : slice_index (replicate c.args.count 0) j ≡ 0 = filled c.args.count j 0 in
      omega arith,
)
