use Rattle.std.proofs.Common.{◌≡◌, ℕ, ◌<◌, ◌≤◌, [], slice_index_or, vec_len}
use Rattle.logos_reduce.specs.inside.Prune.{met_target}
use Rattle.logos_reduce.specs.Rows.{AreWide, target_in}
use Rattle.logos_reduce.proofs.prune.prune_all.Given as goal

abbrev pub invariant-loop-i : goal.invariant-loop-i
invariant-loop-i l = record {
  len : vec_len l.rows ≡ vec_len l.initial.rows;
  wide : AreWide l.initial.rows.items → AreWide l.rows.items;
  pruned : (j k : ℕ) → j < l.i → target_in l.rows.items j k ≡ met_target l.order.numbers.items (target_in l.initial.rows.items j k);
  rest : (j : ℕ) → l.i ≤ j → slice_index_or l.rows.items j [] ≡ slice_index_or l.initial.rows.items j [];
}
