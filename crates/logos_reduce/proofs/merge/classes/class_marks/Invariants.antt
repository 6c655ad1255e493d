use Rattle.std.proofs.Common.{◌≡◌, ℕ, ◌<◌, vec_len, slice_index}
use Rattle.logos_reduce.specs.Table.{mark, mark_in}
use Rattle.logos_reduce.proofs.merge.classes.class_marks.Given as goal

abbrev pub invariant-loop-leader : goal.invariant-loop-leader
invariant-loop-leader l =
    (vec_len l.marks ≡ l.leader-index) × ((c : ℕ) → c < l.leader-index → mark_in l.marks.items c ≡ mark l.table (slice_index l.leaders.items c))
