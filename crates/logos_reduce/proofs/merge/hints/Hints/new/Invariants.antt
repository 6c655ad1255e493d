use Rattle.std.proofs.Common.{◌≡◌, ℕ, ◌<◌, vec_len, slice_index}
use Rattle.logos_reduce.proofs.merge.hints.Hints.new.Given as goal

abbrev pub invariant-loop-s : goal.invariant-loop-s
invariant-loop-s l = vec_len l.sizes ≡ l.room

abbrev pub invariant-loop-b : goal.invariant-loop-b
invariant-loop-b l = (vec_len l.todo ≡ l.b) × (vec_len l.pending ≡ l.room) × ((i : ℕ) → i < l.b → slice_index l.todo.items i ≡ i)
