use Rattle.std.proofs.Common.{◌≡◌, ℕ, ◌<◌, ◌≤◌, ◌+◌, ◌*◌, vec_len, slice_index}
use Rattle.logos_reduce.specs.inside.Merge.{AreTwins, Continues}
use Rattle.logos_reduce.proofs.merge.twins.add_twins.Given as goal

abbrev pub invariant-loop-home : goal.invariant-loop-home
invariant-loop-home l = record {
  len : vec_len l.cuts.twins ≡ vec_len l.initial.cuts.twins;
  sizes : vec_len l.cuts.hints.sizes ≡ vec_len l.initial.cuts.hints.sizes;
  fits : vec_len l.cuts.splits ≤ vec_len l.initial.cuts.twins;
  todo : vec_len l.cuts.hints.todo + 2 * vec_len l.initial.cuts.splits ≤ vec_len l.initial.cuts.hints.todo + 2 * vec_len l.cuts.splits;
  below : (c : ℕ) → slice_index l.cuts.twins.items c < vec_len l.cuts.splits;
  twins : AreTwins (vec_len l.initial.cuts.splits) l.symbol l.cuts.twins.items l.cuts.splits.items;
  continues : Continues l.initial.cuts.splits.items l.cuts.splits.items;
}
