-- The number of items of a variant, as a sum.
use Rattle.std.specs.Prelude.{◌≡◌, ℕ, ◌+◌, suc, List, true, false, slice_index}
use Rattle.logos_code.specs.declared.code.CodeLeaf.{CodeLeaf}
use Rattle.logos_answers.specs.Counts.{next_shares_variant}

-- `size` leaves, beginning with the leaf `from`, are of one variant, whose last leaf is `last`.
-- `total` is the sum of their numbers of items.
pub data AreOfVariant (leaves : List CodeLeaf) (counts : List ℕ) : (from size last total : ℕ) → Type 0 where
  ends : {leaf : ℕ} → next_shares_variant leaves leaf ≡ false → AreOfVariant leaves counts leaf 1 leaf (slice_index counts leaf)
  goes : {leaf size last total : ℕ} → next_shares_variant leaves leaf ≡ true → AreOfVariant leaves counts (suc leaf) size last total → AreOfVariant leaves counts leaf (suc size) last (slice_index counts leaf + total)
