-- Rows of steps, one more at a time.
use Rattle.std.proofs.Common.{◌≡◌, ℕ, ◌+◌, ◌<◌, ◌⊎◌, ⊎_elim, List, [], ◌∷◌, ◌++◌, length, slice_index_or, subst, arith}
use Rattle.std.proofs.lemmas.List.{get_or_append_left, get_or_push}
use Rattle.logos_code.specs.Code.{CodeValue}
use Rattle.logos_code.specs.CodeView.{state_at}
use Rattle.logos_tables.specs.Steps.{HasSteps}

-- the row of one more state
pub rows_turn : (code : CodeValue) (rows new : List (List ℕ)) (row : List ℕ) (s : ℕ) → length rows ≡ s → new ≡ rows ++ row ∷ [] → HasSteps code (state_at code s) row →
    ((k : ℕ) → k < s → HasSteps code (state_at code k) (slice_index_or rows k [])) →
    (k : ℕ) → k < s + 1 → HasSteps code (state_at code k) (slice_index_or new k [])
rows_turn code rows new row s long is last before k h = ⊎_elim old now (either k s h)
  where
    either : (a b : ℕ) → a < b + 1 → (a < b) ⊎ (b ≡ a)
    either a b h = grind arith

    old : k < s → HasSteps code (state_at code k) (slice_index_or new k [])
    old l = rw (is, get_or_append_left rows (row ∷ []) [] k (omega (arith, l, long))) (before k l)

    now : s ≡ k → HasSteps code (state_at code k) (slice_index_or new k [])
    now e = subst (λ n. HasSteps code (state_at code n) (slice_index_or new n [])) e (rw (is, get_or_push rows row [] s long) last)
