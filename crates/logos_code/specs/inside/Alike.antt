-- Runs of bytes with the same value.
use Rattle.std.specs.Prelude.{◌≡◌, ℕ, ◌<◌, ◌≤◌}

-- The run of the byte ends at `end`, which is at most `most`: each byte before has the value of the
-- first.
abbrev pub EndsRun : {A : Type 0} → (ℕ → A) → (byte most end : ℕ) → Type 0
EndsRun f byte most end = (byte < end) × (end ≤ most) × ((k : ℕ) → byte ≤ k → k < end → f k ≡ f byte)
