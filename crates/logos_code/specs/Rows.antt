-- The views of the rows of a code in contracts.
use Rattle.std.specs.Prelude.{◌≡◌, ℕ, ◌+◌, ◌*◌, ◌/◌, ◌<◌, ◌≤◌, ◌⊎◌, true, false, List, [], length, Option, Some, None, slice_index, slice_get}
use Rattle.logos_automaton.specs.Munch.{Use}
use Rattle.logos_code.specs.Code.{CodeValue, CodeState, Mark, by_conditions}
use Rattle.logos_code.specs.CodeView.{state_at}
use Rattle.logos_code.specs.Runs.{stays, target}
use Rattle.logos_code.specs.declared.code.rows.MatchUse.{MatchUse}
use Rattle.logos_code.specs.declared.code.rows.MatchUse.TheVariants.{Emits, Skips, CallsBack}
use Rattle.logos_code.specs.declared.code.rows.Step.{Step}
use Rattle.logos_code.specs.declared.code.rows.Step.TheVariants.{Leads, Stays, Halts, Looks, Closes, Stuck, Undescribed}

-- A state that has this mark and no other step.
abbrev pub closing : Mark → CodeState
closing mark = record { fast_loop = None; mark = Some mark; fork = by_conditions []; at_end = None }

-- The first entry of the kind for matches that end before the byte.
abbrev pub first_halting : MatchUse → ℕ
first_halting Skips = 536870912
first_halting Emits = 805306368
first_halting CallsBack = 1610612736

-- The first entry of the kind for matches that end after the byte.
abbrev pub first_closing : MatchUse → ℕ
first_closing Emits = 1073741824
first_closing Skips = 1342177280
first_closing CallsBack = 1879048192

-- The entry represents this step.
abbrev pub IsStepOf : ℕ → Step → Type 0
IsStepOf entry (Leads state) = (entry ≡ 272 * state) × (state < 986896)
IsStepOf entry (Stays test) = (entry ≡ 268435456 + test) × (test < 268435456)
IsStepOf entry (Halts leaf used) = (entry ≡ first_halting used + leaf.0) × (leaf.0 < 134217728)
IsStepOf entry (Looks leaf used) = (entry ≡ first_halting used + 134217728 + leaf.0) × (leaf.0 < 134217728)
IsStepOf entry (Closes leaf used) = (entry ≡ first_closing used + leaf.0) × (leaf.0 < 268435456)
IsStepOf entry Stuck = (2147483648 ≤ entry) × (entry < 2415919104)
IsStepOf entry Undescribed = 2415919104 ≤ entry

-- The row offset of a state: 272 times its number.
abbrev pub IsRowStart : CodeValue → ℕ → Type 0
IsRowStart code row_start = (272 * (row_start / 272) ≡ row_start) × (row_start / 272 < length code.states)

-- The use of matches without a callback.
abbrev pub IsPlainUse : Use → MatchUse → Type 0
IsPlainUse leaf Emits = leaf ≡ record { skips = false; calls_back = false }
IsPlainUse leaf Skips = leaf ≡ record { skips = true; calls_back = false }
IsPlainUse leaf CallsBack = ⊥

-- The use describes the matches of a leaf. `CallsBack` describes those of any leaf, since a
-- callback may be called for them.
abbrev pub IsUse : CodeValue → ℕ → MatchUse → Type 0
IsUse code leaf Emits = slice_get code.leaves leaf ≡ Some (record { skips = false; calls_back = false })
IsUse code leaf Skips = slice_get code.leaves leaf ≡ Some (record { skips = true; calls_back = false })
IsUse code leaf CallsBack = Unit {0}

-- The byte leads to a state that has this mark and no other step.
pub record LeadsToClosing (code : CodeValue) (state : CodeState) (b : ℕ) (mark : Mark) : Type 0 where
  pub next : ℕ
  pub leads : target code state.fork b ≡ Some next
  pub closes : slice_get code.states next ≡ Some (closing mark)

-- The meaning of a step for a byte.
abbrev pub Describes : CodeValue → CodeState → ℕ → Step → Type 0
Describes code state b (Leads next) = (stays code state.fast_loop b ≡ false) × (target code state.fork b ≡ Some next)
Describes code state b (Stays test) = (stays code state.fast_loop b ≡ true) × (state.fast_loop ≡ Some test)
Describes code state b (Halts leaf used) =
    (stays code state.fast_loop b ≡ false) × (target code state.fork b ≡ None) × (state.mark ≡ Some (record { leaf = leaf.0; late = false })) × IsUse code leaf.0 used
Describes code state b (Looks leaf used) = (stays code state.fast_loop b ≡ false) × LeadsToClosing code state b (record { leaf = leaf.0; late = true }) × IsUse code leaf.0 used
Describes code state b (Closes leaf used) = (stays code state.fast_loop b ≡ false) × LeadsToClosing code state b (record { leaf = leaf.0; late = false }) × IsUse code leaf.0 used
Describes code state b Stuck = (stays code state.fast_loop b ≡ false) × (target code state.fork b ≡ None)
Describes code state b Undescribed = Unit {0}

-- A step of a state with this mark if there is no transition.
abbrev pub IsHalting : CodeValue → Option Mark → Step → Type 0
IsHalting code mark (Leads next) = ⊥
IsHalting code mark (Stays test) = ⊥
IsHalting code mark (Halts leaf used) = (mark ≡ Some (record { leaf = leaf.0; late = false })) × IsUse code leaf.0 used
IsHalting code mark (Looks leaf used) = ⊥
IsHalting code mark (Closes leaf used) = ⊥
IsHalting code mark Stuck = Unit {0}
IsHalting code mark Undescribed = ⊥

-- The meaning of a step for the end of the input.
abbrev pub DescribesEnd : CodeValue → CodeState → Step → Type 0
DescribesEnd code state (Leads next) = ⊥
DescribesEnd code state (Stays test) = ⊥
DescribesEnd code state (Halts leaf used) = (state.at_end ≡ None) × (state.mark ≡ Some (record { leaf = leaf.0; late = false })) × IsUse code leaf.0 used
DescribesEnd code state (Looks leaf used) = ⊥
DescribesEnd code state (Closes leaf used) = ⊥
DescribesEnd code state Stuck = Unit {0}
DescribesEnd code state Undescribed = Unit {0}

-- An entry that leads to a state is a multiple of 272.
abbrev pub LeadsToRowStart : ℕ → Type 0
LeadsToRowStart entry = entry < 268435456 → 272 * (entry / 272) ≡ entry

-- The entry of a byte, which represents its step.
pub record IsEntry (code : CodeValue) (state : CodeState) (b entry : ℕ) : Type 0 where
  pub describes : (step : Step) → IsStepOf entry step → Describes code state b step
  pub row_start : LeadsToRowStart entry

-- The entry of the end of the input, which leads nowhere.
pub record IsLastEntry (code : CodeValue) (state : CodeState) (entry : ℕ) : Type 0 where
  pub describes : (step : Step) → IsStepOf entry step → DescribesEnd code state step
  pub last : 536870912 ≤ entry

-- The row has the entry of each byte.
abbrev pub IsRow : CodeValue → CodeState → List ℕ → Type 0
IsRow code state row = (b : ℕ) → b < 256 → IsEntry code state b (slice_index row b)

-- The rows of all states, one after another.
pub record AreRows (code : CodeValue) (rows : List ℕ) : Type 0 where
  pub count : length rows ≡ 272 * length code.states
  pub each : (s b : ℕ) → s < length code.states → b < 256 → IsEntry code (state_at code s) b (slice_index rows (272 * s + b))

-- An entry that leads to a state, or whose kind comes after those of matches that end before the
-- byte.
abbrev pub BeginsAttempt : ℕ → Type 0
BeginsAttempt entry = (entry < 268435456) ⊎ (1073741824 ≤ entry)

-- The entry itself if it can begin an attempt, and one of the kind `UNDESCRIBED` otherwise.
abbrev pub IsFirstEntry : ℕ → ℕ → Type 0
IsFirstEntry entry first = ((first ≡ entry) ⊎ (2415919104 ≤ first)) × BeginsAttempt first

-- The entries of the first byte of an attempt, made from the row of the root.
abbrev pub IsFirstOf : List ℕ → ℕ → List ℕ → Type 0
IsFirstOf rows root first = (length first ≡ 256) × ((b : ℕ) → b < 256 → IsFirstEntry (slice_index rows (272 * root + b)) (slice_index first b))

-- The entry of the first byte of an attempt.
abbrev pub IsFirst : CodeValue → ℕ → ℕ → Type 0
IsFirst code b entry = IsEntry code (state_at code code.root) b entry × BeginsAttempt entry

-- The row has, for each byte, its entry as the first byte of an attempt.
abbrev pub IsFirstRow : CodeValue → List ℕ → Type 0
IsFirstRow code row = (b : ℕ) → b < 256 → IsFirst code b (slice_index row b)
