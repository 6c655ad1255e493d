-- The views of the last marks of a code in contracts.
use Rattle.std.specs.Prelude.{◌≡◌, ℕ, ◌-◌, List, Option, Some, None, slice_index_or}
use Rattle.logos_hir.specs.Text.{IsBytes}
use Rattle.logos_code.specs.Code.{CodeValue}
use Rattle.logos_code.specs.Runs.{Status, enters, acts, Does}
use Rattle.logos_code.specs.declared.code.last_marks.LastMark.{LastMark}
use Rattle.logos_code.specs.declared.code.last_marks.LastMark.TheVariants.{Unseen, Varies, Never, Back}

module _ (code : CodeValue) (bytes : List ℕ) (start : ℕ) where
  -- The statuses of an attempt: the first one, and each status to which one leads.
  pub data IsOfAttempt : Status → Type 0 where
    first_status : IsOfAttempt (record { state = code.root; offset = start; context = None })
    next_status : (at next : Status) → IsOfAttempt at → Does code bytes start at (enters next) → IsOfAttempt next

-- The value of the last mark passed, which is its leaf and the end of its match, for an attempt
-- that ends at the offset.
abbrev pub Holds : LastMark → Option (ℕ × ℕ) → ℕ → Type 0
Holds Unseen passed offset = Unit {0}
Holds Varies passed offset = Unit {0}
Holds Never passed offset = passed ≡ None
Holds (Back leaf bytes) passed offset = passed ≡ Some (leaf.0, offset - bytes)

-- This is the last mark of each attempt that ends in the state.
abbrev pub IsLastMark : CodeValue → ℕ → LastMark → Type 0
IsLastMark code s mark = (bytes : List ℕ) (start : ℕ) (at : Status) (passed : Option (ℕ × ℕ)) (offset : ℕ) →
    IsBytes bytes → IsOfAttempt code bytes start at → at.state ≡ s → Does code bytes start at (acts passed offset) → Holds mark passed offset

-- The last mark in the state with this number.
abbrev pub last_mark_at : List LastMark → ℕ → LastMark
last_mark_at marks s = slice_index_or marks s Unseen

-- The list contains the last mark of each state.
abbrev pub AreLastMarks : CodeValue → List LastMark → Type 0
AreLastMarks code marks = (s : ℕ) → IsLastMark code s (last_mark_at marks s)
