-- The conditions that are checked for last marks.
use Rattle.std.specs.Prelude.{◌≡◌, ℕ, ◌+◌, ◌<◌, List, length, Option, Some, None, IfSome, if◌then◌else◌}
use Rattle.logos_code.specs.Code.{CodeValue, Mark, Fork}
use Rattle.logos_code.specs.CodeView.{state_at}
use Rattle.logos_code.specs.LastMarks.{last_mark_at}
use Rattle.logos_code.specs.Runs.{target}
use Rattle.logos_code.specs.declared.code.last_marks.LastMark.{LastMark}
use Rattle.logos_code.specs.declared.code.last_marks.LastMark.TheVariants.{Unseen, Varies, Never, Back}

-- The last mark agrees with the mark of its state.
abbrev pub IsOwn : LastMark → Option Mark → Type 0
IsOwn Unseen mark = Unit {0}
IsOwn Varies mark = Unit {0}
IsOwn Never mark = mark ≡ None
IsOwn (Back leaf bytes) mark = IfSome mark (λ m. (leaf.0 ≡ m.leaf) × (bytes ≡ (if m.late then 1 else 0)))

-- The last mark is of this leaf, one byte earlier.
abbrev pub FollowsBack : LastMark → ℕ → ℕ → Type 0
FollowsBack Unseen leaf bytes = ⊥
FollowsBack Varies leaf bytes = ⊥
FollowsBack Never leaf bytes = ⊥
FollowsBack (Back last before) leaf bytes = (last.0 ≡ leaf) × (before + 1 ≡ bytes)

-- The last mark in a state without a mark of its own follows from the last mark in a state that
-- leads to it on a byte.
abbrev pub Follows : LastMark → LastMark → Option ℕ → Type 0
Follows Unseen from fast_loop = Unit {0}
Follows Varies from fast_loop = Unit {0}
Follows Never from fast_loop = from ≡ Never
Follows (Back leaf bytes) from fast_loop = (fast_loop ≡ None) × FollowsBack from leaf.0 bytes

-- No mark has been passed at the start of an attempt.
abbrev pub BeginsUnmarked : LastMark → Type 0
BeginsUnmarked Unseen = Unit {0}
BeginsUnmarked Varies = Unit {0}
BeginsUnmarked Never = Unit {0}
BeginsUnmarked (Back leaf bytes) = ⊥

module _ (code : CodeValue) (marks : List LastMark) where
  -- If the state has no mark of its own, its last mark follows from `from`.
  abbrev pub FollowsAt : LastMark → ℕ → Type 0
  FollowsAt from s = (state_at code s).mark ≡ None → Follows (last_mark_at marks s) from (state_at code s).fast_loop

  -- The last marks in all states to which the fork leads follow from `from`.
  abbrev pub ForkAgrees : LastMark → Fork → Type 0
  ForkAgrees from fork = (b t : ℕ) → target code fork b ≡ Some t → FollowsAt from t

  pub record StateAgrees (s : ℕ) : Type 0 where
    pub own : IsOwn (last_mark_at marks s) (state_at code s).mark
    pub edges : ForkAgrees (last_mark_at marks s) (state_at code s).fork

  pub record Agree : Type 0 where
    pub root : BeginsUnmarked (last_mark_at marks code.root)
    pub each : (s : ℕ) → s < length code.states → StateAgrees s
