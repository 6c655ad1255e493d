-- The contract of a code value.
use Rattle.std.specs.Prelude.{◌≡◌, ℕ, ◌+◌, ◌-◌, ◌*◌, ◌<◌, ◌≤◌, ◌↔◌, Bool, List, map, length, Option, Some, None, IfSome, IsTrue, IsCharBoundary, IsSomeAnd, slice_get}
use Rattle.std.specs.List.{All}
use Rattle.logos_hir.specs.Text.{IsBytes}
use Rattle.logos_automaton.specs.Munch.{Rule, IsInput, Found, Finds}
use Rattle.logos_code.specs.Code.{CodeValue, CodeState, Condition, by_comparisons, by_test, Fork, by_conditions, by_table}
use Rattle.logos_code.specs.Runs.{Attempts, CodeFinds, target}
use Rattle.logos_code.specs.Items.{Item, token, error}

-- At each point of each input the code has exactly the result of maximal munch, and its leaves are
-- used as the rules require.
pub record IsLexer (rules : List Rule) (utf8 : Bool) (code : CodeValue) : Type 0 where
  pub mode : code.utf8 ≡ utf8
  pub uses : code.leaves ≡ map (λ rule. rule.use_of) rules
  pub finds : (bytes : List ℕ) (from : ℕ) (found : Found) → IsInput utf8 bytes → CodeFinds code bytes from found ↔ Finds rules utf8 bytes from found
  pub steps : (bytes : List ℕ) (from n : ℕ) (found : Found) → IsBytes bytes → from ≤ length bytes → Attempts code bytes from found n → n ≤ (length bytes - from) + 2

-- Each state that is referred to exists.
abbrev pub NamesState : CodeValue → ℕ → Type 0
NamesState code s = s < length code.states

-- A code value has a test with this number.
abbrev pub NamesTest : CodeValue → ℕ → Type 0
NamesTest code k = k < 8 * length code.bit_tables

-- The test of the condition exists, if it has one.
abbrev pub NamesCondition : CodeValue → Condition → Type 0
NamesCondition code (by_comparisons all) = Unit {0}
NamesCondition code (by_test k) = NamesTest code k

-- The states and the tests to which the fork refers exist, and a table has an entry for each byte.
abbrev pub NamesFork : CodeValue → Fork → Type 0
NamesFork code (by_conditions edges) = All (λ edge. NamesCondition code edge.0 × NamesState code edge.1) edges
NamesFork code (by_table entries) = (length entries ≡ 256) × All (λ target. IfSome target (NamesState code)) entries

-- All that the state refers to exists.
pub record NamesExisting (code : CodeValue) (state : CodeState) : Type 0 where
  pub fast_loop : IfSome state.fast_loop (NamesTest code)
  pub mark : IfSome state.mark (λ mark. mark.leaf < length code.leaves)
  pub fork : NamesFork code state.fork
  pub at_end : IfSome state.at_end (NamesState code)

-- A span starts and ends between characters.
abbrev pub IsCut : List ℕ → Item → Type 0
IsCut bytes (token leaf from to slice) = IsCharBoundary bytes from × IsCharBoundary bytes to
IsCut bytes (error leaf from to slice) = IsCharBoundary bytes from × IsCharBoundary bytes to

-- The state has a late mark.
abbrev pub IsLate : CodeValue → ℕ → Type 0
IsLate code s = IsSomeAnd (slice_get code.states s) (λ state. IsSomeAnd state.mark (λ mark. IsTrue mark.late))

-- The root has no mark, and no state with a late mark is one step from it.
pub record IsRoot (code : CodeValue) (state : CodeState) : Type 0 where
  pub mark : state.mark ≡ None
  pub fork : (b t : ℕ) → target code state.fork b ≡ Some t → ¬ IsLate code t
  pub at_end : (t : ℕ) → state.at_end ≡ Some t → ¬ IsLate code t

-- A state to which the end leads has a late mark, and the end leads no further from it.
abbrev pub IsEnd : CodeValue → Option ℕ → Type 0
IsEnd code at_end = IfSome at_end (λ t. IsLate code t × IsSomeAnd (slice_get code.states t) (λ next. next.at_end ≡ None))

-- The invariant of a code value.
pub record IsSound (code : CodeValue) : Type 0 where
  pub states : All (NamesExisting code) code.states
  pub root : IsSomeAnd (slice_get code.states code.root) (IsRoot code)
  pub ends : All (λ state. IsEnd code state.at_end) code.states
