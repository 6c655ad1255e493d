-- Runs on an input that grows, and on a part of an input.
use Rattle.std.specs.Prelude.{◌≡◌, ℕ, suc, ◌+◌, ◌<◌, ◌≤◌, ◌⊎◌, List, [], ◌∷◌, ◌++◌, length, take, drop, map, Option, Some, None, slice_get, slice_range, IsCharBoundary, IsSome, IsTrue, IsUtf8}
use Rattle.logos_automaton.specs.Munch.{Use, Found, ended, matched, failed}
use Rattle.logos_code.specs.Code.{CodeValue, CodeState, Fork, by_conditions, by_table}
use Rattle.logos_code.specs.Headline.{IsSound}
use Rattle.logos_code.specs.Items.{Callback, Search, Item, token, error, MayAnswer, items_of}
use Rattle.logos_code.specs.Runs.{Status, enters, acts, looped, Does, Acts, Attempts, CodeFinds, Runs, RunsOn}
use Rattle.logos_code.specs.declared.action.Action.{Action}

-- The status at the start of an attempt.
abbrev pub first_status : CodeValue → ℕ → Status
first_status code start = record { state = code.root; offset = start; context = None }

-- The end of the fast loop of a state that is entered at the offset.
abbrev pub stop_at : CodeValue → List ℕ → CodeState → ℕ → ℕ
stop_at code bytes state offset = offset + looped code state.fast_loop (drop offset bytes)

-- The fork has no branch.
abbrev pub NoBranches : Fork → Type 0
NoBranches (by_conditions []) = Unit {0}
NoBranches (by_conditions (branch ∷ branches)) = ⊥
NoBranches (by_table entries) = ⊥

-- The fork has a branch.
abbrev pub HasBranches : Fork → Type 0
HasBranches (by_conditions []) = ⊥
HasBranches (by_conditions (branch ∷ branches)) = Unit {0}
HasBranches (by_table entries) = Unit {0}

-- The state has no transition on a byte or on the end of the input, and no fast loop. Its turn is
-- the same regardless of the bytes that follow.
pub record IsClosed (state : CodeState) : Type 0 where
  pub fast_loop : state.fast_loop ≡ None
  pub fork : NoBranches state.fork
  pub at_end : state.at_end ≡ None

-- The state has a transition on a byte or on the end of the input, or a fast loop.
abbrev pub IsOpen : CodeState → Type 0
IsOpen state = IsSome state.fast_loop ⊎ (HasBranches state.fork ⊎ IsSome state.at_end)

module _ (code : CodeValue) (bytes : List ℕ) (start seen : ℕ) where
  -- The turn of the state depends only on the first `seen` bytes: its fast loop ends before one of
  -- them, or the state is closed, after the first byte of the attempt.
  abbrev pub StopsWithin : Status → Type 0
  StopsWithin at = (state : CodeState) × (slice_get code.states at.state ≡ Some state) × ((stop_at code bytes state at.offset < seen) ⊎ (IsClosed state × (start < at.offset)))

  -- In UTF-8 mode an error ends at the end of these bytes or before it.
  abbrev pub EndsWithin : Found → Type 0
  EndsWithin ended = Unit {0}
  EndsWithin (matched leaf to) = Unit {0}
  EndsWithin (failed to) = IsTrue code.utf8 → to ≤ seen

  -- From this status on, the attempt has this result in this number of states, and depends only on
  -- the first `seen` bytes.
  pub data AttemptsFromWithin : Status → Found → ℕ → Type 0 where
    leads_within : (at next : Status) (found : Found) (n : ℕ) → StopsWithin at →
        Does code bytes start at (enters next) → AttemptsFromWithin next found n → AttemptsFromWithin at found (suc n)
    acts_within : (at : Status) (context : Option (ℕ × ℕ)) (offset : ℕ) (found : Found) → StopsWithin at →
        Does code bytes start at (acts context offset) → Acts code bytes start context offset found → EndsWithin found → AttemptsFromWithin at found 1

  -- An attempt from the start has this result in this number of states, and depends only on the
  -- first `seen` bytes.
  abbrev pub AttemptsWithin : Found → ℕ → Type 0
  AttemptsWithin = AttemptsFromWithin (first_status code start)

-- The result of the attempt is open at the end of the bytes: it reaches the end before its first
-- byte, or in a state with a transition on more bytes or on the end of the input.
pub data LooksPast (code : CodeValue) (bytes : List ℕ) (start : ℕ) : Status → Type 0 where
  looks_here : (at : Status) (state : CodeState) → slice_get code.states at.state ≡ Some state →
      length bytes ≤ stop_at code bytes state at.offset → (at.offset ≤ start) ⊎ IsOpen state → LooksPast code bytes start at
  looks_later : (at next : Status) → Does code bytes start at (enters next) → LooksPast code bytes start next → LooksPast code bytes start at

-- The result of an attempt that depends only on the first bytes is the result of an attempt in each
-- input that begins with these bytes. In UTF-8 mode, no character extends over their end.
abbrev pub AttemptsAgree : Type 0
AttemptsAgree = (code : CodeValue) (bytes others : List ℕ) (start seen n : ℕ) (found : Found) → seen ≤ length bytes →
    take seen bytes ≡ take seen others → (IsTrue code.utf8 → IsCharBoundary others seen) → AttemptsWithin code bytes start seen found n →
    AttemptsWithin code others start seen found n × Attempts code others start found n

-- The bytes that may follow a part: in UTF-8 mode, UTF-8.
abbrev pub MayFollow : CodeValue → List ℕ → Type 0
MayFollow code rest = IsTrue code.utf8 → IsUtf8 rest

-- The result, moved by this number of bytes.
abbrev pub found_later : ℕ → Found → Found
found_later far ended = ended
found_later far (matched leaf to) = matched leaf (far + to)
found_later far (failed to) = failed (far + to)

-- An item, moved by this number of bytes.
abbrev pub item_later : ℕ → Item → Item
item_later far (token leaf from to slice) = token leaf (far + from) (far + to) slice
item_later far (error leaf from to slice) = error leaf (far + from) (far + to) slice

-- Matches without an item lead from one point to the other: their leaves skip, or the actions of
-- their callbacks do.
pub data PassesOver (uses : List Use) (callback : Callback) (bytes : List ℕ) (search : Search) : ℕ → ℕ → Type 0 where
  passes_none : (at : ℕ) → PassesOver uses callback bytes search at at
  passes_match : (from to leaf : ℕ) (answer : Action) (end : ℕ) → search from (matched leaf to) →
      MayAnswer uses callback bytes leaf (slice_range bytes from to) answer → items_of uses callback bytes answer leaf from to ≡ [] →
      PassesOver uses callback bytes search to end → PassesOver uses callback bytes search from end

-- A run of the code leads from one point to the other without an item.
abbrev pub RunsOver : CodeValue → Callback → List ℕ → ℕ → ℕ → Type 0
RunsOver code callback bytes = PassesOver code.leaves callback bytes (CodeFinds code bytes)

-- Runs do not depend on the bytes before them: with other bytes in front, each yields the same
-- items, moved by the number of these bytes.
pub record RunsGoLater (callback : Callback) : Type 0 where
  pub attempts : (code : CodeValue) (front bytes : List ℕ) (start n : ℕ) (found : Found) → IsSound code → Attempts code bytes start found n →
      Attempts code (front ++ bytes) (length front + start) (found_later (length front) found) n
  pub runs : (code : CodeValue) (front bytes : List ℕ) (from : ℕ) (items : List Item) → IsSound code → Runs code callback bytes from items →
      Runs code callback (front ++ bytes) (length front + from) (map (item_later (length front)) items)
  pub next : (code : CodeValue) (front bytes : List ℕ) (from end : ℕ) (item : Item) → IsSound code → RunsOn code callback bytes from item end →
      RunsOn code callback (front ++ bytes) (length front + from) (item_later (length front) item) (length front + end)
  pub over : (code : CodeValue) (front bytes : List ℕ) (from end : ℕ) → IsSound code → RunsOver code callback bytes from end →
      RunsOver code callback (front ++ bytes) (length front + from) (length front + end)

-- These items were found in a prefix of an input, up to a point: they, followed by the rest of a
-- run from that point on, are a whole run, regardless of the bytes after the prefix.
abbrev pub AreBegun : CodeValue → Callback → List ℕ → List Item → ℕ → Type 0
AreBegun code callback begun items to = (rest : List ℕ) → MayFollow code rest → (later : List Item) → Runs code callback (begun ++ rest) to later →
    Runs code callback (begun ++ rest) 0 (items ++ later)

-- The items of parts are items of the whole. A part is at an offset of the prefix, and the items
-- that are found in it, regardless of the bytes that follow, are found there in the whole.
pub record PartsAreOfTheWhole (callback : Callback) : Type 0 where
  pub none : (code : CodeValue) (begun : List ℕ) → AreBegun code callback begun [] 0
  pub grown : (code : CodeValue) (begun added : List ℕ) (items : List Item) (to : ℕ) → MayFollow code added → AreBegun code callback begun items to →
      AreBegun code callback (begun ++ added) items to
  pub item : (code : CodeValue) (front part : List ℕ) (items : List Item) (from to : ℕ) (item : Item) → IsSound code →
      AreBegun code callback (front ++ part) items (length front + from) →
      ((rest : List ℕ) → MayFollow code rest → RunsOn code callback (part ++ rest) from item to) →
      AreBegun code callback (front ++ part) (items ++ item_later (length front) item ∷ []) (length front + to)
  pub over : (code : CodeValue) (front part : List ℕ) (items : List Item) (from to : ℕ) → IsSound code →
      AreBegun code callback (front ++ part) items (length front + from) →
      ((rest : List ℕ) → MayFollow code rest → RunsOver code callback (part ++ rest) from to) → AreBegun code callback (front ++ part) items (length front + to)
  pub end : (code : CodeValue) (front part : List ℕ) (items later : List Item) (from : ℕ) → IsSound code →
      AreBegun code callback (front ++ part) items (length front + from) →
      Runs code callback part from later → Runs code callback (front ++ part) 0 (items ++ map (item_later (length front)) later)
