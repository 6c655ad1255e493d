-- States of the automaton, as the information that it keeps about the bytes that were read.
use Rattle.std.specs.Prelude.{◌≡◌, ℕ, ◌+◌, ◌<◌, ◌≤◌, Bool, true, false, IsTrue, List, [], ◌∷◌, Some, None, length, map, slice_get, slice_index, slice_index_or}
use Rattle.logos_automaton.specs.inside.Alike.{AreFirstBytes}
use Rattle.logos_positions.specs.Core.{Core}
use Rattle.logos_positions.specs.Kinds.{test_at, kind_of_byte}
use Rattle.logos_positions.specs.Marks.{Has, IsRising}
use Rattle.logos_positions.specs.Several.{ReadBy, LeftBy}
use Rattle.logos_automaton.specs.Automaton.{Automaton}
use Rattle.logos_automaton.specs.declared.key.Key.{Key}
use Rattle.logos_positions.specs.declared.positions.look.ByteKind.{ByteKind}
use Rattle.logos_positions.specs.declared.positions.look.ByteKind.TheVariants as kind

-- The state that a key represents.
pub record State : Type 0 where
  pub positions : List ℕ
  pub kind : ByteKind
  pub matches : List ℕ

-- The state that a key represents.
abbrev pub state_of : Key → State
state_of k = record { positions = k.positions.items; kind = k.kind; matches = k.matches.items }

-- No byte was read.
abbrev pub is_start : ByteKind → Bool
is_start kind.Start = true
is_start kind.Unseen = false
is_start kind.Word = false
is_start kind.Cr = false
is_start kind.Lf = false
is_start kind.Other = false

-- The state before the first byte.
abbrev pub start_state : State
start_state = record { positions = []; kind = kind.Start; matches = [] }

-- The state from which nothing matches.
abbrev pub dead_state : State
dead_state = record { positions = []; kind = kind.Unseen; matches = [] }

-- The state after the end that lists the patterns `matches`.
abbrev pub ended_state : List ℕ → State
ended_state matches = record { positions = []; kind = kind.Unseen; matches = matches }

-- The kind of the byte `x`, read at these positions. It is `Unseen` if there are no positions or no
-- tree has a look-around assertion.
abbrev pub next_kind : Bool → List ℕ → ℕ → ByteKind
next_kind looks [] x = kind.Unseen
next_kind false (p ∷ positions) x = kind.Unseen
next_kind true (p ∷ positions) x = kind_of_byte x

module _ (ts : List Core) (looks : Bool) where
  -- The byte `x` leads from one state to the next.
  pub record IsNext (s : State) (x : ℕ) (next : State) : Type 0 where
    pub positions : ReadBy ts (test_at (record { before = s.kind; after = Some x })) x (Has s.positions) (IsTrue (is_start s.kind)) next.positions
    pub matches : LeftBy ts (test_at (record { before = s.kind; after = Some x })) (Has s.positions) (IsTrue (is_start s.kind)) next.matches
    pub kind : next.kind ≡ next_kind looks next.positions x

-- The end leads from one state to the next.
pub record IsLast (ts : List Core) (s next : State) : Type 0 where
  pub positions : next.positions ≡ []
  pub matches : LeftBy ts (test_at (record { before = s.kind; after = None })) (Has s.positions) (IsTrue (is_start s.kind)) next.matches
  pub kind : next.kind ≡ kind.Unseen

-- State `i` is `s`.
pub record IsAt (ks : List Key) (i : ℕ) (s : State) : Type 0 where
  pub key : Key
  pub is : slice_get ks i ≡ Some key
  pub same : state_of key ≡ s

-- States are added, and the existing states keep their numbers.
pub record Grows (old new : List Key) : Type 0 where
  pub keeps : (i : ℕ) (s : State) → IsAt old i s → IsAt new i s

-- The positions of each state ascend.
pub record AreRising (ks : List Key) : Type 0 where
  pub rising : (i : ℕ) (s : State) → IsAt ks i s → IsRising s.positions

-- No two numbers have the same state.
pub record AreDistinct (ks : List Key) : Type 0 where
  pub distinct : (i j : ℕ) (s : State) → IsAt ks i s → IsAt ks j s → i ≡ j

-- The states that can be reached from the start.
pub data IsReached (ts : List Core) (looks : Bool) : State → Type 0 where
  at_start : IsReached ts looks start_state
  by_byte : (s next : State) (x : ℕ) → x < 256 → IsReached ts looks s → IsNext ts looks s x next → IsReached ts looks next
  by_end : (s next : State) → IsReached ts looks s → IsLast ts s next → IsReached ts looks next

-- Each state can be reached.
pub record AreReached (ts : List Core) (looks : Bool) (ks : List Key) : Type 0 where
  pub reached : (i : ℕ) (s : State) → IsAt ks i s → IsReached ts looks s

-- At most `n` states are added, and the list remains valid.
pub record Extends (ts : List Core) (looks : Bool) (old new : List Key) (n : ℕ) : Type 0 where
  pub grows : Grows old new
  pub rising : AreRising old → AreRising new
  pub distinct : AreDistinct old → AreDistinct new
  pub reached : AreReached ts looks old → AreReached ts looks new
  pub longer : length old ≤ length new
  pub few : length new ≤ length old + n

-- The byte `x` leads from state `i` to state `j`.
pub record LeadsTo (ts : List Core) (looks : Bool) (ks : List Key) (i x j : ℕ) : Type 0 where
  pub from : State
  pub to : State
  pub from_is : IsAt ks i from
  pub to_is : IsAt ks j to
  pub next : IsNext ts looks from x to

-- The flag of each byte that state `i` distinguishes from the byte before is set.
pub record AreFirstIn (ts : List Core) (looks : Bool) (ks : List Key) (i : ℕ) (first : List Bool) : Type 0 where
  pub state : State
  pub at : IsAt ks i state
  pub are : AreFirstBytes ts looks (Has state.positions) (IsTrue (is_start state.kind)) first

-- The end leads from state `i` to state `j`.
pub record EndsIn (ts : List Core) (ks : List Key) (i j : ℕ) : Type 0 where
  pub from : State
  pub to : State
  pub from_is : IsAt ks i from
  pub to_is : IsAt ks j to
  pub last : IsLast ts from to

-- The first `n` cells of the row of state `i` are correct.
abbrev pub IsRow : List Core → Bool → List Key → ℕ → List ℕ → ℕ → Type 0
IsRow ts looks ks i row n = (x : ℕ) → x < n → LeadsTo ts looks ks i x (slice_index row x)

-- The first `n` states have their rows and their targets for the end.
pub record AreRows (ts : List Core) (looks : Bool) (ks : List Key) (rows : List (List ℕ)) (ends : List ℕ) (n : ℕ) : Type 0 where
  pub wide : (i : ℕ) → i < n → length (slice_index_or rows i []) ≡ 256
  pub rows_are : (i : ℕ) → i < n → IsRow ts looks ks i (slice_index_or rows i []) 256
  pub ends_are : (i : ℕ) → i < n → EndsIn ts ks i (slice_index ends i)

-- The automaton of these parts.
abbrev pub automaton_of : ℕ → List Key → List (List ℕ) → List ℕ → Automaton
automaton_of start ks rows ends = record {
  start = start;
  by_byte = rows;
  at_end = ends;
  matches = map (λ k. k.matches.items) ks;
}

-- An automaton with these parts is the automaton of the patterns.
pub record IsBuilt (ts : List Core) (looks : Bool) (start : ℕ) (ks : List Key) (rows : List (List ℕ)) (ends : List ℕ) : Type 0 where
  pub start_is : IsAt ks start start_state
  pub rows_count : length rows ≡ length ks
  pub ends_count : length ends ≡ length ks
  pub rows_are : AreRows ts looks ks rows ends (length ks)
