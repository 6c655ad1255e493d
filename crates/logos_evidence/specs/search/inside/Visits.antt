-- The pending points that were visited, breadth first, and the step to each from its predecessor.
use Rattle.std.specs.Prelude.{◌≡◌, ℕ, ◌+◌, ◌<◌, ◌≤◌, All, Bool, false, List, [], ◌∷◌, ◌++◌, length, Option, Some, slice_get, slice_index_or}
use Rattle.logos_evidence.specs.search.Machines.{after}
use Rattle.logos_evidence.specs.declared.search.visits.PendingPoint.{PendingPoint}
use Rattle.logos_evidence.specs.declared.search.visits.Visit.{Visit}

abbrev pub no_visit : Visit
no_visit = record { from = 0; byte = 0; depth = 0 }

abbrev pub visit_at : List Visit → ℕ → Visit
visit_at ways i = slice_index_or ways i no_visit

-- The number of bytes that lead to the pending point with this number.
abbrev pub depth_at : List Visit → ℕ → ℕ
depth_at ways i = (visit_at ways i).depth

-- A pending point was visited, after at most `depth` bytes.
pub record IsMet (points : List PendingPoint) (ways : List Visit) (pending : PendingPoint) (depth : ℕ) : Type 0 where
  pub number : ℕ
  pub occurs_there : slice_get points number ≡ Some pending
  pub near : depth_at ways number ≤ depth

-- A pending point is added with the way to it, if it was not visited before.
pub data Meets (points : List PendingPoint) (ways : List Visit) (pending : PendingPoint) (way : Visit) (met : List PendingPoint) (found : List Visit) : Type 0 where
  known : (number : ℕ) → slice_get points number ≡ Some pending → met ≡ points → found ≡ ways → Meets points ways pending way met found
  fresh : met ≡ points ++ pending ∷ [] → found ≡ ways ++ way ∷ [] → Meets points ways pending way met found

-- The pending points keep their numbers and their ways.
pub record Grows (points : List PendingPoint) (ways : List Visit) (met : List PendingPoint) (found : List Visit) : Type 0 where
  pub stays : (number : ℕ) (pending : PendingPoint) → slice_get points number ≡ Some pending → slice_get met number ≡ Some pending
  pub depths : (number : ℕ) → number < length points → depth_at found number ≡ depth_at ways number
  pub longer : length points ≤ length met

-- Each way begins at a lower number.
abbrev pub GoDown : List Visit → Type 0
GoDown ways = (number : ℕ) → 0 < number → number < length ways → (visit_at ways number).from < number

module _ (next : PendingPoint → ℕ → Option PendingPoint) where
  -- The way to the pending point with this number: a byte from one with a lower number.
  pub record IsReached (points : List PendingPoint) (ways : List Visit) (number : ℕ) : Type 0 where
    pub before : (visit_at ways number).from < number
    pub is_byte : (visit_at ways number).byte < 256
    pub from : PendingPoint
    pub occurs_before : slice_get points (visit_at ways number).from ≡ Some from
    pub to : PendingPoint
    pub occurs_there : slice_get points number ≡ Some to
    pub step : next from (visit_at ways number).byte ≡ Some to
    pub depth : depth_at ways number ≡ depth_at ways (visit_at ways number).from + 1

  -- The ways to all pending points from the first one, in the order of their lengths.
  pub record IsTree (points : List PendingPoint) (ways : List Visit) : Type 0 where
    pub same : length ways ≡ length points
    pub low : (number : ℕ) → number < length points → depth_at ways number ≤ number
    pub reached : (number : ℕ) → 0 < number → number < length points → IsReached points ways number
    pub rising : (i j : ℕ) → i ≤ j → j < length points → depth_at ways i ≤ depth_at ways j

  -- All pending points are at most `depth` bytes from the first one.
  abbrev pub IsWithin : List PendingPoint → List Visit → ℕ → Type 0
  IsWithin points ways depth = (number : ℕ) → number < length points → depth_at ways number ≤ depth

  -- The pending point to which the byte leads was visited.
  abbrev pub LeadsToMet : List PendingPoint → List Visit → PendingPoint → ℕ → ℕ → Type 0
  LeadsToMet points ways from depth b = (to : PendingPoint) → next from b ≡ Some to → IsMet points ways to (depth + 1)

  -- Each byte leads from the first `count` pending points to visited ones.
  abbrev pub IsClosed : List PendingPoint → List Visit → ℕ → Type 0
  IsClosed points ways count = (number b : ℕ) (from : PendingPoint) → number < count → slice_get points number ≡ Some from →
      b < 256 → LeadsToMet points ways from (depth_at ways number) b

-- None of the first `count` pending points is a goal.
abbrev pub NoGoal : (PendingPoint → Bool) → List PendingPoint → ℕ → Type 0
NoGoal is_goal points count = (number : ℕ) (pending : PendingPoint) → number < count → slice_get points number ≡ Some pending → is_goal pending ≡ false

-- These bytes lead to the pending point with this number, and their number is its depth.
pub record IsWayTo (next : PendingPoint → ℕ → Option PendingPoint) (points : List PendingPoint) (ways : List Visit) (number : ℕ) (to : PendingPoint) (bytes : List ℕ) : Type 0 where
  pub are_bytes : All (λ b. b < 256) bytes
  pub size : length bytes ≡ depth_at ways number
  pub way : (first : PendingPoint) → slice_get points 0 ≡ Some first → after next first bytes ≡ Some to
