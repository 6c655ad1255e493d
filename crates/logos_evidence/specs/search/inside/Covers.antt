-- The search for covering inputs: all pending points were visited, and for some the steps from them
-- are covered.
use Rattle.std.specs.Prelude.{◌≡◌, ◌⊎◌, ℕ, ◌<◌, Bool, true, List, ◌∷◌, ◌++◌, length, map, Option, Some, Contains, slice_get}
use Rattle.logos_evidence.specs.search.Covering.{Takes, OneTakes, step_to, end_at}
use Rattle.logos_evidence.specs.search.Machines.{IsInput}
use Rattle.logos_evidence.specs.search.Rests.{more, completion}
use Rattle.logos_evidence.specs.search.inside.PendingPoints.{pending_at, pending_next, pending_goal}
use Rattle.logos_evidence.specs.search.inside.Visits.{IsTree, IsClosed, IsWayTo}
use Rattle.logos_evidence.specs.declared.search.cover.Cover.{Cover}
use Rattle.logos_evidence.specs.declared.search.cover.Explored.{Explored}
use Rattle.logos_evidence.specs.declared.search.point.Point.{Point}
use Rattle.logos_evidence.specs.declared.search.utf8.Rest.{Rest}
use Rattle.logos_evidence.specs.declared.search.steps.InputStep.{InputStep}
use Rattle.logos_evidence.specs.declared.search.visits.PendingPoint.{PendingPoint}
use Rattle.logos_evidence.specs.declared.search.visits.Visit.{Visit}

-- `points` are all pending points to which inputs lead from `start`, and `ways` are the steps to
-- them.
pub record IsExplored (next : Point → ℕ → Option Point) (utf8 : Bool) (start : Point) (points : List PendingPoint) (ways : List Visit) : Type 0 where
  pub first : slice_get points 0 ≡ Some (pending_at start (more 0))
  pub tree : IsTree (pending_next next utf8) points ways
  pub closed : IsClosed (pending_next next utf8) points ways (length points)

-- The explored points are all pending points to which inputs lead from the start.
abbrev pub HasExplored : (Point → ℕ → Option Point) → Explored → Type 0
HasExplored next explored =
    IsExplored next explored.utf8 explored.start explored.visits.points.keys explored.visits.ways.items

-- The bytes lead to a pending point, and then by one more byte into a character that they complete.
pub record IsWayBy (points : List PendingPoint) (ways : List Visit) (number byte : ℕ) (rest : Rest) (bytes : List ℕ) : Type 0 where
  pub front : List ℕ
  pub parts : bytes ≡ front ++ byte ∷ completion rest
  pub way : (next : PendingPoint → ℕ → Option PendingPoint) (to : PendingPoint) → IsTree next points ways → slice_get points number ≡ Some to →
      IsWayTo next points ways number to front

-- An input was added, with the steps that it takes.
pub record Adds (next : Point → ℕ → Option Point) (start : Point) (steps : List InputStep) (input : List ℕ) (more : List InputStep) : Type 0 where
  pub only : (step : InputStep) → Contains more step → Contains steps step ⊎ Takes next start input step
  pub grows : (step : InputStep) → Contains steps step → Contains more step
  pub all : (step : InputStep) → Takes next start input step → Contains more step

-- Inputs that together take each of the steps.
pub record IsCover (next : Point → ℕ → Option Point) (utf8 : Bool) (start : Point) (steps : List InputStep) (inputs : List (List ℕ)) : Type 0 where
  pub are_inputs : (input : List ℕ) → Contains inputs input → IsInput utf8 input
  pub taken : (step : InputStep) → Contains steps step → OneTakes next start inputs step

-- The inputs of a cover take each of its steps.
abbrev pub CoversSteps : (Point → ℕ → Option Point) → Explored → Cover → Type 0
CoversSteps next explored cover =
    IsCover next explored.utf8 explored.start cover.steps.keys (map (λ v. v.items) cover.inputs.items)

-- A cover has all steps of another one.
abbrev pub HasStepsOf : Cover → Cover → Type 0
HasStepsOf old new = (step : InputStep) → Contains old.steps.keys step → Contains new.steps.keys step

-- The step from a pending point by a byte is covered, if there is one.
abbrev pub IsCoveredBy : (Point → ℕ → Option Point) → Bool → List InputStep → PendingPoint → ℕ → Type 0
IsCoveredBy next utf8 steps at b = (to : PendingPoint) → pending_next next utf8 at b ≡ Some to → Contains steps (step_to at.point to.point)

-- All steps from a pending point are covered, and the end of the input there if it is a goal.
pub record AreCoveredAt (next : Point → ℕ → Option Point) (is_goal : Point → Bool) (utf8 : Bool) (steps : List InputStep) (at : PendingPoint) : Type 0 where
  pub bytes : (b : ℕ) → b < 256 → IsCoveredBy next utf8 steps at b
  pub end : pending_goal is_goal at ≡ true → Contains steps (end_at at.point)
