-- Inputs that together take all steps that any input takes.
use Rattle.std.specs.Prelude.{◌≡◌, ◌⊎◌, ℕ, Bool, true, false, List, [], ◌∷◌, Option, Contains, IsSomeAnd, IsTrue}
use Rattle.logos_evidence.specs.search.Machines.{IsInput}
use Rattle.logos_evidence.specs.declared.search.point.Point.{Point}
use Rattle.logos_evidence.specs.declared.search.steps.InputStep.{InputStep}

-- The step by a byte from a point to another one.
abbrev pub step_to : Point → Point → InputStep
step_to from to = record { from = from; to = to; ends = false }

-- The step at the end of an input, from the point at which the input ends.
abbrev pub end_at : Point → InputStep
end_at at = record { from = at; to = at; ends = true }

module _ (next : Point → ℕ → Option Point) where
  -- An input takes a step when read from a point.
  abbrev pub Takes : Point → List ℕ → InputStep → Type 0
  Takes at [] step = step ≡ end_at at
  Takes at (b ∷ bytes) step = IsSomeAnd (next at b) (λ to. (step ≡ step_to at to) ⊎ Takes to bytes step)

  -- One of the inputs takes the step.
  abbrev pub OneTakes : Point → List (List ℕ) → InputStep → Type 0
  OneTakes start inputs step = (input : List ℕ) × Contains inputs input × Takes start input step

  -- These inputs take each step that any input takes. An end of an input counts if its point is a
  -- goal.
  pub record AreCovering (is_goal : Point → Bool) (utf8 : Bool) (start : Point) (inputs : List (List ℕ)) : Type 0 where
    pub are_inputs : (input : List ℕ) → Contains inputs input → IsInput utf8 input
    pub all : (bytes : List ℕ) (step : InputStep) → IsInput utf8 bytes → Takes start bytes step →
        (IsTrue step.ends → is_goal step.from ≡ true) → OneTakes start inputs step
