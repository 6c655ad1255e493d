-- The results of the steps of a command.
use Rattle.std.specs.Prelude.{◌≡◌, ◌++◌, ◌∷◌, [], ℕ, List, string_bytes}
use Rattle.logos_commands.specs.Diagrams.{Destination, file_at, refused}
use Rattle.logos_commands.specs.Runs.{Effect, prints, makes_file}
use Rattle.logos_commands.specs.Refusals.{IsUnexportedBy}
use Rattle.logos_host.specs.declared.failure.Failure.{Failure}
use Rattle.logos_host.specs.declared.failure.Failure.TheVariants.{Memory}
use Rattle.logos_commands.specs.declared.outcome.CommandOutcome.{CommandOutcome}
use Rattle.logos_commands.specs.declared.outcome.CommandOutcome.TheVariants.{Text, Diagram}

-- The failure at this destination: its path is refused, or memory ran out for its bytes.
abbrev pub FailsAt : Destination → Failure → Type 0
FailsAt (file_at path) failure = failure ≡ Memory
FailsAt (refused why) failure = IsUnexportedBy why failure

-- The effect of an outcome once it is delivered.
abbrev pub effect_of : CommandOutcome → Effect
effect_of (Text text) = prints (string_bytes text)
effect_of (Diagram path text) = makes_file (string_bytes path) (string_bytes text)

-- A text that satisfies `Holds`, and LF.
abbrev pub EndsWithLine : (List ℕ → Type 0) → List ℕ → Type 0
EndsWithLine Holds shown = (text : List ℕ) × Holds text × (shown ≡ text ++ 10 ∷ [])
