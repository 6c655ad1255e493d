-- The arguments of a command line, one after another.
use Rattle.std.specs.Prelude.{ℕ, ◌==◌, List, [], ◌∷◌, Bool, true, false, Option, Some, None, if◌then◌else◌, option_map, bytes_eq, codes, length}
use Rattle.std.specs.List.{after_first, before_first, position_or_len}
use Rattle.logos_options.specs.declared.options.OptionName.{OptionName}
use Rattle.logos_options.specs.declared.argument_steps.ArgumentProgress.{ArgumentProgress}
use Rattle.logos_options.specs.declared.argument_steps.ArgumentStep.{ArgumentStep}
use Rattle.logos_options.specs.declared.argument_steps.GivenOption.{GivenOption}
use Rattle.logos_options.specs.declared.argument_steps.Use.{Use}
use Rattle.logos_options.specs.declared.argument_steps.Use.TheVariants as uses
use Rattle.logos_options.specs.Options.{option_named, takes_value}

-- An option with its value, which is empty for an option that takes none.
pub record OptionValue : Type 0 where
  pub option : OptionName
  pub value : List ℕ

-- The meaning of an argument, or of two: a path, or an option.
pub data UseValue : Type 0 where
  path : (word : List ℕ) → UseValue
  given : (one : OptionValue) → UseValue

-- The meaning of one more argument, and the state of reading after it.
pub record StepValue : Type 0 where
  pub progress : ArgumentProgress
  pub found : Option UseValue

abbrev pub finds : ArgumentProgress → UseValue → Option StepValue
finds progress one = Some (record { progress = progress; found = Some one })

-- Whether an argument begins with `-` and has further bytes.
abbrev pub begins_option : List ℕ → Bool
begins_option (byte ∷ next ∷ rest) = byte == 45
begins_option word = false

abbrev pub is_equals : ℕ → Bool
is_equals byte = byte == 61

-- The parts before and after the first `=` of an argument, if it has one.
abbrev pub split_at_equals : List ℕ → Option (List ℕ × List ℕ)
split_at_equals word =
    if position_or_len is_equals word == length word then None
    else Some (before_first is_equals word, after_first is_equals word)

-- The step for an option and the value after its `=`, if the option takes a value.
abbrev pub with_value : ArgumentProgress → Option OptionName → List ℕ → Option StepValue
with_value progress None word = None
with_value progress (Some option) word = if takes_value option then finds progress (given (record { option = option; value = word })) else None

abbrev pub with_split : ArgumentProgress → Option (List ℕ × List ℕ) → Option StepValue
with_split progress None = None
with_split progress (Some parts) = with_value progress (option_named parts.0) parts.1

-- The step for an argument that begins with `-` and is not an option by itself: an option and its
-- value, separated by `=`.
abbrev pub with_assigned : ArgumentProgress → List ℕ → Option StepValue
with_assigned progress word = with_split progress (split_at_equals word)

-- The step for an argument that may be an option. If the option takes a value, the next argument is
-- the value.
abbrev pub with_option : ArgumentProgress → Option OptionName → List ℕ → Option StepValue
with_option progress (Some option) word =
    if takes_value option then Some (record { progress = record { pending = Some option; is_over = false }; found = None })
    else finds progress (given (record { option = option; value = [] }))
with_option progress None word = if begins_option word then with_assigned progress word else finds progress (path word)

-- The step for an argument that is not the value of an option. After `--` all arguments are paths.
abbrev pub with_written : ArgumentProgress → List ℕ → Option StepValue
with_written progress word =
    if bytes_eq word (codes "--") then Some (record { progress = record { pending = None; is_over = true }; found = None })
    else with_option progress (option_named word) word

abbrev pub with_pending : ArgumentProgress → Option OptionName → List ℕ → Option StepValue
with_pending progress (Some option) word = finds (record { pending = None; is_over = progress.is_over }) (given (record { option = option; value = word }))
with_pending progress None word = if progress.is_over then finds progress (path word) else with_written progress word

-- The step for one more argument, if the argument is valid.
abbrev pub step : ArgumentProgress → List ℕ → Option StepValue
step progress word = with_pending progress progress.pending word

-- The views of an option with its value, and of the meaning of an argument.
abbrev pub option_value : GivenOption → OptionValue
option_value one = record { option = one.option; value = one.value.now }

abbrev pub use_value : Use → UseValue
use_value (uses.Path word) = path word.now
use_value (uses.Given one) = given (option_value one)

-- The view of a step.
abbrev pub step_value : ArgumentStep → StepValue
step_value next = record { progress = next.progress; found = option_map use_value next.found }
