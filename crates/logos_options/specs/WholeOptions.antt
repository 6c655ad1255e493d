-- Arguments that are whole options.
use Rattle.std.specs.Prelude.{◌≡◌, ◌≢◌, ℕ, List, [], ◌∷◌, false, Some, None}
use Rattle.logos_options.specs.ArgumentSteps.{OptionValue, given, step}
use Rattle.logos_options.specs.Options.{number, role_of}
use Rattle.logos_options.specs.Paths.{not_begun}
use Rattle.logos_options.specs.declared.options.OptionName.{OptionName}
use Rattle.logos_options.specs.declared.options.OptionRole.TheVariants as roles

-- The arguments are these options with their values, in order: each in one argument, or with its
-- value in the next one.
pub data AreWhole : List (List ℕ) → List OptionValue → Type 0 where
  nothing : AreWhole [] []
  in_one : {word : List ℕ} {one : OptionValue} {arguments : List (List ℕ)} {rest : List OptionValue} →
      step not_begun word ≡ Some (record { progress = not_begun; found = Some (given one) }) → AreWhole arguments rest → AreWhole (word ∷ arguments) (one ∷ rest)
  in_two : {word value : List ℕ} {option : OptionName} {arguments : List (List ℕ)} {rest : List OptionValue} →
      step not_begun word ≡ Some (record { progress = record { pending = Some option; is_over = false }; found = None }) → AreWhole arguments rest →
      AreWhole (word ∷ value ∷ arguments) (record { option = option; value = value } ∷ rest)

-- None of these options requests a text.
abbrev pub AreSettled : List OptionValue → Type 0
AreSettled [] = Unit {0}
AreSettled (one ∷ rest) = (role_of one.option ≢ roles.Text) × AreSettled rest

-- The option is none of those in the list.
abbrev pub IsOther : OptionValue → List OptionValue → Type 0
IsOther one [] = Unit {0}
IsOther one (other ∷ rest) = (number one.option ≢ number other.option) × IsOther one rest

-- No option is in both lists.
abbrev pub AreApart : List OptionValue → List OptionValue → Type 0
AreApart [] second = Unit {0}
AreApart (one ∷ rest) second = IsOther one second × AreApart rest second
