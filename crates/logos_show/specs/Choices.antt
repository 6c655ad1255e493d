-- The requested enum of a file, and the refusals of files without it.
use Rattle.std.specs.Prelude.{◌≡◌, ◌++◌, ℕ, List, [], ◌∷◌, Option, Some, None, codes, if◌then◌else◌, string_bytes}
use Rattle.logos_host.specs.Failures.{status_of}
use Rattle.logos_host.specs.declared.failure.Failure.{Failure}
use Rattle.logos_host.specs.declared.failure.Failure.TheVariants as failures
use Rattle.logos_options.specs.Arguments.{setting, settings_value}
use Rattle.logos_options.specs.declared.arguments.Settings.{Settings}
use Rattle.logos_options.specs.declared.options.OptionName.TheVariants as options
use Rattle.logos_page.specs.Shown.{shown_text}
use Rattle.logos_report.specs.Locations.{SourceValue}
use Rattle.logos_rust_file.specs.declared.finder.FoundEnum.{FoundEnum}
use Rattle.logos_rust_file.specs.Files.{AreEnumsOf}
use Rattle.logos_rust_file.specs.Handed.{EndsReading}
use Rattle.logos_rust_file.specs.Paths.{IsPathOf}
use Rattle.logos_show.specs.Candidates.{Selects}
use Rattle.logos_show.specs.declared.choice.Choice.{Choice}
use Rattle.logos_show.specs.declared.choice.Chosen.{Chosen}
use Rattle.logos_show.specs.declared.choice.Chosen.TheVariants.{Nothing, One, Several}
use Rattle.logos_token.specs.Faults.{Fault}

-- The name of an enum in the settings, if one is given.
abbrev pub name_requested : Settings → Option (List ℕ)
name_requested settings = setting options.Enum (settings_value settings)

-- The first of these enums that derives `Logos`.
abbrev pub first_deriving : List FoundEnum → Option FoundEnum
first_deriving [] = None
first_deriving (one ∷ rest) = if one.derives then Some one else first_deriving rest

-- The first enum that is selected.
abbrev pub chosen_first : Chosen → Option FoundEnum
chosen_first Nothing = None
chosen_first (One one) = Some one
chosen_first (Several one other) = Some one

-- The selection among these enums of a text: by a name, if one is given, and otherwise the first
-- one that derives `Logos`.
abbrev pub IsChosen : List ℕ → List FoundEnum → Option (List ℕ) → Chosen → Type 0
IsChosen text found None chosen = chosen_first chosen ≡ first_deriving found
IsChosen text found (Some name) chosen = Selects text found name chosen

-- The selection among all enums of a text.
pub record IsChosenIn (text : List ℕ) (name : Option (List ℕ)) (chosen : Chosen) : Type 0 where
  pub found : List FoundEnum
  pub are : AreEnumsOf text found
  pub is : IsChosen text found name chosen

-- The requested enum among these. With a name, it alone is selected by the name, and otherwise it
-- is the first one that derives `Logos`.
abbrev pub IsTaken : List ℕ → List FoundEnum → Option (List ℕ) → FoundEnum → Type 0
IsTaken text found None one = first_deriving found ≡ Some one
IsTaken text found (Some name) one = Selects text found name (One one)

-- A requested enum of a text.
pub record IsLexerOf (text : List ℕ) (name : Option (List ℕ)) (one : FoundEnum) : Type 0 where
  pub found : List FoundEnum
  pub are : AreEnumsOf text found
  pub is : IsTaken text found name one

-- The first enum that derives `Logos`, after one more enum.
abbrev pub first_near : Option FoundEnum → FoundEnum → Option FoundEnum
first_near (Some first) one = Some first
first_near None one = Some one

-- The first enum that derives `Logos` is selected, after one more enum.
abbrev pub IsNextChoice : Choice → FoundEnum → Choice → Type 0
IsNextChoice choice one next = next.first ≡ (if one.derives then first_near choice.first one else choice.first)

-- ---- Refusals

-- A text cannot be read into tokens, and this is its one fault.
abbrev pub IsUnreadable : List ℕ → List Fault → Type 0
IsUnreadable text faults = (ending : Fault) × EndsReading text ending × (faults ≡ ending ∷ [])

-- The name of an enum in a message, if one is given.
abbrev pub name_text : Option (List ℕ) → List ℕ
name_text None = []
name_text (Some name) = codes "`" ++ (shown_text name ++ codes "` ")

-- The message about a file without the requested lexer.
abbrev pub no_lexer_text : List ℕ → Option (List ℕ) → List ℕ
no_lexer_text file name = codes "error: no enum " ++ (name_text name ++ (codes "in " ++ (shown_text file ++ codes " derives `Logos`\n")))

-- The beginning of the message about a name that two enums have.
abbrev pub several_text : List ℕ → List ℕ → List ℕ
several_text file name = codes "error: several enums " ++ (name_text (Some name) ++ (codes "in " ++ (shown_text file ++ codes " derive `Logos`: ")))

-- The path of the second enum, in the message about a name that two enums have.
abbrev pub other_text : List ℕ → List ℕ
other_text path = codes "and `" ++ (shown_text path ++ codes "`\n")

-- The help, in the message about a name that two enums have.
abbrev pub help_text : List ℕ → List ℕ
help_text path = codes "help: give the path of one, as in `--enum " ++ (shown_text path ++ codes "`\n")

-- The message about a name that two enums have, with their paths.
pub record IsSeveralText (source : SourceValue) (name : List ℕ) (one other : FoundEnum) (shown : List ℕ) : Type 0 where
  pub first : List ℕ
  pub second : List ℕ
  pub of_first : IsPathOf source.text one first
  pub of_second : IsPathOf source.text other second
  pub is : shown ≡ several_text source.path name ++ (name_text (Some first) ++ (other_text second ++ help_text first))

-- The failure is a refusal with a text that satisfies `Shown`, or a file, an output or memory
-- failed.
abbrev pub RefusesBy : (List ℕ → Type 0) → Failure → Type 0
RefusesBy Shown (failures.Refused text) = Shown (string_bytes text)
RefusesBy Shown failure = status_of failure ≡ 3

-- The failure is a refusal, or a file, an output or memory failed.
abbrev pub IsRefusal : Failure → Type 0
IsRefusal = RefusesBy (λ shown. Unit {0})

-- The cause of a refusal that shows a text: the file cannot be read into tokens; or no enum of it
-- is selected, which the text states; or two enums have the given name, which it states.
pub data IsCause (source : SourceValue) (name : Option (List ℕ)) (shown : List ℕ) : Type 0 where
  unreadable : {faults : List Fault} → IsUnreadable source.text faults → IsCause source name shown
  nothing : IsChosenIn source.text name Nothing → shown ≡ no_lexer_text source.path name → IsCause source name shown
  several : {given : List ℕ} {one other : FoundEnum} → name ≡ Some given → IsChosenIn source.text name (Several one other) → IsSeveralText source given one other shown → IsCause source name shown
