-- The table of options.
use Rattle.std.specs.Prelude.{ℕ, List, [], ◌∷◌, Bool, true, false, ◌||◌, Option, Some, None, bytes_eq, codes, get_or, if◌then◌else◌, is_some, option_map}
use Rattle.logos_options.specs.declared.options.OptionName.{OptionName}
use Rattle.logos_options.specs.declared.options.OptionName.TheVariants as options
use Rattle.logos_options.specs.declared.options.OptionRole.{OptionRole}
use Rattle.logos_options.specs.declared.options.OptionRole.TheVariants.{Setting, Question, Text}
use Rattle.logos_options.specs.declared.options.OptionRow.{OptionRow}

-- A row of the table: an option, its name, its short name if it has one, whether it has a value,
-- its effect, and whether `logos_cli` and `logos_show` take it.
pub record OptionRowValue : Type 0 where
  pub option : OptionName
  pub word : List ℕ
  pub letter : Option (List ℕ)
  pub has_value : Bool
  pub role : OptionRole
  pub cli : Bool
  pub show : Bool

abbrev pub row : OptionName → List ℕ → Option (List ℕ) → Bool → OptionRole → Bool → Bool → OptionRowValue
row option word letter has_value role cli show = record { option = option; word = word; letter = letter; has_value = has_value; role = role; cli = cli; show = show }

-- The table, in the order of the options' numbers.
abbrev pub rows : List OptionRowValue
rows =
    row options.Output (codes "--output") (Some (codes "-o")) true Setting true false
    ∷ row options.Check (codes "--check") (Some (codes "-c")) false Setting true false
    ∷ row options.Shape (codes "--shape") None true Setting true false
    ∷ row options.Enum (codes "--enum") None true Setting false true
    ∷ row options.At (codes "--at") None true Question false true
    ∷ row options.Examples (codes "--examples") None false Question false true
    ∷ row options.Inputs (codes "--inputs") None true Question false true
    ∷ row options.Json (codes "--json") None false Setting false true
    ∷ row options.Expect (codes "--expect") None true Setting false true
    ∷ row options.Compare (codes "--compare") None false Question false true
    ∷ row options.Html (codes "--html") None true Question false true
    ∷ row options.Mermaid (codes "--mermaid") None false Question false true
    ∷ row options.Color (codes "--color") None true Setting true true
    ∷ row options.DenyWarnings (codes "--deny-warnings") None false Setting true true
    ∷ row options.MessageFormat (codes "--message-format") None true Setting true true
    ∷ row options.Help (codes "--help") (Some (codes "-h")) false Text true true
    ∷ row options.Version (codes "--version") (Some (codes "-V")) false Text true true
    ∷ []

-- The index of the row of an option.
abbrev pub number : OptionName → ℕ
number options.Output = 0
number options.Check = 1
number options.Shape = 2
number options.Enum = 3
number options.At = 4
number options.Examples = 5
number options.Inputs = 6
number options.Json = 7
number options.Expect = 8
number options.Compare = 9
number options.Html = 10
number options.Mermaid = 11
number options.Color = 12
number options.DenyWarnings = 13
number options.MessageFormat = 14
number options.Help = 15
number options.Version = 16

-- The row of an option.
abbrev pub row_of : OptionName → OptionRowValue
row_of option = get_or rows (number option) (row option [] None false Setting false false)

-- Whether `word` is the short name of a row.
abbrev pub is_letter : Option (List ℕ) → List ℕ → Bool
is_letter None word = false
is_letter (Some letter) word = bytes_eq word letter

abbrev pub is_named : OptionRowValue → List ℕ → Bool
is_named row word = is_letter row.letter word || bytes_eq word row.word

-- The option of the first of these rows that has the name `word`.
abbrev pub named_in : List OptionRowValue → List ℕ → Option OptionName
named_in [] word = None
named_in (row ∷ rest) word = if is_named row word then Some row.option else named_in rest word

-- The option with a name, such as `--output` or `-o`.
abbrev pub option_named : List ℕ → Option OptionName
option_named word = named_in rows word

-- The name of an option.
abbrev pub word_of : OptionName → List ℕ
word_of option = (row_of option).word

-- Whether an option has a value.
abbrev pub takes_value : OptionName → Bool
takes_value option = (row_of option).has_value

-- The effect of an option.
abbrev pub role_of : OptionName → OptionRole
role_of option = (row_of option).role

-- The view of a row of the code's table, without the lines of the help.
abbrev pub row_value : OptionRow → OptionRowValue
row_value row = record {
  option = row.option;
  word = row.word.now;
  letter = option_map (λ letter. letter.now) row.letter;
  has_value = row.has_value;
  role = row.role;
  cli = is_some row.cli;
  show = is_some row.show;
}
