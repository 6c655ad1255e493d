-- Subpatterns, in source order. Each may use the ones before it.
use Rattle.std.specs.Prelude.{◌≡◌, ℕ, Bool, true, false, not, ◌&&◌, List, [], ◌∷◌, ◌++◌, codes, Option, Some, None, if◌then◌else◌}
use Rattle.std.specs.List.{list_all}
use Rattle.std.specs.Str.{bytes_eq, chars}
use Rattle.logos_token.specs.declared.error.fault_code.FaultCode.TheVariants.{SubpatternName, SubpatternTwice, Utf8Subpattern}
use Rattle.logos_token.specs.Faults.{Fault}
use Rattle.logos_token.specs.Held.{Held, of_text, of_bytes}
use Rattle.logos_pattern.specs.Escaping.{escaped_text, escaped_bytes}
use Rattle.logos_hir.specs.Measure.{is_text}
use Rattle.logos_hir.specs.Tree.{Tree}
use Rattle.logos_type_params.specs.TypeParams.{previous}
use Rattle.logos_attribute.specs.Slices.{Slice}
use Rattle.logos_attribute.specs.Literals.{NamedLiteral}
use Rattle.logos_attribute.specs.Reports.{Report, with_faults, without_faults, and_then, fault, fault_about, only, IsReport}
use Rattle.logos_leaf.specs.subpattern.PatternFaults.{Reading, spelled, broken, too_deep, Reads, pattern_faults}
use Rattle.logos_leaf.specs.subpattern.Substitution.{is_word, Stored, stored_at, subst_report}

-- The text is a name: one or more digits, ASCII letters and `_`.
abbrev pub is_name : List ℕ → Bool
is_name [] = false
is_name (c ∷ rest) = list_all is_word (c ∷ rest)

-- The pattern text that a literal's value spells.
abbrev pub pattern_text : Held → List ℕ
pattern_text (of_text value) = escaped_text false value
pattern_text (of_bytes value) = escaped_bytes false value

-- The text that opens the group of a subpattern, and sets its flags regardless of the flags around
-- it.
abbrev pub flags_of : Held → List ℕ
flags_of (of_text value) = codes "(?u:"
flags_of (of_bytes value) = codes "(?-u:"

-- The pattern text of a literal in a group that sets its flags.
abbrev pub wrapped : Held → List ℕ
wrapped held = (flags_of held ++ pattern_text held) ++ codes ")"

abbrev pub subpattern_name : Slice → Fault
subpattern_name name = fault_about SubpatternName (codes "Invalid subpattern name: `") name (codes "`")

abbrev pub subpattern_twice : Slice → Fault
subpattern_twice name = fault_about SubpatternTwice (codes "Subpattern `") name (codes "` already exists")

-- The faults of a second subpattern with this name, if an earlier one has the name.
abbrev pub twice_faults : Slice → Option Stored → List Fault
twice_faults name None = []
twice_faults name (Some former) = subpattern_twice name ∷ previous former.span ∷ []

-- The message for a subpattern that can match invalid UTF-8.
abbrev pub utf8_text : NamedLiteral → List ℕ
utf8_text sub =
    codes "UTF-8 mode is requested, but the subpattern " ++ sub.name.text ++ codes " = " ++ sub.literal.token.text
    ++ codes " can match invalid utf8.\nYou can disable UTF-8 mode with #[logos(utf8 = false)]"

abbrev pub utf8_subpattern : NamedLiteral → Fault
utf8_subpattern sub = fault Utf8Subpattern (utf8_text sub) sub.literal.token.span

-- A subpattern with this name and its text.
abbrev pub stored_as : Slice → List ℕ → Stored
stored_as name text = record { name = name.text; span = name.span; text = text }

-- The subpatterns with one more, which replaces the one with its name.
abbrev pub put_stored : Stored → List Stored → List Stored
put_stored s [] = s ∷ []
put_stored s (x ∷ rest) = if bytes_eq s.name x.name then s ∷ rest else x ∷ put_stored s rest

-- The report of storing a subpattern with this name and this text.
abbrev pub stored_report : Slice → List ℕ → List Stored → Report (List Stored)
stored_report name text names = with_faults (put_stored (stored_as name text) names) (twice_faults name (stored_at names name.text))

-- The report of storing a subpattern, unless the UTF-8 mode does not allow its text.
abbrev pub tested_report : Bool → NamedLiteral → List ℕ → List Stored → Report (List Stored)
tested_report refused sub text names = if refused then with_faults names (only (utf8_subpattern sub)) else stored_report sub.name text names

-- The report of adding a subpattern whose text spells this tree.
abbrev pub tree_report : Bool → NamedLiteral → List ℕ → List Stored → Tree → Report (List Stored)
tree_report utf8_mode sub text names tree = tested_report (utf8_mode && not (is_text tree)) sub text names

-- The report of adding a subpattern, given the result of reading its text.
abbrev pub reading_report : Bool → NamedLiteral → List ℕ → List Stored → Reading → Report (List Stored)
reading_report utf8_mode sub text names (spelled tree) = tree_report utf8_mode sub text names tree
reading_report utf8_mode sub text names (broken kind detail) = with_faults names (pattern_faults sub.literal.token.span (broken kind detail))
reading_report utf8_mode sub text names too_deep = with_faults names (pattern_faults sub.literal.token.span too_deep)

-- The report of adding a subpattern, given its text with the earlier ones substituted, if all of
-- them are found.
abbrev pub text_report : Bool → Reading → NamedLiteral → List Stored → Option (List ℕ) → Report (List Stored)
text_report utf8_mode reading sub names None = without_faults names
text_report utf8_mode reading sub names (Some text) = reading_report utf8_mode sub text names reading

-- The text of a subpattern with the earlier ones substituted, if all of them are found.
abbrev pub test_report : NamedLiteral → List Stored → Report (Option (List ℕ))
test_report sub names = subst_report names sub.literal.token.span (chars (wrapped sub.literal.held))

-- The report of adding a subpattern to the earlier ones.
abbrev pub subpattern_report : Bool → Reading → NamedLiteral → List Stored → Report (List Stored)
subpattern_report utf8_mode reading sub names =
    if is_name sub.name.text then and_then (test_report sub names) (text_report utf8_mode reading sub names)
    else with_faults names (only (subpattern_name sub.name))

-- The text that is read as a test, if there is one.
abbrev pub test_text : NamedLiteral → List Stored → Option (List ℕ)
test_text sub names = if is_name sub.name.text then (test_report sub names).value else None

-- Adding a subpattern changes the subpatterns from `before` to `after`, and adds its faults to the
-- list. `reading` is the result of reading its text, if the text is tested.
pub record IsAdded (utf8_mode : Bool) (sub : NamedLiteral) (before after : List Stored) (old new : List Fault) : Type 0 where
  pub reading : Reading
  pub reads : (text : List ℕ) → test_text sub before ≡ Some text → Reads true false (chars text) reading
  pub reports : IsReport (subpattern_report utf8_mode reading sub before) after old new

-- Adding subpatterns one after another changes the subpatterns from `before` to `after`, and adds
-- their faults to the list.
pub data AreAdded (utf8_mode : Bool) : List NamedLiteral → (before after : List Stored) → (old new : List Fault) → Type 0 where
  ended : {names : List Stored} {faults : List Fault} → AreAdded utf8_mode [] names names faults faults
  further : {sub : NamedLiteral} {rest : List NamedLiteral} {before middle after : List Stored} {old now new : List Fault} →
      IsAdded utf8_mode sub before middle old now → AreAdded utf8_mode rest middle after now new → AreAdded utf8_mode (sub ∷ rest) before after old new
