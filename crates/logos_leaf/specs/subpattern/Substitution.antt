-- Substitution of subpatterns in the text of a pattern.
use Rattle.std.specs.Prelude.{ℕ, zero, suc, ◌+◌, ◌==◌, ◌&&◌, ◌||◌, nat_lt, Bool, true, false, List, [], ◌∷◌, ◌++◌, length, codes, Option, Some, None, option_map, if◌then◌else◌}
use Rattle.std.specs.List.{flat_map}
use Rattle.std.specs.Char.{encode_utf8}
use Rattle.std.specs.Str.{bytes_eq}
use Rattle.logos_lexeme.specs.declared.lexeme.Span.{Span}
use Rattle.logos_token.specs.Faults.{Fault}
use Rattle.logos_token.specs.declared.error.fault_code.FaultCode.TheVariants.{SubpatternMissing}
use Rattle.logos_attribute.specs.Reports.{Report, with_faults, without_faults, and_then, map_report, fault, only}

-- The character is a digit, an ASCII letter or `_`.
abbrev pub is_word : ℕ → Bool
is_word c = ((nat_lt 47 c && nat_lt c 58) || (nat_lt 64 c && nat_lt c 91)) || ((nat_lt 96 c && nat_lt c 123) || (c == 95))

-- The longest prefix of a text that consists of digits, ASCII letters and `_`.
abbrev pub word_front : List ℕ → List ℕ
word_front [] = []
word_front (c ∷ rest) = if is_word c then c ∷ word_front rest else []

-- The rest of a text after its longest prefix of digits, ASCII letters and `_`.
abbrev pub word_rest : List ℕ → List ℕ
word_rest [] = []
word_rest (c ∷ rest) = if is_word c then word_rest rest else c ∷ rest

-- The word after `(?&`, if it has a character and `)` follows it.
abbrev pub closed : List ℕ → List ℕ → Option (List ℕ)
closed [] rest = None
closed name [] = None
closed name (c ∷ rest) = if c == 41 then Some name else None

-- The name in `(?&name)`, if the text begins with that form.
abbrev pub reference : List ℕ → Option (List ℕ)
reference (a ∷ b ∷ c ∷ rest) = if (a == 40) && ((b == 63) && (c == 38)) then closed (word_front rest) (word_rest rest) else None
reference _ = None

-- A part of a text: a character that represents itself, or the name of a subpattern that is used.
pub data Part : Type 0 where
  itself : (character : ℕ) → Part
  used : (name : List ℕ) → Part

-- The parts of a text, from the left. The first `passed` characters belong to the part before them.
abbrev pub parts : ℕ → List ℕ → List Part
parts passed [] = []
parts (suc passed) (c ∷ rest) = parts passed rest
parts zero (c ∷ rest) = elim (reference (c ∷ rest)) [ Some name ↦ used name ∷ parts (3 + length name) rest | None ↦ itself c ∷ parts zero rest ]

-- A stored subpattern: its name, the span of the name in the source, and its text.
pub record Stored : Type 0 where
  pub name : List ℕ
  pub span : Span
  pub text : List ℕ

-- The subpattern with this name, if there is one.
abbrev pub stored_at : List Stored → List ℕ → Option Stored
stored_at [] name = None
stored_at (s ∷ rest) name = if bytes_eq name s.name then Some s else stored_at rest name

-- The text of the subpattern with this name, if there is one.
abbrev pub text_of : List Stored → List ℕ → Option (List ℕ)
text_of names name = option_map (λ s. s.text) (stored_at names name)

-- The UTF-8 bytes of characters.
abbrev pub encoded : List ℕ → List ℕ
encoded characters = flat_map encode_utf8 characters

-- The text so far, and whether each name so far was found.
pub record Substituted : Type 0 where
  pub text : List ℕ
  pub complete : Bool

-- The text so far, with one more part.
abbrev pub put : Substituted → List ℕ → Substituted
put s text = record { text = s.text ++ text; complete = s.complete }

abbrev pub subpattern_missing : Span → List ℕ → Fault
subpattern_missing span name = fault SubpatternMissing ((codes "Subpattern `" ++ name) ++ codes "` not found") span

-- The report of adding the text that is stored for a name, if one is.
abbrev pub name_report : Span → List ℕ → Substituted → Option (List ℕ) → Report Substituted
name_report span name s (Some text) = without_faults (put s text)
name_report span name s None = with_faults (record s { complete = false }) (only (subpattern_missing span name))

-- The report of one more part of the text.
abbrev pub part_report : List Stored → Span → Part → Substituted → Report Substituted
part_report names span (itself c) s = without_faults (put s (encode_utf8 c))
part_report names span (used name) s = name_report span (encoded name) s (text_of names (encoded name))

-- The report of more parts of the text, from the left.
abbrev pub parts_report : List Stored → Span → List Part → Substituted → Report Substituted
parts_report names span [] s = without_faults s
parts_report names span (part ∷ rest) s = and_then (part_report names span part s) (parts_report names span rest)

-- The whole text, if each name was found.
abbrev pub whole_text : Substituted → Option (List ℕ)
whole_text s = if s.complete then Some s.text else None

-- The text before its first part.
abbrev pub nothing_yet : Substituted
nothing_yet = record { text = []; complete = true }

-- The text of a pattern with each name replaced by the text that is stored for it. `span` is the
-- span of the pattern's literal, at which missing names are reported.
abbrev pub subst_report : List Stored → Span → List ℕ → Report (Option (List ℕ))
subst_report names span text = map_report whole_text (parts_report names span (parts 0 text) nothing_yet)
