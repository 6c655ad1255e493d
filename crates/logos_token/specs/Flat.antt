-- The flat form of a run of tokens: each group is an entry with the number of entries inside it,
-- which follow it.
use Rattle.std.specs.Prelude.{◌≡◌, ℕ, zero, suc, List, [], ◌∷◌, ◌++◌, length, map, take, drop}
use Rattle.logos_lexeme.specs.declared.lexeme.Span.{Span}
use Rattle.logos_lexeme.specs.declared.lexeme.Spacing.{Spacing}
use Rattle.logos_lexeme.specs.declared.lexeme.Delimiter.{Delimiter}
use Rattle.logos_token.specs.declared.token.entry.Entry.{Entry}
use Rattle.logos_token.specs.declared.token.entry.Entry.TheVariants.{Ident, Punct, Literal, Doc, Group}
use Rattle.logos_token.specs.Tokens.{Token, identifier, punctuation, literal, doc, group, TokenList, none, also}

-- An entry, with its text as bytes.
pub data EntryValue : Type 0 where
  identifier_entry : (text : List ℕ) (span : Span) → EntryValue
  punctuation_entry : (character : ℕ) (spacing : Spacing) (span : Span) → EntryValue
  literal_entry : (text : List ℕ) (span : Span) → EntryValue
  doc_entry : (text : List ℕ) (span : Span) → EntryValue
  group_entry : (delimiter : Delimiter) (span : Span) (size : ℕ) → EntryValue

-- The value that an entry of a buffer represents.
abbrev pub value_of : Entry → EntryValue
value_of (Ident i) = identifier_entry i.text.now i.span
value_of (Punct p) = punctuation_entry p.character p.spacing p.span
value_of (Literal l) = literal_entry l.text.now l.span
value_of (Doc d) = doc_entry d.text.now d.span
value_of (Group delimiter span size) = group_entry delimiter span size

-- The number of entries inside an entry, which follow it.
abbrev pub size_of : Entry → ℕ
size_of (Ident i) = 0
size_of (Punct p) = 0
size_of (Literal l) = 0
size_of (Doc d) = 0
size_of (Group delimiter span size) = size

abbrev mutual
  -- The entries of a token.
  pub flat_token : Token → List EntryValue
  flat_token (identifier text span) = identifier_entry text span ∷ []
  flat_token (punctuation character spacing span) = punctuation_entry character spacing span ∷ []
  flat_token (literal text span) = literal_entry text span ∷ []
  flat_token (doc text span) = doc_entry text span ∷ []
  flat_token (group delimiter span inside) = group_entry delimiter span (length (flat inside)) ∷ flat inside

  -- The entries of a run.
  pub flat : TokenList → List EntryValue
  flat none = []
  flat (also token rest) = flat_token token ++ flat rest

-- The tokens of a list of entries, if it has at most `n` entries.
abbrev pub trees_of : ℕ → List EntryValue → TokenList
trees_of zero entries = none
trees_of (suc n) [] = none
trees_of (suc n) (identifier_entry text span ∷ entries) = also (identifier text span) (trees_of n entries)
trees_of (suc n) (punctuation_entry character spacing span ∷ entries) = also (punctuation character spacing span) (trees_of n entries)
trees_of (suc n) (literal_entry text span ∷ entries) = also (literal text span) (trees_of n entries)
trees_of (suc n) (doc_entry text span ∷ entries) = also (doc text span) (trees_of n entries)
trees_of (suc n) (group_entry delimiter span size ∷ entries) = also (group delimiter span (trees_of n (take size entries))) (trees_of n (drop size entries))

-- The tokens of all these entries.
abbrev pub tokens_in : List Entry → TokenList
tokens_in entries = trees_of (length entries) (map value_of entries)

-- The entries that a group counts are inside the run, and inside the group around it. The entries
-- are therefore the flat form of tokens.
abbrev pub IsFlat : List Entry → Type 0
IsFlat entries = flat (tokens_in entries) ≡ map value_of entries
