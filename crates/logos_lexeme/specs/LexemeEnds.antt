-- The end of the lexeme or gap that opens at a byte offset.
use Rattle.std.specs.Prelude.{◌≡◌, ◌≢◌, ℕ, ◌+◌, ◌-◌, ◌<◌, ◌≤◌, ◌==◌, ◌&&◌, ◌||◌, ◌⊎◌, Bool, false, List, length, slice_index, IsTrue, MatchOption}
use Rattle.std.specs.Char.{is_ascii_digit}
use Rattle.logos_lexeme.specs.LexemeCharacters.{past, is_space, is_continuing}
use Rattle.logos_lexeme.specs.LexemeRuns.{Until, Run, IsFirst, Passes}
use Rattle.logos_lexeme.specs.LexemeOpenings.{name_at, prefix_of}
use Rattle.logos_lexeme.specs.declared.lexeme.openings.Opening.{Opening}
use Rattle.logos_lexeme.specs.declared.lexeme.openings.Opening.TheVariants.{Space, Line, Block, Word, Number, Quotes, Raw, Apostrophes, Character, Single, Nothing}

-- A line comment ends at `at`: at a line feed, at the end of the source, or before the carriage
-- returns that precede either.
pub record IsLineEnd (bytes : List ℕ) (at : ℕ) : Type 0 where
  pub feed : ℕ
  pub begun : at ≤ feed
  pub returns : (i : ℕ) → at ≤ i → i < feed → slice_index bytes i ≡ 13
  pub closes : (feed ≡ length bytes) ⊎ (slice_index bytes feed ≡ 10)

-- The bytes `first` and `second` are next to each other, at `at`.
abbrev pub IsPair : List ℕ → ℕ → ℕ → ℕ → Type 0
IsPair bytes at first second = (slice_index bytes at ≡ first) × (slice_index bytes (at + 1) ≡ second)

-- `depth` block comments are open at `at`, and the outermost one ends at `to`.
pub data Closes (bytes : List ℕ) : (depth at to : ℕ) → Type 0 where
  closed : {at : ℕ} → Closes bytes 0 at at
  opens : {depth at to : ℕ} → 0 < depth → IsPair bytes at 47 42 → Closes bytes (depth + 1) (at + 2) to → Closes bytes depth at to
  closes : {depth at to : ℕ} → 0 < depth → IsPair bytes at 42 47 → Closes bytes (depth - 1) (at + 2) to → Closes bytes depth at to
  inside : {depth at to : ℕ} → 0 < depth → at < length bytes → (IsPair bytes at 47 42 → ⊥) → (IsPair bytes at 42 47 → ⊥) → Closes bytes depth (at + 1) to → Closes bytes depth at to

-- The identifier at the first byte offset ends at the second.
abbrev pub IsName : List ℕ → ℕ → ℕ → Type 0
IsName bytes at to = MatchOption (name_at bytes at) ⊥ (λ name. Run (Passes is_continuing bytes) (past bytes name) to)

-- The suffix of a literal that ends at the first byte offset ends at the second. It can be empty.
abbrev pub IsSuffix : List ℕ → ℕ → ℕ → Type 0
IsSuffix bytes at to = MatchOption (name_at bytes at) (to ≡ at) (λ name. Run (Passes is_continuing bytes) (past bytes name) to)

-- Whether a number starts with the base prefix `0x`, `0o` or `0b`.
unfoldable pub has_base : List ℕ → ℕ → Bool
has_base bytes at =
    let letter = slice_index bytes (at + 1) in
    (slice_index bytes at == 48) && ((letter == 120) || (letter == 111) || (letter == 98))

-- A number continues from `at` to `next`. `based` is whether it starts with a base prefix.
pub data Continues (based : Bool) (bytes : List ℕ) (at next : ℕ) : Type 0 where
  letter : Passes is_continuing bytes at next → Continues based bytes at next
  point : based ≡ false → slice_index bytes at ≡ 46 → IsTrue (is_ascii_digit (slice_index bytes (at + 1))) → next ≡ at + 1 → Continues based bytes at next
  sign : based ≡ false → (slice_index bytes (at - 1) ≡ 101) ⊎ (slice_index bytes (at - 1) ≡ 69) → (slice_index bytes at ≡ 43) ⊎ (slice_index bytes at ≡ 45) → IsTrue (is_ascii_digit (slice_index bytes (at + 1))) → next ≡ at + 1 → Continues based bytes at next

-- One step inside quotes: over `\` and the byte after it, or over a byte that is neither `\` nor
-- the quote.
pub data InQuotes (quote : ℕ) (bytes : List ℕ) (at next : ℕ) : Type 0 where
  escaped : slice_index bytes at ≡ 92 → next ≡ at + 2 → InQuotes quote bytes at next
  plain : at < length bytes → slice_index bytes at ≢ 92 → slice_index bytes at ≢ quote → next ≡ at + 1 → InQuotes quote bytes at next

-- The next quote that is not escaped is at the second byte offset.
abbrev pub ReachesQuote : ℕ → List ℕ → ℕ → ℕ → Type 0
ReachesQuote quote bytes from at = Until (InQuotes quote bytes) (λ i. slice_index bytes i ≡ quote) from at

-- The contents from `body` reach to the next quote that is not escaped, and `to` comes after it.
pub record IsQuoted (quote : ℕ) (bytes : List ℕ) (body to : ℕ) : Type 0 where
  pub quote_at : ℕ
  pub until : ReachesQuote quote bytes body quote_at
  pub after : to ≡ quote_at + 1

-- A quote followed by `count` `#` is at `at`.
pub record IsRawEnd (count : ℕ) (bytes : List ℕ) (at : ℕ) : Type 0 where
  pub quote : slice_index bytes at ≡ 34
  pub hashes : (i : ℕ) → i < count → slice_index bytes (at + 1 + i) ≡ 35

-- The contents from `body` reach to the first quote followed by `count` `#`, and `to` comes after
-- its `#`.
pub record IsRaw (count : ℕ) (bytes : List ℕ) (body to : ℕ) : Type 0 where
  pub quote_at : ℕ
  pub first : IsFirst (IsRawEnd count bytes) body quote_at
  pub after : to ≡ quote_at + 1 + count

-- A character literal: `'`, a character, `'`.
pub record IsCharacter (bytes : List ℕ) (from to : ℕ) : Type 0 where
  pub quote : slice_index bytes (past bytes (from + 1)) ≡ 39
  pub after : to ≡ past bytes (from + 1) + 1

-- The byte offset at which the contents of a literal begin.
abbrev pub body_of : Opening → ℕ → ℕ
body_of (Quotes content) from = from + prefix_of content + 1
body_of (Raw content count) from = from + prefix_of content + 1 + count + 1
body_of (Apostrophes content) from = from + prefix_of content + 1
body_of _ from = from

-- The lexeme or gap that opens at `from` ends at `to`, without the suffix of a literal.
abbrev pub Ends : List ℕ → ℕ → Opening → ℕ → Type 0
Ends bytes from Space to = Run (Passes is_space bytes) (past bytes from) to
Ends bytes from (Line kind) to = IsFirst (IsLineEnd bytes) (from + 2) to
Ends bytes from (Block kind) to = Closes bytes 1 (from + 2) to
Ends bytes from Word to = IsName bytes from to
Ends bytes from Number to = Run (Continues (has_base bytes from) bytes) (past bytes from) to
Ends bytes from (Quotes content) to = IsQuoted 34 bytes (from + prefix_of content + 1) to
Ends bytes from (Raw content count) to = IsRaw count bytes (from + prefix_of content + 1 + count + 1) to
Ends bytes from (Apostrophes content) to = IsQuoted 39 bytes (from + prefix_of content + 1) to
Ends bytes from Character to = IsCharacter bytes from to
Ends bytes from (Single kind) to = to ≡ past bytes from
Ends bytes from Nothing to = ⊥
