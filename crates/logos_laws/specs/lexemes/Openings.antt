-- The bytes with which literals and comments open.
use Rattle.std.specs.Prelude.{◌≡◌, ◌≢◌, ◌≤◌, ◌++◌, ◌∷◌, [], ℕ, List, codes, false, length, suc, true, zero}
use Rattle.std.specs.Char.{is_ascii_digit}
use Rattle.logos_lexeme.specs.LexemeOpenings.{follows_apostrophe, opening_at}
use Rattle.logos_lexeme.specs.declared.lexeme.LexemeKind.TheVariants.{Doc, Gap}
use Rattle.logos_lexeme.specs.declared.lexeme.openings.Content.{Content}
use Rattle.logos_lexeme.specs.declared.lexeme.openings.Opening.{Opening}
use Rattle.logos_lexeme.specs.declared.lexeme.openings.Opening.TheVariants.{Block, Line, Number, Raw}

-- In each source, these bytes open a lexeme in this way, unless a `'` is directly before them.
abbrev pub OpensBy : List ℕ → Opening → Type 0
OpensBy text opening =
    (front rest : List ℕ) → follows_apostrophe (front ++ (text ++ rest)) (length front) ≡ false → opening_at (front ++ (text ++ rest)) (length front) ≡ opening

-- Each digit opens a number.
abbrev pub OpensNumber : Type 0
OpensNumber = (digit : ℕ) → is_ascii_digit digit ≡ true → OpensBy (digit ∷ []) Number

-- A number of `#`.
abbrev pub hash_signs : ℕ → List ℕ
hash_signs zero = []
hash_signs (suc count) = 35 ∷ hash_signs count

-- These letters open a raw string, if at most 255 `#` and a quote follow them.
abbrev pub OpensRaw : Content → List ℕ → Type 0
OpensRaw content letters = (count : ℕ) → count ≤ 255 → OpensBy (letters ++ (hash_signs count ++ codes "\"")) (Raw content count)

-- `///` opens documentation before a byte other than `/`.
abbrev pub OpensLineDoc : Type 0
OpensLineDoc = (next : ℕ) → next ≢ 47 → OpensBy (codes "///" ++ next ∷ []) (Line Doc)

-- `//` opens a comment before a byte other than `!` and `/`.
abbrev pub OpensLine : Type 0
OpensLine = (next : ℕ) → next ≢ 33 → next ≢ 47 → OpensBy (codes "//" ++ next ∷ []) (Line Gap)

-- `/**` opens documentation before a byte other than `*` and `/`.
abbrev pub OpensBlockDoc : Type 0
OpensBlockDoc = (next : ℕ) → next ≢ 42 → next ≢ 47 → OpensBy (codes "/**" ++ next ∷ []) (Block Doc)

-- `/*` opens a comment before a byte other than `!` and `*`.
abbrev pub OpensBlock : Type 0
OpensBlock = (next : ℕ) → next ≢ 33 → next ≢ 42 → OpensBy (codes "/*" ++ next ∷ []) (Block Gap)
