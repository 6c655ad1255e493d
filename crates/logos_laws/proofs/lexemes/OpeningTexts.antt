-- The literals and the comments that the bytes at an offset open.
use Rattle.std.proofs.Common.{◌≡◌, ◌≤◌, ◌+◌, ◌++◌, ◌∷◌, ◌==◌, ◌&&◌, ◌||◌, nat_le, not, List, None, Option, Some, ap, arith, codes, drop, false, get_or, length, refl, subst, suc, sym, true, unwrap_or, zero, ℕ, ◌∙◌, if◌then◌else◌, append_assoc}
use Rattle.std.proofs.Math.Seq.{drop-append-add}
use Rattle.std.proofs.lemmas.Bool.{cond-true, le-leb, ne_eqb}
use Rattle.std.proofs.lemmas.List.{get_or-append-add}
use Rattle.std.specs.Char.{is_ascii_digit}
use Rattle.std.specs.List.{prefix_len}
use Rattle.logos_lexeme.specs.LexemeCharacters.{past}
use Rattle.logos_lexeme.specs.LexemeOpenings.{block_kind, bytes_opening, character_opening, comment_opening, follows_apostrophe, hashes, line_kind, literal_opening, opening_at, other_opening, raw_opening, string_opening}
use Rattle.logos_lexeme.specs.declared.lexeme.LexemeKind.TheVariants.{Doc, Gap}
use Rattle.logos_lexeme.specs.declared.lexeme.openings.Content.{Content}
use Rattle.logos_lexeme.specs.declared.lexeme.openings.Content.TheVariants.{Bytes, C, Text}
use Rattle.logos_lexeme.specs.declared.lexeme.openings.Opening.{Opening}
use Rattle.logos_lexeme.specs.declared.lexeme.openings.Opening.TheVariants.{Apostrophes, Block, Character, Line, Number, Quotes, Raw}
use Rattle.logos_lexeme.proofs.again.PrintLifetimes.{literal_at-none, literal_at-plain, no_lifetime_apart}
use Rattle.logos_laws.specs.lexemes.Openings.{OpensBlock, OpensBlockDoc, OpensBy, OpensLine, OpensLineDoc, OpensNumber, OpensRaw, hash_signs}

-- ---- by the bytes at an offset

module _ (bytes : List ℕ) (at : ℕ) where
  opens_literal : (o : Opening) → follows_apostrophe bytes at ≡ false → literal_opening bytes at ≡ Some o → opening_at bytes at ≡ o
  unfolding opening_at
  opens_literal o f e = ap (λ l. unwrap_or l (unwrap_or (comment_opening bytes at) (other_opening bytes at))) (literal_at-plain bytes at (no_lifetime_apart bytes at f) ∙ e)

  opens_comment : (o : Opening) → literal_opening bytes at ≡ None → comment_opening bytes at ≡ Some o → opening_at bytes at ≡ o
  unfolding opening_at
  opens_comment o l e = ap (λ x. unwrap_or x (unwrap_or (comment_opening bytes at) (other_opening bytes at))) (literal_at-none bytes at l) ∙ ap (λ c. unwrap_or c (other_opening bytes at)) e

  -- the first byte decides
  abbrev by_first : ℕ → Option Opening
  by_first c =
      if is_ascii_digit c then Some Number
      else (if c == 39 then character_opening bytes (at + 1)
      else (if c == 98 then bytes_opening bytes (at + 1)
      else (if c == 99 then string_opening C bytes (at + 1)
      else string_opening Text bytes at)))

  first_is : (c : ℕ) → get_or bytes at 0 ≡ c → literal_opening bytes at ≡ by_first c
  unfolding literal_opening
  first_is c e = ap by_first e

module _ (bytes : List ℕ) (i : ℕ) where
  abbrev by_string : Content → ℕ → Option Opening
  by_string content c = if c == 34 then Some (Quotes content) else (if c == 114 then raw_opening content bytes (i + 1) else None)

  string_is : (content : Content) (c : ℕ) → get_or bytes i 0 ≡ c → string_opening content bytes i ≡ by_string content c
  unfolding string_opening
  string_is content c e = ap (by_string content) e

  abbrev by_character : ℕ → Option Opening
  by_character c = if c == 92 then Some (Apostrophes Text) else (if get_or bytes (past bytes i) 0 == 39 then Some Character else None)

  character_is : (c : ℕ) → get_or bytes i 0 ≡ c → character_opening bytes i ≡ by_character c
  unfolding character_opening
  character_is c e = ap by_character e

  abbrev by_byte : ℕ → Option Opening
  by_byte c = if c == 39 then Some (Apostrophes Bytes) else string_opening Bytes bytes i

  byte_is : (c : ℕ) → get_or bytes i 0 ≡ c → bytes_opening bytes i ≡ by_byte c
  unfolding bytes_opening
  byte_is c e = ap by_byte e

  raw_is : (content : Content) (count : ℕ) → hashes bytes i ≡ count → count ≤ 255 → get_or bytes (i + count) 0 ≡ 34 → raw_opening content bytes i ≡ Some (Raw content count)
  unfolding raw_opening
  raw_is content count h l e =
      ap (λ n. if nat_le n 255 && (get_or bytes (i + n) 0 == 34) then Some (Raw content n) else None) h
      ∙ ap (λ c. if nat_le count 255 && (c == 34) then Some (Raw content count) else None) e
      ∙ ap (λ b. if b && true then Some (Raw content count) else None) (le-leb count 255 l)

  abbrev by_slash : ℕ → Option Opening
  by_slash c =
      if not (c == 47) then None
      else (if get_or bytes (i + 1) 0 == 47 then Some (Line (line_kind bytes (i + 2)))
      else (if get_or bytes (i + 1) 0 == 42 then Some (Block (block_kind bytes (i + 2)))
      else None))

  abbrev by_sign : ℕ → Option Opening
  by_sign c = if c == 47 then Some (Line (line_kind bytes (i + 2))) else (if c == 42 then Some (Block (block_kind bytes (i + 2))) else None)

  comment_is : (c : ℕ) → get_or bytes i 0 ≡ 47 → get_or bytes (i + 1) 0 ≡ c → comment_opening bytes i ≡ by_sign c
  unfolding comment_opening
  comment_is c e f = ap by_slash e ∙ ap by_sign f

  line_is : (c d : ℕ) → get_or bytes i 0 ≡ c → get_or bytes (i + 1) 0 ≡ d → line_kind bytes i ≡ (if (c == 33) || ((c == 47) && not (d == 47)) then Doc else Gap)
  unfolding line_kind
  line_is c d e f =
      ap (λ x. if (x == 33) || ((x == 47) && not (get_or bytes (i + 1) 0 == 47)) then Doc else Gap) e ∙ ap (λ y. if (c == 33) || ((c == 47) && not (y == 47)) then Doc else Gap) f

  block_is : (c d : ℕ) → get_or bytes i 0 ≡ c → get_or bytes (i + 1) 0 ≡ d → block_kind bytes i ≡ (if (c == 33) || ((c == 42) && not ((d == 42) || (d == 47))) then Doc else Gap)
  unfolding block_kind
  block_is c d e f =
      ap (λ x. if (x == 33) || ((x == 42) && not ((get_or bytes (i + 1) 0 == 42) || (get_or bytes (i + 1) 0 == 47))) then Doc else Gap) e
      ∙ ap (λ y. if (c == 33) || ((c == 42) && not ((y == 42) || (y == 47))) then Doc else Gap) f

-- ---- by a text

byte : (front text : List ℕ) (n : ℕ) → get_or (front ++ text) (length front + n) 0 ≡ get_or text n 0
byte front text n = get_or-append-add front text n 0

first : (front text : List ℕ) → get_or (front ++ text) (length front) 0 ≡ get_or text 0 0
first front text = let k : length front ≡ length front + 0 = omega arith in subst (λ i. get_or (front ++ text) i 0 ≡ get_or text 0 0) (sym k) (byte front text 0)

second : (front text : List ℕ) (n : ℕ) → get_or (front ++ text) (length front + n + 1) 0 ≡ get_or text (n + 1) 0
second front text n = let k : length front + n + 1 ≡ length front + (n + 1) = omega arith in subst (λ i. get_or (front ++ text) i 0 ≡ get_or text (n + 1) 0) (sym k) (byte front text (n + 1))

pub numbers : OpensNumber
numbers digit d front rest f =
    let bytes = front ++ (digit ∷ rest) in
    opens_literal bytes (length front) Number f (first_is bytes (length front) digit (first front (digit ∷ rest)) ∙ cond-true (is_ascii_digit digit) _ _ d)

pub string : OpensBy (codes "\"") (Quotes Text)
string front rest f =
    let bytes = front ++ (34 ∷ rest) in
    let e = first front (34 ∷ rest) in
    opens_literal bytes (length front) (Quotes Text) f (first_is bytes (length front) 34 e ∙ string_is bytes (length front) Text 34 e)

pub byte_string : OpensBy (codes "b\"") (Quotes Bytes)
byte_string front rest f =
    let text = 98 ∷ 34 ∷ rest in
    let e = byte front text 1 in
    opens_literal (front ++ text) (length front) (Quotes Bytes) f (first_is (front ++ text) (length front) 98 (first front text) ∙ byte_is (front ++ text) (length front + 1) 34 e ∙ string_is (front ++ text) (length front + 1) Bytes 34 e)

pub c_string : OpensBy (codes "c\"") (Quotes C)
c_string front rest f =
    let text = 99 ∷ 34 ∷ rest in
    opens_literal (front ++ text) (length front) (Quotes C) f (first_is (front ++ text) (length front) 99 (first front text) ∙ string_is (front ++ text) (length front + 1) C 34 (byte front text 1))

pub byte_character : OpensBy (codes "b'") (Apostrophes Bytes)
byte_character front rest f =
    let text = 98 ∷ 39 ∷ rest in
    opens_literal (front ++ text) (length front) (Apostrophes Bytes) f (first_is (front ++ text) (length front) 98 (first front text) ∙ byte_is (front ++ text) (length front + 1) 39 (byte front text 1))

pub escape : OpensBy (codes "'\\") (Apostrophes Text)
escape front rest f =
    let text = 39 ∷ 92 ∷ rest in
    opens_literal (front ++ text) (length front) (Apostrophes Text) f (first_is (front ++ text) (length front) 39 (first front text) ∙ character_is (front ++ text) (length front + 1) 92 (byte front text 1))

-- ---- raw strings

signs : (count : ℕ) (rest : List ℕ) → prefix_len (λ c. c == 35) (hash_signs count ++ 34 ∷ rest) ≡ count
signs zero rest = refl
signs (suc count) rest = omega (arith, signs count rest)

after_signs : (count : ℕ) (rest : List ℕ) → get_or (hash_signs count ++ 34 ∷ rest) count 0 ≡ 34
after_signs zero rest = refl
after_signs (suc count) rest = after_signs count rest

-- the `#` after the letters of a raw string, and the quote
signs_at : (front letters : List ℕ) (count n : ℕ) (rest : List ℕ) → drop n letters ≡ hash_signs count ++ 34 ∷ rest → hashes (front ++ letters) (length front + n) ≡ count
unfolding hashes
signs_at front letters count n rest e = ap (prefix_len (λ c. c == 35)) (drop-append-add front letters n ∙ e) ∙ signs count rest

with_quote : (count : ℕ) (rest : List ℕ) → (hash_signs count ++ codes "\"") ++ rest ≡ hash_signs count ++ 34 ∷ rest
with_quote count rest = append_assoc (hash_signs count) (codes "\"") rest

-- ---- comments

line_at : (front text : List ℕ) (c d : ℕ) → get_or text 2 0 ≡ c → get_or text 3 0 ≡ d → line_kind (front ++ text) (length front + 2) ≡ (if (c == 33) || ((c == 47) && not (d == 47)) then Doc else Gap)
line_at front text c d e f = line_is (front ++ text) (length front + 2) c d (byte front text 2 ∙ e) (second front text 2 ∙ f)

block_at : (front text : List ℕ) (c d : ℕ) → get_or text 2 0 ≡ c → get_or text 3 0 ≡ d → block_kind (front ++ text) (length front + 2) ≡ (if (c == 33) || ((c == 42) && not ((d == 42) || (d == 47))) then Doc else Gap)
block_at front text c d e f = block_is (front ++ text) (length front + 2) c d (byte front text 2 ∙ e) (second front text 2 ∙ f)

-- the bytes `/` and `/`, or `/` and `*`, and the kind of the comment
line_comment : (front rest : List ℕ) → opening_at (front ++ 47 ∷ 47 ∷ rest) (length front) ≡ Line (line_kind (front ++ 47 ∷ 47 ∷ rest) (length front + 2))
line_comment front rest =
    let text = 47 ∷ 47 ∷ rest in
    let e = first front text in
    opens_comment (front ++ text) (length front) _ (first_is (front ++ text) (length front) 47 e ∙ string_is (front ++ text) (length front) Text 47 e) (comment_is (front ++ text) (length front) 47 e (byte front text 1))

block_comment : (front rest : List ℕ) → opening_at (front ++ 47 ∷ 42 ∷ rest) (length front) ≡ Block (block_kind (front ++ 47 ∷ 42 ∷ rest) (length front + 2))
block_comment front rest =
    let text = 47 ∷ 42 ∷ rest in
    let e = first front text in
    opens_comment (front ++ text) (length front) _ (first_is (front ++ text) (length front) 47 e ∙ string_is (front ++ text) (length front) Text 47 e) (comment_is (front ++ text) (length front) 42 e (byte front text 1))

pub line_bang : OpensBy (codes "//!") (Line Doc)
line_bang front rest f = line_comment front (33 ∷ rest) ∙ ap Line (line_at front (47 ∷ 47 ∷ 33 ∷ rest) 33 (get_or rest 0 0) refl refl)

pub four_slashes : OpensBy (codes "////") (Line Gap)
four_slashes front rest f = line_comment front (47 ∷ 47 ∷ rest) ∙ ap Line (line_at front (47 ∷ 47 ∷ 47 ∷ 47 ∷ rest) 47 47 refl refl)

pub line_doc : OpensLineDoc
line_doc next n front rest f =
    line_comment front (47 ∷ next ∷ rest) ∙ ap Line (line_at front (47 ∷ 47 ∷ 47 ∷ next ∷ rest) 47 next refl refl ∙ ap (λ b. if not b then Doc else Gap) (ne_eqb next 47 n))

pub line_other : OpensLine
line_other next n m front rest f =
    line_comment front (next ∷ rest)
    ∙ ap Line (line_at front (47 ∷ 47 ∷ next ∷ rest) next (get_or rest 0 0) refl refl ∙ ap (λ b. if b || ((next == 47) && not (get_or rest 0 0 == 47)) then Doc else Gap) (ne_eqb next 33 n) ∙ ap (λ b. if b && not (get_or rest 0 0 == 47) then Doc else Gap) (ne_eqb next 47 m))

pub block_bang : OpensBy (codes "/*!") (Block Doc)
block_bang front rest f = block_comment front (33 ∷ rest) ∙ ap Block (block_at front (47 ∷ 42 ∷ 33 ∷ rest) 33 (get_or rest 0 0) refl refl)

pub three_stars : OpensBy (codes "/***") (Block Gap)
three_stars front rest f = block_comment front (42 ∷ 42 ∷ rest) ∙ ap Block (block_at front (47 ∷ 42 ∷ 42 ∷ 42 ∷ rest) 42 42 refl refl)

pub empty_block : OpensBy (codes "/**/") (Block Gap)
empty_block front rest f = block_comment front (42 ∷ 47 ∷ rest) ∙ ap Block (block_at front (47 ∷ 42 ∷ 42 ∷ 47 ∷ rest) 42 47 refl refl)

pub block_doc : OpensBlockDoc
block_doc next n m front rest f =
    block_comment front (42 ∷ next ∷ rest)
    ∙ ap Block (block_at front (47 ∷ 42 ∷ 42 ∷ next ∷ rest) 42 next refl refl ∙ ap (λ b. if not (b || (next == 47)) then Doc else Gap) (ne_eqb next 42 n) ∙ ap (λ b. if not b then Doc else Gap) (ne_eqb next 47 m))

pub block_other : OpensBlock
block_other next n m front rest f =
    block_comment front (next ∷ rest)
    ∙ ap Block (block_at front (47 ∷ 42 ∷ next ∷ rest) next (get_or rest 0 0) refl refl ∙ ap (λ b. if b || ((next == 42) && not ((get_or rest 0 0 == 42) || (get_or rest 0 0 == 47))) then Doc else Gap) (ne_eqb next 33 n) ∙ ap (λ b. if b && not ((get_or rest 0 0 == 42) || (get_or rest 0 0 == 47)) then Doc else Gap) (ne_eqb next 42 m))

-- raw strings, by the number of their letters
raw_one : (content : Content) (bytes : List ℕ) (i count : ℕ) → get_or bytes i 0 ≡ 114 → hashes bytes (i + 1) ≡ count → count ≤ 255 → get_or bytes (i + 1 + count) 0 ≡ 34 → string_opening content bytes i ≡ Some (Raw content count)
raw_one content bytes i count e h l q = string_is bytes i content 114 e ∙ raw_is bytes (i + 1) content count h l q

pub raw_text : OpensRaw Text (codes "r")
raw_text count l front rest f =
    let text = 114 ∷ ((hash_signs count ++ codes "\"") ++ rest) in
    let e = first front text in
    let w = with_quote count rest in
    let q : get_or (front ++ text) (length front + 1 + count) 0 ≡ 34 = (let k : length front + 1 + count ≡ length front + suc count = omega arith in subst (λ i. get_or (front ++ text) i 0 ≡ 34) (sym k) (byte front text (suc count) ∙ ap (λ x. get_or x count 0) w ∙ after_signs count rest)) in
    opens_literal (front ++ text) (length front) (Raw Text count) f (first_is (front ++ text) (length front) 114 e ∙ raw_one Text (front ++ text) (length front) count e (signs_at front text count 1 rest w) l q)

raw_two : (content : Content) (front rest : List ℕ) (letter count : ℕ) → count ≤ 255 → string_opening content (front ++ letter ∷ 114 ∷ ((hash_signs count ++ codes "\"") ++ rest)) (length front + 1) ≡ Some (Raw content count)
raw_two content front rest letter count l =
    let text = letter ∷ 114 ∷ ((hash_signs count ++ codes "\"") ++ rest) in
    let w = with_quote count rest in
    let two : length front + 1 + 1 ≡ length front + 2 = omega arith in
    let h : hashes (front ++ text) (length front + 1 + 1) ≡ count = subst (λ i. hashes (front ++ text) i ≡ count) (sym two) (signs_at front text count 2 rest w) in
    let q : get_or (front ++ text) (length front + 1 + 1 + count) 0 ≡ 34 = (let k : length front + 1 + 1 + count ≡ length front + suc (suc count) = omega arith in subst (λ i. get_or (front ++ text) i 0 ≡ 34) (sym k) (byte front text (suc (suc count)) ∙ ap (λ x. get_or x count 0) w ∙ after_signs count rest)) in
    raw_one content (front ++ text) (length front + 1) count (byte front text 1) h l q

pub raw_bytes : OpensRaw Bytes (codes "br")
raw_bytes count l front rest f =
    let text = 98 ∷ 114 ∷ ((hash_signs count ++ codes "\"") ++ rest) in
    opens_literal (front ++ text) (length front) (Raw Bytes count) f (first_is (front ++ text) (length front) 98 (first front text) ∙ byte_is (front ++ text) (length front + 1) 114 (byte front text 1) ∙ raw_two Bytes front rest 98 count l)

pub raw_c : OpensRaw C (codes "cr")
raw_c count l front rest f =
    let text = 99 ∷ 114 ∷ ((hash_signs count ++ codes "\"") ++ rest) in
    opens_literal (front ++ text) (length front) (Raw C count) f (first_is (front ++ text) (length front) 99 (first front text) ∙ raw_two C front rest 99 count l)
