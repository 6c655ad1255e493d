-- The part of an answer that is compared.
use Rattle.std.specs.Prelude.{◌≡◌, ◌≢◌, ◌⊎◌, ℕ, ◌+◌, ◌<◌, ◌≤◌, ◌==◌, ◌&&◌, not, Bool, true, false, List, [], ◌∷◌, ◌++◌, codes, if◌then◌else◌, slice_index}
use Rattle.std.specs.List.{starts_with}
use Rattle.logos_answers.specs.Quoting.{quoted}
use Rattle.logos_page.specs.Pages.{Gains, PageValue}
use Rattle.logos_page.specs.Shown.{shown_text}

-- A text contains no LF, except possibly at its end.
abbrev pub is_one_line : List ℕ → Bool
is_one_line [] = true
is_one_line (byte ∷ []) = true
is_one_line (byte ∷ next ∷ rest) = not (byte == 10) && is_one_line (next ∷ rest)

-- A text is one line, with the time.
abbrev pub is_time : List ℕ → Bool
is_time text = starts_with (λ one other. one == other) text (codes "milliseconds: ") && is_one_line text

-- A text without its last line, if that is the line with the time. `begins` is whether a line
-- begins with the text.
abbrev pub timeless_from : Bool → List ℕ → List ℕ
timeless_from begins [] = []
timeless_from begins (byte ∷ rest) = if begins && is_time (byte ∷ rest) then [] else byte ∷ timeless_from (byte == 10) rest

-- The part of an answer that is compared: all except its last line, if that is the line with the
-- time.
abbrev pub timeless : List ℕ → List ℕ
timeless answer = timeless_from true answer

-- The line with the offset `at` begins at the offset `start`.
pub record IsLineStart (text : List ℕ) (at start : ℕ) : Type 0 where
  pub before : start ≤ at
  pub begins : (start ≡ 0) ⊎ ((k : ℕ) × (start ≡ k + 1) × (slice_index text k ≡ 10))
  pub one : (k : ℕ) → start ≤ k → k < at → slice_index text k ≢ 10

-- A line with a text, and a line of an answer in quotes.
abbrev pub line_text : List ℕ → List ℕ → List ℕ
line_text before line = before ++ (quoted line ++ codes "\n")

-- The outcome of comparing an answer with a stored one was appended to a page: that they are equal,
-- or lines of which the first one begins with the path of the stored answer.
abbrev pub ShowsAgreement : List ℕ → Bool → PageValue → PageValue → Type 0
ShowsAgreement path true old new = Gains (codes "as expected\n") old new
ShowsAgreement path false old new = (rest : List ℕ) × Gains (shown_text path ++ rest) old new
