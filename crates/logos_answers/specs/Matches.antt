-- The lines about the matches from an offset.
use Rattle.std.specs.Prelude.{◌≡◌, ◌⊎◌, ℕ, zero, suc, ◌-◌, ◌==◌, ◌&&◌, not, nat_le, Bool, List, [], ◌∷◌, ◌++◌, Option, Some, None, codes, decimal, if◌then◌else◌, length, take, drop, MatchBool}
use Rattle.std.specs.List.{flat_map, list_any}
use Rattle.logos_pattern.specs.declared.leaf.Leaf.{Leaf}
use Rattle.logos_evidence.specs.declared.matches.Match.{Match}
use Rattle.logos_evidence.specs.Matching.{AreMatches, IsWinner}
use Rattle.logos_graph.specs.View.{rules_of}
use Rattle.logos_page.specs.Pages.{Gains, PageValue}
use Rattle.logos_answers.specs.Names.{leaf_text, name_at}
use Rattle.logos_answers.specs.Quoting.{quoted}

-- The bytes of an input between two offsets, if it has these offsets.
abbrev pub bytes_between : List ℕ → ℕ → ℕ → List ℕ
bytes_between input from to = if nat_le from to && nat_le to (length input) then take (to - from) (drop from input) else []

-- The last match of a leaf in a list, or `found` if there is none. If the matches are in the order
-- of their ends, it is the longest.
abbrev pub last_of : ℕ → Option Match → List Match → Option Match
last_of leaf found [] = found
last_of leaf found (m ∷ rest) = last_of leaf (if m.leaf == leaf then Some m else found) rest

-- The beginning of the line of a leaf.
abbrev pub leaf_head : List Leaf → ℕ → List ℕ
leaf_head leaves leaf = codes "  leaf " ++ (decimal leaf ++ (codes "  " ++ (name_at leaves leaf ++ codes "  ")))

-- A number of bytes.
abbrev pub length_text : ℕ → List ℕ
length_text count = decimal count ++ (if count == 1 then codes " byte" else codes " bytes")

-- The length of a match from an offset, and its text.
abbrev pub extent_text : List ℕ → ℕ → ℕ → List ℕ
extent_text input from end = length_text (end - from) ++ (codes "  " ++ (quoted (bytes_between input from end) ++ codes "\n"))

module _ (leaves : List Leaf) (input : List ℕ) (from : ℕ) where
  -- The line of a match.
  abbrev pub match_line : Match → List ℕ
  match_line m = leaf_head leaves m.leaf ++ (codes "priority " ++ (decimal m.priority ++ (codes "  " ++ extent_text input from m.end)))

  abbrev pub line_or_none : Option Match → List ℕ
  line_or_none None = []
  line_or_none (Some m) = match_line m

  -- A line for each of these matches.
  abbrev pub lines_of : List (Option Match) → List ℕ
  lines_of found = flat_map line_or_none found

-- The last match of each of consecutive leaves, from the first one's number and their count.
abbrev pub longest_from : List Match → ℕ → ℕ → List (Option Match)
longest_from matches leaf zero = []
longest_from matches leaf (suc count) = last_of leaf None matches ∷ longest_from matches (suc leaf) count

-- Whether another match has the same length.
abbrev pub has_rival : List Match → Match → Bool
has_rival matches m = list_any (λ other. (other.end == m.end) && not (other.leaf == m.leaf)) matches

-- The reason that a match wins.
abbrev pub reason : List Match → Match → List ℕ
reason matches m = if has_rival matches m then codes " wins: it has the highest priority of the longest matches\n" else codes " wins: its match is the longest\n"

abbrev pub winner_text : List Leaf → List Match → Match → List ℕ
winner_text leaves matches m = leaf_text leaves m.leaf ++ reason matches m

-- The last line names the match that a lexer takes, or that there is none.
abbrev pub IsVerdict : List Leaf → List Match → List ℕ → Type 0
IsVerdict leaves matches text =
    ((matches ≡ []) × (text ≡ codes "no leaf matches\n")) ⊎ ((m : Match) × IsWinner matches m × (text ≡ winner_text leaves matches m))

-- The lines about all matches from an offset.
pub record AreLines (leaves : List Leaf) (input : List ℕ) (from : ℕ) (matches : List Match) (text : List ℕ) : Type 0 where
  pub verdict : List ℕ
  pub decided : IsVerdict leaves matches verdict
  pub is : text ≡ lines_of leaves input from (longest_from matches 0 (length leaves)) ++ verdict

-- The lines about all matches from an offset of an input were appended to a page.
pub record ShowsMatches (leaves : List Leaf) (input : List ℕ) (from : ℕ) (old new : PageValue) : Type 0 where
  pub matches : List Match
  pub all : AreMatches (rules_of leaves) input from matches
  pub text : List ℕ
  pub lines : AreLines leaves input from matches text
  pub gained : Gains text old new

-- A match, by its leaf and its text.
abbrev pub first_text : List Leaf → List ℕ → Match → List ℕ
first_text leaves input m = leaf_text leaves m.leaf ++ (codes ", " ++ quoted (bytes_between input 0 m.end))

-- The match that a lexer takes at the beginning of an input, if there is one, was appended to a
-- page.
pub record ShowsFirst (leaves : List Leaf) (input : List ℕ) (is_there : Bool) (old new : PageValue) : Type 0 where
  pub matches : List Match
  pub all : AreMatches (rules_of leaves) input 0 matches
  pub first : MatchBool is_there ((m : Match) × IsWinner matches m × Gains (first_text leaves input m) old new) ((matches ≡ []) × (new ≡ old))
