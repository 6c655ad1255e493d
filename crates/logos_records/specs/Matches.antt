-- The JSON objects for the matches from an offset.
use Rattle.std.specs.Prelude.{◌≡◌, ◌⊎◌, ℕ, ◌==◌, List, [], ◌∷◌, ◌++◌, Option, Some, None, codes, length}
use Rattle.std.specs.List.{flat_map}
use Rattle.json.specs.Token.{Token}
use Rattle.logos_answers.specs.Matches.{bytes_between, longest_from}
use Rattle.logos_answers.specs.Names.{variant_text}
use Rattle.logos_evidence.specs.declared.matches.Match.{Match}
use Rattle.logos_evidence.specs.Matching.{AreMatches, IsWinner}
use Rattle.logos_graph.specs.View.{rules_of}
use Rattle.logos_json.specs.Lines.{AreLines, LinesValue, Puts}
use Rattle.logos_json.specs.Members.{bool_member, bytes_member, maybe_text, number_member, object}
use Rattle.logos_pattern.specs.declared.leaf.Leaf.{Leaf}

-- A leaf, as its number and its variant.
abbrev pub named_leaf : List Leaf → ℕ → List Token
named_leaf leaves leaf = number_member (codes "leaf") leaf ++ maybe_text (codes "variant") (variant_text leaves leaf)

-- The span of a match from an offset, its text, and whether its leaf is the winner.
abbrev pub end_members : List ℕ → ℕ → ℕ → Match → List Token
end_members input from winner m =
    number_member (codes "from") from ++ (number_member (codes "to") m.end ++ (bytes_member (codes "text") (bytes_between input from m.end)
    ++ bool_member (codes "wins") (m.leaf == winner)))

-- The line of a match.
abbrev pub match_lines : List Leaf → List ℕ → ℕ → ℕ → Option Match → List (List Token)
match_lines leaves input from winner None = []
match_lines leaves input from winner (Some m) =
    object (named_leaf leaves m.leaf ++ (number_member (codes "priority") m.priority ++ end_members input from winner m)) ∷ []

-- The lines of the longest match of each leaf that matches from an offset of an input were
-- appended.
pub record PutsMatches (leaves : List Leaf) (input : List ℕ) (from : ℕ) (old new : LinesValue) : Type 0 where
  pub matches : List Match
  pub all : AreMatches (rules_of leaves) input from matches
  pub put : ((matches ≡ []) × (new ≡ old)) ⊎ ((m : Match) × IsWinner matches m ×
      Puts (flat_map (match_lines leaves input from m.leaf) (longest_from matches 0 (length leaves))) old new)

-- These bytes are the lines of the longest match of each leaf that matches from an offset of an
-- input: none if no leaf matches.
pub record AreMatchRecords (leaves : List Leaf) (input : List ℕ) (from : ℕ) (text : List ℕ) : Type 0 where
  pub matches : List Match
  pub all : AreMatches (rules_of leaves) input from matches
  pub lines : ((matches ≡ []) × (text ≡ [])) ⊎ ((m : Match) × IsWinner matches m ×
      AreLines (flat_map (match_lines leaves input from m.leaf) (longest_from matches 0 (length leaves))) text)
