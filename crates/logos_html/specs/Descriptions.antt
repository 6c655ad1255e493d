-- The descriptions of items: the lines that `--at` prints about their starts.
use Rattle.std.specs.Prelude.{◌≡◌, ◌≤◌, ◌⊎◌, ℕ, List, [], ◌++◌, Contains, take}
use Rattle.logos_answers.specs.Matches.{AreLines}
use Rattle.logos_attempts.specs.Partials.{IsPartialText}
use Rattle.logos_code.specs.Code.{CodeValue}
use Rattle.logos_code.specs.Items.{Item, token, error}
use Rattle.logos_evidence.specs.Matching.{AreMatches}
use Rattle.logos_evidence.specs.declared.matches.Match.{Match}
use Rattle.logos_graph.specs.View.{rules_of}
use Rattle.logos_pattern.specs.declared.leaf.Leaf.{Leaf}

-- The offsets at which an item begins and ends.
abbrev pub start_of : Item → ℕ
start_of (token leaf from to slice) = from
start_of (error leaf from to slice) = from

abbrev pub end_of : Item → ℕ
end_of (token leaf from to slice) = to
end_of (error leaf from to slice) = to

-- An item with its description.
pub record DescribedItem : Type 0 where
  pub item : Item
  pub description : List ℕ

-- For an input, and the code and the leaves of its lexer.
module _ (leaves : List Leaf) (code : CodeValue) (bytes : List ℕ) where
  -- The lines that `--at` prints about an offset: first those about all matches from there, then
  -- those of the partial matches if no leaf matches. They quote a prefix of the input, in which all
  -- these matches end.
  pub record IsDescription (from : ℕ) (text : List ℕ) : Type 0 where
    pub matches : List Match
    pub all : AreMatches (rules_of leaves) bytes from matches
    pub end : ℕ
    pub covers : (m : Match) → Contains matches m → m.end ≤ end
    pub lines : List ℕ
    pub are : AreLines leaves (take end bytes) from matches lines
    pub partial : List ℕ
    pub reads : IsPartialText leaves (take end bytes) from code partial
    pub is : text ≡ lines ++ partial

  -- An item has no description, or the one of its start.
  abbrev pub IsDescribed : DescribedItem → Type 0
  IsDescribed it = (it.description ≡ []) ⊎ IsDescription (start_of it.item) it.description
