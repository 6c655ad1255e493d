-- The lines with the inputs that leaves find and lose.
use Rattle.std.specs.Prelude.{◌≡◌, ℕ, zero, suc, Bool, List, [], ◌++◌, Option, Some, None, codes, MatchOption}
use Rattle.logos_automaton.specs.Munch.{Rule}
use Rattle.logos_evidence.specs.declared.matches.Match.{Match}
use Rattle.logos_evidence.specs.Examples.{HasNoExample, IsShortestExample}
use Rattle.logos_evidence.specs.Losses.{IsShortestLoss, NeverLoses}
use Rattle.logos_evidence.specs.Matching.{AreMatches, IsWinner}
use Rattle.logos_graph.specs.View.{rules_of}
use Rattle.logos_pattern.specs.declared.leaf.Leaf.{Leaf}
use Rattle.logos_page.specs.Pages.{Gains, PageValue}
use Rattle.logos_answers.specs.declared.examples.Loss.{Loss}
use Rattle.logos_answers.specs.Matches.{leaf_head}
use Rattle.logos_answers.specs.Names.{leaf_text}
use Rattle.logos_answers.specs.Quoting.{quoted}

-- An input that a leaf loses, and the leaf that is found there.
pub record LossValue : Type 0 where
  pub input : List ℕ
  pub winner : ℕ

-- The view of a loss.
abbrev pub loss_value : Loss → LossValue
loss_value loss = record { input = loss.input.items; winner = loss.winner }

module _ (rules : List Rule) (utf8 : Bool) (leaf : ℕ) where
  -- A shortest input that the leaf loses, with the leaf of a match that wins there.
  pub record IsLostTo (loss : LossValue) : Type 0 where
    pub shortest : IsShortestLoss rules utf8 leaf loss.input
    pub matches : List Match
    pub all : AreMatches rules loss.input 0 matches
    pub best : Match
    pub wins : IsWinner matches best
    pub is : loss.winner ≡ best.leaf

  -- Inputs that the leaf finds and loses.
  pub record IsEvidence (found : Option (List ℕ)) (loss : Option LossValue) : Type 0 where
    pub finds : MatchOption found (HasNoExample rules utf8 leaf) (IsShortestExample rules utf8 leaf)
    pub loses : MatchOption loss (NeverLoses rules utf8 leaf) IsLostTo

-- The text about the input that a leaf finds.
abbrev pub found_text : Option (List ℕ) → List ℕ
found_text None = codes "finds nothing"
found_text (Some input) = codes "finds " ++ quoted input

-- The text about the input that a leaf loses.
abbrev pub loss_text : List Leaf → Option LossValue → List ℕ
loss_text leaves None = []
loss_text leaves (Some loss) = codes ", loses " ++ (quoted loss.input ++ (codes " to " ++ leaf_text leaves loss.winner))

abbrev pub evidence_line : List Leaf → ℕ → Option (List ℕ) → Option LossValue → List ℕ
evidence_line leaves leaf found loss = leaf_head leaves leaf ++ (found_text found ++ (loss_text leaves loss ++ codes "\n"))

-- The line of a leaf.
pub record IsExampleLine (leaves : List Leaf) (utf8 : Bool) (leaf : ℕ) (text : List ℕ) : Type 0 where
  pub found : Option (List ℕ)
  pub loss : Option LossValue
  pub evidence : IsEvidence (rules_of leaves) utf8 leaf found loss
  pub is : text ≡ evidence_line leaves leaf found loss

module _ (leaves : List Leaf) (utf8 : Bool) where
  -- The lines of consecutive leaves, from the first one's number and their count.
  abbrev pub AreExampleLines : ℕ → ℕ → List ℕ → Type 0
  AreExampleLines leaf zero text = text ≡ []
  AreExampleLines leaf (suc count) text = (line rest : List ℕ) × IsExampleLine leaves utf8 leaf line × AreExampleLines (suc leaf) count rest × (text ≡ line ++ rest)

  -- The line of a leaf was appended to a page.
  abbrev pub ShowsExample : ℕ → PageValue → PageValue → Type 0
  ShowsExample leaf old new = (text : List ℕ) × IsExampleLine leaves utf8 leaf text × Gains text old new

  -- The lines of `count` consecutive leaves were appended to a page.
  abbrev pub ShowsExamples : ℕ → ℕ → PageValue → PageValue → Type 0
  ShowsExamples leaf count old new = (text : List ℕ) × AreExampleLines leaf count text × Gains text old new
