-- The JSON objects with the inputs that leaves find and lose.
use Rattle.std.specs.Prelude.{◌≡◌, ℕ, zero, suc, Bool, List, [], ◌∷◌, ◌++◌, Option, Some, None, codes}
use Rattle.json.specs.Token.{Token}
use Rattle.logos_answers.specs.Examples.{IsEvidence, LossValue}
use Rattle.logos_graph.specs.View.{rules_of}
use Rattle.logos_json.specs.Lines.{LinesValue, Puts}
use Rattle.logos_json.specs.Members.{bytes_member, maybe_bytes, null_member, number_member, object, text_member}
use Rattle.logos_pattern.specs.declared.leaf.Leaf.{Leaf}
use Rattle.logos_records.specs.Matches.{named_leaf}

-- The input that a leaf loses, and the leaf that wins it; both are null if it never loses.
abbrev pub loss_members : Option LossValue → List Token
loss_members (Some loss) = bytes_member (codes "loses") loss.input ++ number_member (codes "taker") loss.winner
loss_members None = null_member (codes "loses") ++ null_member (codes "taker")

-- The input that a leaf finds, which is null if it finds none, and the input that it loses.
abbrev pub example_members : Option (List ℕ) → Option LossValue → List Token
example_members found loss = maybe_bytes (codes "finds") found ++ loss_members loss

abbrev pub example_object : List ℕ → List Leaf → ℕ → Option (List ℕ) → Option LossValue → List Token
example_object name leaves leaf found loss = object (text_member (codes "enum") name ++ (named_leaf leaves leaf ++ example_members found loss))

-- The object of a leaf of an enum with a name.
pub record IsExampleObject (name : List ℕ) (leaves : List Leaf) (utf8 : Bool) (leaf : ℕ) (shown : List Token) : Type 0 where
  pub found : Option (List ℕ)
  pub loss : Option LossValue
  pub evidence : IsEvidence (rules_of leaves) utf8 leaf found loss
  pub is : shown ≡ example_object name leaves leaf found loss

module _ (name : List ℕ) (leaves : List Leaf) (utf8 : Bool) where
  -- The objects of consecutive leaves, from the first one's number and their count.
  abbrev pub AreExampleObjects : ℕ → ℕ → List (List Token) → Type 0
  AreExampleObjects leaf zero shown = shown ≡ []
  AreExampleObjects leaf (suc count) shown = (first : List Token) × (rest : List (List Token)) × IsExampleObject name leaves utf8 leaf first × AreExampleObjects (suc leaf) count rest × (shown ≡ first ∷ rest)

  -- The object of a leaf was appended.
  abbrev pub PutsExample : ℕ → LinesValue → LinesValue → Type 0
  PutsExample leaf old new = (shown : List Token) × IsExampleObject name leaves utf8 leaf shown × Puts (shown ∷ []) old new

  -- The objects of `count` consecutive leaves were appended.
  abbrev pub PutsExamples : ℕ → ℕ → LinesValue → LinesValue → Type 0
  PutsExamples leaf count old new = (shown : List (List Token)) × AreExampleObjects leaf count shown × Puts shown old new
