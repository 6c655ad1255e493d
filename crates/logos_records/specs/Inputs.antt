-- The JSON objects for inputs that together take all edges of a graph.
use Rattle.std.specs.Prelude.{◌≡◌, ℕ, Bool, List, [], ◌∷◌, codes, length, take}
use Rattle.std.specs.List.{flat_map}
use Rattle.json.specs.Token.{Token}
use Rattle.logos_evidence.specs.Covering.{AreCoveringInputs}
use Rattle.logos_graph.specs.Graph.{GraphState}
use Rattle.logos_json.specs.Lines.{AreLines, LinesValue, Puts}
use Rattle.logos_json.specs.Members.{bytes_member, object}

-- The line of an input.
abbrev pub input_lines : List ℕ → List (List Token)
input_lines input = object (bytes_member (codes "input") input) ∷ []

-- The lines of the first `most` of `count` inputs that together take all edges of a graph were
-- appended.
pub record PutsInputs (graph : List GraphState) (utf8 : Bool) (most count : ℕ) (old new : LinesValue) : Type 0 where
  pub inputs : List (List ℕ)
  pub covering : AreCoveringInputs graph utf8 inputs
  pub all : count ≡ length inputs
  pub put : Puts (flat_map input_lines (take most inputs)) old new

-- These bytes are the lines of the first `most` of `count` inputs that together take all edges of a
-- graph.
pub record AreInputRecords (graph : List GraphState) (utf8 : Bool) (most count : ℕ) (text : List ℕ) : Type 0 where
  pub inputs : List (List ℕ)
  pub covering : AreCoveringInputs graph utf8 inputs
  pub all : count ≡ length inputs
  pub lines : AreLines (flat_map input_lines (take most inputs)) text
