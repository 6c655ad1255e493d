-- The lines of inputs that together take all edges of a graph.
use Rattle.std.specs.Prelude.{◌≡◌, ℕ, Bool, List, ◌++◌, codes, length, take}
use Rattle.std.specs.List.{flat_map}
use Rattle.logos_evidence.specs.Covering.{AreCoveringInputs}
use Rattle.logos_graph.specs.Graph.{GraphState}
use Rattle.logos_page.specs.Pages.{Gains, PageValue}
use Rattle.logos_answers.specs.Quoting.{literal}

-- The line of an input: a Rust literal.
abbrev pub input_line : List ℕ → List ℕ
input_line input = literal input ++ codes "\n"

-- The lines of the first `most` of `count` inputs that together take all edges of a graph were
-- appended to a page.
pub record ShowsInputs (graph : List GraphState) (utf8 : Bool) (most count : ℕ) (old new : PageValue) : Type 0 where
  pub inputs : List (List ℕ)
  pub covering : AreCoveringInputs graph utf8 inputs
  pub all : count ≡ length inputs
  pub gained : Gains (flat_map input_line (take most inputs)) old new
