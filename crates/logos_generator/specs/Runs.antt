-- The runs of the code value of a graph.
use Rattle.std.specs.Prelude.{ℕ, ◌+◌, ◌-◌, ◌≤◌, ◌↔◌, Bool, List, length}
use Rattle.logos_hir.specs.Text.{IsBytes}
use Rattle.logos_automaton.specs.Munch.{Found}
use Rattle.logos_graph.specs.Graph.{GraphState}
use Rattle.logos_graph.specs.Found.{GraphFinds}
use Rattle.logos_code.specs.Code.{CodeValue}
use Rattle.logos_code.specs.Runs.{Attempts, CodeFinds}

-- From each point of each input the code has the result of the graph, and a match attempt enters at
-- most two states more than there are bytes left.
pub record RunsAs (graph : List GraphState) (utf8 : Bool) (code : CodeValue) : Type 0 where
  pub same : (bytes : List ℕ) (from : ℕ) (found : Found) → IsBytes bytes → CodeFinds code bytes from found ↔ GraphFinds graph utf8 bytes from found
  pub steps : (bytes : List ℕ) (from n : ℕ) (found : Found) → IsBytes bytes → from ≤ length bytes → Attempts code bytes from found n → n ≤ (length bytes - from) + 2
