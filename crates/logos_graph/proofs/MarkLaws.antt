-- The meaning of an early mark of a reduced graph.
use Rattle.std.proofs.Common.{◌≡◌, ◌↔◌, ℕ, ◌<◌, Bool, false, List, length, Option, Some, None, IsSomeAnd, slice_get, arith}
use Rattle.logos_hir.specs.Text.{IsBytes}
use Rattle.logos_automaton.specs.Munch.{Rule, Finds, matched}
use Rattle.logos_automaton.proofs.munch.Unique.{rule_within}
use Rattle.logos_graph.specs.Graph.{GraphState, walk}
use Rattle.logos_graph.specs.Reduced.{HasType, IsReduced, IsSettled}

-- two facts about a state hold together
settled_here : (rules : List Rule) (bytes : List ℕ) (leaf : ℕ) (state : Option GraphState) →
    IsSomeAnd state (λ state. (state.state_type.early ≡ Some leaf) ↔ IsSettled rules bytes leaf) →
    IsSomeAnd state (λ state. state.state_type.early ≡ Some leaf) → IsSettled rules bytes leaf
settled_here rules bytes leaf None h e = absurd e
settled_here rules bytes leaf (Some state) h e = h.0 e

pub early_found : (rules : List Rule) (utf8 : Bool) (graph : List GraphState) (bytes : List ℕ) (s leaf : ℕ) → IsReduced rules graph → IsBytes bytes → 0 < length bytes →
    walk graph 0 bytes false ≡ Some s → HasType graph s (λ type. type.early ≡ Some leaf) → Finds rules utf8 bytes 0 (matched leaf (length bytes))
early_found rules utf8 graph bytes s leaf reduced are some way early = record {
  nonempty = some;
  longest = λ other end m. rule_within rules other bytes 0 end m (omega arith);
  chosen = (settled_here rules bytes leaf (slice_get graph s) (reduced.early bytes s leaf are way) early).at_end;
}
