-- The iterator over the states of a graph returns each of them once, in order.
use Rattle.std.proofs.Common.{◌≡◌, ◌∙◌, ℕ, ◌+◌, ◌<◌, arith, length, get_or}
use Rattle.std.specs.List.{range_with_len}
use Rattle.std.specs.Iterator.{YieldsFirstBy}
use Rattle.std.proofs.lemmas.Iterator.{YieldsList}
use Rattle.std.proofs.lemmas.Iterator.Consumers.{YieldsList-at, YieldsList-from_first}
use Rattle.std.proofs.lemmas.List.FromFn.{length-range_with_len, get_or-range_with_len}
use Rattle.logos_graph.specs.GraphView.{state_number}
use Rattle.logos_graph.specs.StatesView.{states_left}
use Rattle.logos_graph.specs.declared.graph.value.States.{States}

-- the next state is the one after those before
pub number_at : (n i x : ℕ) → (i < length (range_with_len 0 n)) × (x ≡ get_or (range_with_len 0 n) i x) → (x ≡ i) × (i < n)
number_at n i x h =
    let lt : i < n = omega (arith, h.0, length-range_with_len 0 n) in
    (h.1 ∙ get_or-range_with_len 0 n i x lt ∙ from_zero, lt)
  where
    from_zero : 0 + i ≡ i
    from_zero = omega arith

-- the iterator returns all states
pub road : {s t : States} (n : ℕ) → states_left t ≡ range_with_len 0 n → s ≡ t → YieldsList (YieldsFirstBy state_number states_left) state_number s (range_with_len 0 n)
road n left same = YieldsList-at same (YieldsList-from_first state_number states_left (range_with_len 0 n) left)
