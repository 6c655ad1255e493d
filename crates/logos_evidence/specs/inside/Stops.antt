-- The marks of a graph after each byte of an input, and after its end.
use Rattle.std.specs.Prelude.{ℕ, zero, suc, ◌+◌, List, [], ◌∷◌, Option, slice_get, option_and_then}
use Rattle.logos_graph.specs.Found.{mark_of}
use Rattle.logos_graph.specs.Graph.{GraphState, next_by, next_at_end}

module _ (graph : List GraphState) where
  -- The mark of a state after `n` bytes.
  abbrev pub mark_at : ℕ → ℕ → Option (ℕ × ℕ)
  mark_at s n = option_and_then (λ state. mark_of state.state_type n) (slice_get graph s)

  -- The mark after the first `stop` of the remaining bytes, read from a state after `n` bytes. With
  -- one more, it is the mark after the end of the input.
  abbrev pub stop_mark : ℕ → ℕ → List ℕ → ℕ → Option (ℕ × ℕ)
  stop_mark s n bytes zero = mark_at s n
  stop_mark s n [] (suc stop) = option_and_then (λ t. mark_at t (n + 1)) (next_at_end graph s)
  stop_mark s n (b ∷ bytes) (suc stop) = option_and_then (λ t. stop_mark t (n + 1) bytes stop) (next_by graph s b)
