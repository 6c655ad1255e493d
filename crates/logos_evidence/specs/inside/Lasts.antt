-- The last match on the way of a graph over an input, step by step.
use Rattle.std.specs.Prelude.{ℕ, ◌+◌, List, [], ◌∷◌, length, Option, None, Some, slice_get, option_and_then}
use Rattle.std.specs.Option.{option_or, unwrap_or}
use Rattle.logos_graph.specs.Graph.{GraphState, next_by, next_at_end}

-- A leaf with the length of its match.
abbrev pub with_size : ℕ → Option ℕ → Option (ℕ × ℕ)
with_size n None = None
with_size n (Some leaf) = Some (leaf, n)

module _ (graph : List GraphState) where
  abbrev pub early_of : ℕ → Option ℕ
  early_of s = option_and_then (λ state. state.state_type.early) (slice_get graph s)

  abbrev pub late_of : ℕ → Option ℕ
  late_of s = option_and_then (λ state. state.state_type.accept) (slice_get graph s)

  -- The leaf whose match ends at the state `s`, if there is one. `next` is the next state.
  abbrev pub seen_by : ℕ → Option ℕ → Option ℕ
  seen_by s next = option_or (option_and_then late_of next) (early_of s)

  -- The leaf whose match ends at a state before a byte, and at a state at the end of the input.
  abbrev pub mark_by : ℕ → ℕ → Option ℕ
  mark_by s b = seen_by s (next_by graph s b)

  abbrev pub mark_at_end : ℕ → Option ℕ
  mark_at_end s = seen_by s (next_at_end graph s)

  -- The state to which a byte leads, or a number past all states.
  abbrev pub step_to : ℕ → ℕ → ℕ
  step_to s b = unwrap_or (next_by graph s b) (length graph)

  -- The last match on the way from a state, after `n` bytes and with the remaining bytes: its leaf
  -- and its length.
  abbrev pub last_from : ℕ → ℕ → List ℕ → Option (ℕ × ℕ)
  last_from s n [] = with_size n (mark_at_end s)
  last_from s n (b ∷ bytes) = option_or (last_from (step_to s b) (n + 1) bytes) (with_size n (mark_by s b))
