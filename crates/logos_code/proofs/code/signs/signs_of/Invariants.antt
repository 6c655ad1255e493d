use Rattle.std.proofs.Common.{◌≡◌, ℕ, ◌<◌, None, length, map, slice_index_or}
use Rattle.logos_code.specs.CodeView.{code_of, state_at}
use Rattle.logos_code.specs.Signs.{mark_by}
use Rattle.logos_code.proofs.code.signs.signs_of.Given as goal

-- the states so far have their signs
abbrev pub invariant-loop-state : goal.invariant-loop-state
invariant-loop-state l = record {
  count : length l.signs.items ≡ l.state-index;
  each : (k : ℕ) → k < l.state-index → slice_index_or (map mark_by l.signs.items) k None ≡ (state_at (code_of l.parts) k).mark;
}
