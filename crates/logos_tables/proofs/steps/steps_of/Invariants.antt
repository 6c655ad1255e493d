use Rattle.std.proofs.Common.{◌≡◌, ℕ, ◌<◌, length, slice_index}
use Rattle.logos_code.specs.CodeView.{state_at}
use Rattle.logos_tables.specs.Steps.{step_number}
use Rattle.logos_tables.proofs.steps.steps_of.Given as goal

-- the symbols so far have their steps
abbrev pub invariant-loop-symbol : goal.invariant-loop-symbol
invariant-loop-symbol l =
    (length l.steps ≡ 257) × ((k : ℕ) → k < l.symbol → slice_index l.steps k ≡ step_number l.code (state_at l.code l.state) k)
