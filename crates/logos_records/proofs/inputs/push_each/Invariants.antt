use Rattle.std.proofs.Common.{drop, map}
use Rattle.std.specs.List.{flat_map}
use Rattle.logos_json.specs.Lines.{LinesValue, Puts}
use Rattle.logos_records.specs.Inputs.{input_lines}
use Rattle.logos_records.proofs.inputs.push_each.Given as goal

-- with the inputs that are left the lines of all are pushed
abbrev pub invariant-loop-input : goal.invariant-loop-input
invariant-loop-input l = (new : LinesValue) → Puts (flat_map input_lines (map (λ input. input.items) (drop l.input-index l.inputs))) l.lines new →
    Puts (flat_map input_lines (map (λ input. input.items) l.inputs)) l.initial.lines new
