use Rattle.std.proofs.Common.{◌⊎◌, drop}
use Rattle.std.specs.Prelude.{Contains}
use Rattle.logos_evidence.specs.search.Covering.{Takes}
use Rattle.logos_evidence.specs.declared.search.steps.InputStep.{InputStep}
use Rattle.logos_evidence.proofs.search.steps.add_steps.Given as goal

-- the steps so far, and those that are left, are those of the whole
abbrev pub invariant-loop-byte : goal.invariant-loop-byte
invariant-loop-byte g l = record {
  only : (step : InputStep) → Contains l.steps.keys step → Contains l.initial.steps.keys step ⊎ Takes (g.M.Machine.leads l.machine) l.fn.start l.input step;
  grows : (step : InputStep) → Contains l.initial.steps.keys step → Contains l.steps.keys step;
  whole : (step : InputStep) → Takes (g.M.Machine.leads l.machine) l.at (drop l.byte-index l.input) step → Takes (g.M.Machine.leads l.machine) l.fn.start l.input step;
  rest : (step : InputStep) → Takes (g.M.Machine.leads l.machine) l.fn.start l.input step →
      Contains l.steps.keys step ⊎ Takes (g.M.Machine.leads l.machine) l.at (drop l.byte-index l.input) step;
}
