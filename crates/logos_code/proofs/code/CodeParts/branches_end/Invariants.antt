use Rattle.std.proofs.Common.{map, drop}
use Rattle.logos_code.specs.Code.{by_conditions}
use Rattle.logos_code.specs.Runs.{target}
use Rattle.logos_code.specs.CodeView.{branch_of, code_of}
use Rattle.logos_code.proofs.AlikeLemmas.{EndsRunIf}
use Rattle.logos_code.proofs.code.CodeParts.branches_end.Given as goal

-- the branches that are left decide
abbrev pub invariant-loop-condition : goal.invariant-loop-condition
invariant-loop-condition l =
    EndsRunIf (target (code_of l.self) (by_conditions (drop l.condition-index (map branch_of l.branches)))) (target (code_of l.self) (by_conditions (map branch_of l.branches))) l.byte l.end l.until
