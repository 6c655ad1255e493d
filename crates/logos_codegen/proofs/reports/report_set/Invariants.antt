use Rattle.std.proofs.Common.{◌≡◌, ◌++◌, map, flat_map, drop}
use Rattle.logos_automaton.specs.Errors.{numbers}
use Rattle.logos_codegen.specs.Texts.{named_leaf, disambiguation_faults}
use Rattle.logos_codegen.proofs.reports.report_set.Given as goal

abbrev pub invariant-loop-number : goal.invariant-loop-number
invariant-loop-number l =
    l.errors ++ flat_map (disambiguation_faults (map named_leaf l.leaves) (numbers l.set)) (numbers (drop l.number-index l.set))
    ≡ l.fn.errors ++ flat_map (disambiguation_faults (map named_leaf l.leaves) (numbers l.set)) (numbers l.set)
