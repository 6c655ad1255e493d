use Rattle.std.proofs.Common.{◌≡◌, ◌++◌, map, drop, string_bytes}
use Rattle.logos_automaton.specs.Errors.{numbers}
use Rattle.logos_codegen.specs.Texts.{named_leaf, other_lines}
use Rattle.logos_codegen.proofs.reports.push_lines.Given as goal

abbrev pub invariant-loop-other : goal.invariant-loop-other
invariant-loop-other l =
    string_bytes l.text ++ other_lines (map named_leaf l.leaves) l.leaf.0 (numbers (drop l.other-index l.set))
    ≡ string_bytes l.fn.text ++ other_lines (map named_leaf l.leaves) l.leaf.0 (numbers l.set)
