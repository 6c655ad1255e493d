use Rattle.std.proofs.Common.{map, drop}
use Rattle.logos_byte_class.specs.Bytes.{comparison_of, some_compares}
use Rattle.logos_code.proofs.AlikeLemmas.{EndsRunIf}
use Rattle.logos_code.proofs.code.byte_runs.comparisons_end.Given as goal

-- the comparisons that are left decide
abbrev pub invariant-loop-comparison : goal.invariant-loop-comparison
invariant-loop-comparison l =
    EndsRunIf (some_compares (drop l.comparison-index (map comparison_of l.comparisons))) (some_compares (map comparison_of l.comparisons)) l.byte l.end l.until
