use Rattle.std.proofs.Common.{◌≡◌, map, drop}
use Rattle.logos_byte_class.specs.Bytes.{comparison_of, some_compares}
use Rattle.logos_code.proofs.code.rows.some_holds.Given as goal

-- the comparisons that are left decide
abbrev pub invariant-loop-comparison : goal.invariant-loop-comparison
invariant-loop-comparison l = some_compares (map comparison_of (drop l.comparison-index l.comparisons)) l.byte ≡ some_compares (map comparison_of l.comparisons) l.byte
