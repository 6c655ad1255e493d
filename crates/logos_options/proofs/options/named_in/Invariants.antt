use Rattle.std.proofs.Common.{◌≡◌, drop, map}
use Rattle.logos_options.specs.Options.{named_in, row_value}
use Rattle.logos_options.proofs.options.named_in.Given as goal

-- The rows that are left decide.
abbrev pub invariant-loop-row : goal.invariant-loop-row
invariant-loop-row l = named_in (map row_value (drop l.row-index l.rows)) l.word ≡ named_in (map row_value l.rows) l.word
