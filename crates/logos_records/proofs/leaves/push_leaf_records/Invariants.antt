use Rattle.std.proofs.Common.{drop}
use Rattle.logos_json.specs.Lines.{LinesValue, Puts}
use Rattle.logos_records.specs.Leaves.{leaf_objects}
use Rattle.logos_records.proofs.leaves.push_leaf_records.Given as goal

-- with the leaves that are left all objects are pushed
abbrev pub invariant-loop-number : goal.invariant-loop-number
invariant-loop-number l = (new : LinesValue) → Puts (leaf_objects l.name l.number (drop l.number l.rows)) l.lines new → Puts (leaf_objects l.name 0 l.rows) l.initial.lines new
