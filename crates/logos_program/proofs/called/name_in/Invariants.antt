use Rattle.std.proofs.Common.{◌≤◌, length}
use Rattle.logos_program.proofs.NameLemmas.{NoneFrom}
use Rattle.logos_program.proofs.called.name_in.Given as goal

abbrev pub invariant-loop-from : goal.invariant-loop-from
invariant-loop-from l = record {
  inside : l.from ≤ length l.path;
  none : NoneFrom l.path l.from;
}

abbrev pub decreases-loop-from : goal.decreases-loop-from
decreases-loop-from l = l.from
