use Rattle.logos_scan.specs.walk.Walk.{IsRowStart, IsSameBeside, Walked}
use Rattle.logos_scan.proofs.walk.walk.Given as goal

abbrev pub invariant-loop-at : goal.invariant-loop-at
invariant-loop-at l = record {
  walked : Walked l.rows l.text l.row_start l.trace 0 l.at l.now;
  stays : IsRowStart l.rows l.now;
  beside : IsSameBeside 0 l.at l.initial.trace l.trace;
}
