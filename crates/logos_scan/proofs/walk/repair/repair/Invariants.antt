use Rattle.std.proofs.Common.{ℕ}
use Rattle.logos_scan.specs.walk.Walk.{IsRowStart, IsSameBeside, Walked}
use Rattle.logos_scan.proofs.walk.repair.repair.Given as goal

abbrev pub invariant-loop-at : goal.invariant-loop-at
invariant-loop-at l = record {
  walked : Walked l.rows l.text l.row_start l.trace l.stretch.from l.at l.now;
  stays : IsRowStart l.rows l.now;
  beside : IsSameBeside l.stretch.from l.at l.initial.trace l.trace;
  guessed : (guess : ℕ) × Walked l.rows l.text guess l.trace l.at l.stretch.to l.stretch.end;
}
