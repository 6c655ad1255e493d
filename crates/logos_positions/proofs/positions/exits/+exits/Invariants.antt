use Rattle.std.proofs.Common.{◌+◌, ◌-◌, ◌*◌, ◌≤◌, ◌↔◌, ◌⊎◌, IsTrue}
use Rattle.logos_positions.specs.Core.{Core, Exits}
use Rattle.logos_positions.specs.Kinds.{test_at}
use Rattle.logos_positions.specs.Marks.{Has}
use Rattle.logos_positions.specs.Node.{core_of}
use Rattle.logos_positions.specs.Repeat.{in_front, up_to}
use Rattle.logos_positions.proofs.positions.exits.+exits.Given as goal

abbrev pub invariant-exits_copies-loop-done : goal.invariant-exits_copies-loop-done
invariant-exits_copies-loop-done l = record {
  within : l.done ≤ l.copies.count;
  same : (b : Core) → Exits (in_front (l.copies.count - l.done) (core_of l.body) b) (test_at l.at) (λ q. Has l.marks (l.copies.base + l.copies.each * l.done + q)) (IsTrue l.left)
      ↔ Exits (in_front l.copies.count (core_of l.body) b) (test_at l.at) (λ q. Has l.marks (l.copies.base + q)) (IsTrue l.copies.entered);
}

abbrev pub invariant-exits_up_to-loop-done : goal.invariant-exits_up_to-loop-done
invariant-exits_up_to-loop-done l = record {
  within : l.done ≤ l.copies.count;
  same : (IsTrue l.any ⊎ Exits (up_to (l.copies.count - l.done) (core_of l.body)) (test_at l.at) (λ q. Has l.marks (l.copies.base + l.copies.each * l.done + q)) (IsTrue l.left))
      ↔ Exits (up_to l.copies.count (core_of l.body)) (test_at l.at) (λ q. Has l.marks (l.copies.base + q)) (IsTrue l.copies.entered);
}

abbrev pub decreases-exits_copies-loop-done : goal.decreases-exits_copies-loop-done
decreases-exits_copies-loop-done l = l.copies.count - l.done

abbrev pub decreases-exits_up_to-loop-done : goal.decreases-exits_up_to-loop-done
decreases-exits_up_to-loop-done l = l.copies.count - l.done
