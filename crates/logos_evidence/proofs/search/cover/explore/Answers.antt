use Rattle.std.proofs.Common.{◌≡◌, ◌+◌, ◌<◌, ℕ, length, subst, arith}
use Rattle.logos_evidence.specs.search.inside.PendingPoints.{pending_next}
use Rattle.logos_evidence.specs.search.inside.Visits.{IsClosed}
use Rattle.logos_evidence.proofs.search.ShortestLemmas.{closed_more}
use Rattle.logos_evidence.proofs.search.cover.explore.Goals as goal

pub loop-number-preserved : goal.loop-number-preserved
loop-number-preserved g c =
    let next = g.M.Machine.leads c.args.machine.now in
    let i = c.loop-number.invariant in
    let made = c.in_ok-meet_all.ensures in
    let inside : c.loop-number.number < length c.loop-number.visits.points.keys = omega arith in
    record {
      passed = let longer = made.grows.longer in omega (arith, longer, inside);
      first = made.grows.stays 0 _ i.first;
      tree = made.tree;
      within = λ l n m.
          let w = made.within n m in
          let d = made.grows.depths c.loop-number.number inside in
          let r = made.tree.rising c.loop-number.number (c.loop-number.number + 1) (omega arith) l in
          omega (arith, w, d, r);
      closed = closed_more (pending_next next c.args.utf8) _ _ _ _ c.loop-number.number inside made.grows i.closed made.met;
    }

pub returns-clause-explored : goal.returns-clause-explored
returns-clause-explored g c =
    let next = pending_next (g.M.Machine.leads c.args.machine.now) c.args.utf8 in
    let i = c.loop-number.invariant in
    let passed = i.passed in
    let all : c.loop-number.number ≡ length c.loop-number.visits.points.keys = omega (arith, passed) in
    record {
      first = i.first;
      tree = i.tree;
      closed = subst (λ (n : ℕ). IsClosed next c.loop-number.visits.points.keys c.loop-number.visits.ways.items n) all i.closed;
    }
