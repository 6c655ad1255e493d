use Rattle.std.proofs.Common.{◌≡◌, ◌+◌, ◌<◌, true, false, length, sym, ◌∙◌, arith}
use Rattle.logos_evidence.specs.search.Rests.{more}
use Rattle.logos_evidence.specs.search.inside.PendingPoints.{pending_at, pending_next, pending_goal}
use Rattle.logos_evidence.proofs.search.ShortestLemmas.{closed_more, no_goal_more, far, nowhere}
use Rattle.logos_evidence.proofs.search.PendingLemmas.{occurs_lead, leads_to}
use Rattle.logos_evidence.proofs.search.shortest.Goals as goal

pub way_to-requires-clause-down : goal.way_to-requires-clause-down
way_to-requires-clause-down g c = λ number p l.
    let tree = c.loop-number.invariant.tree in
    let same = tree.same in
    (tree.reached number p (omega (arith, l, same))).before

pub returns-then-is_goal : goal.returns-then-is_goal
returns-then-is_goal g c =
    let next = g.M.Machine.leads c.args.machine.now in
    let is_goal = g.M.Machine.goal c.args.machine.now in
    let i = c.loop-number.invariant in
    let way = c.in_ok-bytes.ensures (pending_next next c.args.utf8) c.pending_of.result i.tree c.pending_of.ensures in
    let there = way.way (pending_at c.args.start (more 0)) i.first in
    let is : pending_goal is_goal c.pending_of.result ≡ true = sym c.is_goal.ensures ∙ c.if-is_goal.true in
    record {
      leads = leads_to next is_goal c.args.utf8 c.args.start _ c.pending_of.result way.are_bytes there is;
      least = λ other leads.
          let s = occurs_lead next is_goal c.args.utf8 c.args.start other leads in
          let d = far (pending_next next c.args.utf8) (pending_goal is_goal) _ _ c.loop-number.number i.tree i.closed i.none other 0 (pending_at c.args.start (more 0)) s.0
          (omega arith) leads.input.0 i.first s.1 s.2 in
          let size = way.size in
          let low = i.tree.low 0 (omega arith) in
          omega (arith, d, size, low);
    }

pub loop-number-preserved : goal.loop-number-preserved
loop-number-preserved g c =
    let next = g.M.Machine.leads c.args.machine.now in
    let is_goal = g.M.Machine.goal c.args.machine.now in
    let i = c.loop-number.invariant in
    let made = c.in_ok-meet_all.ensures in
    let out : pending_goal is_goal c.pending_of.result ≡ false = sym c.is_goal.ensures ∙ c.if-is_goal.false in
    let inside : c.loop-number.number < length c.loop-number.visits.points.keys = omega arith in
    record {
      passed = let longer = made.grows.longer in omega (arith, longer, inside);
      first = made.grows.stays 0 _ i.first;
      tree = made.tree;
      within = λ l n m.
          let w = made.within n m in
          let d = made.grows.depths c.loop-number.number inside in
          let r = made.tree.rising c.loop-number.number (c.loop-number.number + 1) (omega arith) l in
          omega (arith, w, d, r);
      closed = closed_more (pending_next next c.args.utf8) _ _ _ _ c.loop-number.number inside made.grows i.closed made.met;
      none = no_goal_more (pending_goal is_goal) _ _ _ _ c.loop-number.number c.pending_of.result c.pending_of.ensures out made.grows i.none;
    }

pub returns : goal.returns
returns g c = λ bytes leads.
    let next = g.M.Machine.leads c.args.machine.now in
    let is_goal = g.M.Machine.goal c.args.machine.now in
    let i = c.loop-number.invariant in
    let s = occurs_lead next is_goal c.args.utf8 c.args.start bytes leads in
    nowhere (pending_next next c.args.utf8) (pending_goal is_goal) _ _ c.loop-number.number i.tree i.closed i.none bytes 0 (pending_at c.args.start (more 0)) s.0
    (omega arith) leads.input.0 i.first s.1 s.2
