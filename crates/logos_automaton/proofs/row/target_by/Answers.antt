use Rattle.std.proofs.Common.{subst, sym, arith}
use Rattle.logos_automaton.specs.Keys.{State, IsAt, IsReached, by_byte}
use Rattle.logos_positions.specs.Marks.{IsRising}
use Rattle.logos_automaton.proofs.row.target_by.Goals as goal

pub overflow_cast-result : goal.overflow_cast-result
overflow_cast-result c = omega (arith, c.in_ok-target.ensures.within, c.in_ok-target.ensures.few, c.requires.few)

pub returns-clause-extends : goal.returns-clause-extends
returns-clause-extends c = λ ts i h.
    let n = c.in_ok-target.ensures in
    let looks = c.args.steps.looks in
    let next = h.next c.args.byte c.ranges.byte.fits in
    let is = c.in_ok-made.ensures in
    record {
      grows = n.grows;
      rising = λ r. n.rising r (subst (λ (s : State). IsRising s.positions) (sym is) next.positions.set.rising);
      distinct = n.distinct;
      reached = λ r. n.reached ts looks r (subst (IsReached ts looks) (sym is) (by_byte h.from _ c.args.byte c.ranges.byte.fits (r.reached i h.from h.from_is) next));
      longer = n.longer;
      few = n.few;
    }

pub returns-clause-at : goal.returns-clause-at
returns-clause-at c = subst (IsAt c.number_of.new.states.keys c.in_ok-target.target) c.in_ok-made.ensures c.in_ok-target.ensures.stored
