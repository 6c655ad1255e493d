use Rattle.std.proofs.Common.{◌≡◌, ◌+◌, ⊎_elim, length, suc, Some, None, refl, arith}
use Rattle.logos_automaton.specs.Munch.{matched, failed}
use Rattle.logos_code.specs.Runs.{Does, acts}
use Rattle.logos_machine.specs.Streams.{StopsWithin, leads_within, acts_within, looks_later}
use Rattle.logos_machine.specs.inside.Attempts.{status_of}
use Rattle.logos_machine.proofs.StatusLemmas.{is_at_next, is_at_match, is_at_fault}
use Rattle.logos_machine.proofs.machine.part.attempt_in_part.Goals as goal

pub returns-in-Acts-Some-default : goal.returns-in-Acts-Some-default
returns-in-Acts-Some-default c =
    let i = c.loop-next.invariant in
    let w = c.in-Acts-Some-default in
    let d : StopsWithin c.args.code.now c.args.part.now c.args.start (length c.args.part.now) (status_of c.loop-next.at) × Does c.args.code.now c.args.part.now c.args.start (status_of c.loop-next.at) (acts (Some (w.leaf.0, w.to)) w.field-1) = rw w.field-0-is at w.ensures in
    let few = i.few in
    record {
      attempts = i.continues (matched w.leaf.0 w.to) 1 (acts_within _ _ w.field-1 _ d.0 d.1 refl tt);
      within = is_at_match c.args.code.now c.root.ensures.sound c.args.part.now c.args.start c.requires (status_of c.loop-next.at) _ w.field-1 i.is_at d.1;
      few = ⊎_elim (λ h. omega (arith, few, h)) (λ h. let past = h.offset in omega (arith, few, past)) i.is_at.within;
    }

pub error_end-requires-clause-start : goal.error_end-requires-clause-start
error_end-requires-clause-start c =
    let w = c.in-Acts-None-default in
    let d : StopsWithin c.args.code.now c.args.part.now c.args.start (length c.args.part.now) (status_of c.loop-next.at) × Does c.args.code.now c.args.part.now c.args.start (status_of c.loop-next.at) (acts None w.offset) = rw w.field-0-is at w.ensures in
    (is_at_fault c.args.code.now c.root.ensures.sound c.args.part.now c.args.start c.requires (status_of c.loop-next.at) w.offset c.loop-next.invariant.is_at d.1).0

pub error_end-requires-clause-offset : goal.error_end-requires-clause-offset
error_end-requires-clause-offset c =
    let w = c.in-Acts-None-default in
    let d : StopsWithin c.args.code.now c.args.part.now c.args.start (length c.args.part.now) (status_of c.loop-next.at) × Does c.args.code.now c.args.part.now c.args.start (status_of c.loop-next.at) (acts None w.offset) = rw w.field-0-is at w.ensures in
    (is_at_fault c.args.code.now c.root.ensures.sound c.args.part.now c.args.start c.requires (status_of c.loop-next.at) w.offset c.loop-next.invariant.is_at d.1).1

pub returns-in-Acts-None-default : goal.returns-in-Acts-None-default
returns-in-Acts-None-default c =
    let i = c.loop-next.invariant in
    let w = c.in-Acts-None-default in
    let d : StopsWithin c.args.code.now c.args.part.now c.args.start (length c.args.part.now) (status_of c.loop-next.at) × Does c.args.code.now c.args.part.now c.args.start (status_of c.loop-next.at) (acts None w.offset) = rw w.field-0-is at w.ensures in
    let e = c.error_end.ensures in
    let few = i.few in
    let past = e.ends.past in
    record {
      attempts = i.continues (failed c.error_end.result) 1 (acts_within _ None w.offset _ d.0 d.1 e.ends (λ _. e.within));
      within = (omega (arith, past), e.within);
      few = ⊎_elim (λ h. omega (arith, few, h)) (λ h. let past = h.offset in omega (arith, few, past)) i.is_at.within;
    }

pub returns-in-Waits : goal.returns-in-Waits
returns-in-Waits c = c.loop-next.invariant.looks c.in-Waits.ensures

pub loop-next-preserved : goal.loop-next-preserved
loop-next-preserved c =
    let i = c.loop-next.invariant in
    let few = i.few in
    let d = c.in-Enters.ensures in
    let n = is_at_next c.args.code.now c.root.ensures.sound c.args.part.now c.args.start c.requires (status_of c.loop-next.at) (status_of c.in-Enters.next) i.is_at d.1 in
    let moves = n.1 in
    record {
      is_at = n.0;
      few = omega (arith, few, moves);
      continues = λ found m g.
          let e : c.loop-next.before + suc m ≡ c.loop-next.before + 1 + m = omega arith in
          rw (← e) (i.continues found (suc m) (leads_within _ _ found m d.0 d.1 g));
      looks = λ l. i.looks (looks_later _ _ d.1 l);
    }
