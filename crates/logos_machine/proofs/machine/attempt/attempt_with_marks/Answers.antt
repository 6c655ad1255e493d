use Rattle.std.proofs.Common.{◌≡◌, ◌+◌, suc, Some, None, refl, arith}
use Rattle.logos_automaton.specs.Munch.{matched, failed, ended}
use Rattle.logos_code.specs.Runs.{Does, acts, continues, is_over, acts_on}
use Rattle.logos_machine.specs.inside.Attempts.{status_of}
use Rattle.logos_machine.proofs.StatusLemmas.{is_at_next, is_at_match, is_at_fault, is_at_over}
use Rattle.logos_machine.proofs.machine.attempt.attempt_with_marks.Goals as goal

pub returns-in-Acts-Some-default-clause-attempts : goal.returns-in-Acts-Some-default-clause-attempts
returns-in-Acts-Some-default-clause-attempts c =
    let w = c.in-Acts-Some-default in
    let d : Does c.args.code.now c.args.input.now c.args.start (status_of c.loop-next.at) (acts (Some (w.leaf.0, w.to)) w.field-1) = rw w.field-0-is at w.ensures in
    c.loop-next.invariant.continues (matched w.leaf.0 w.to) 1 (acts_on _ _ w.field-1 _ d refl)

pub returns-in-Acts-Some-default-clause-within : goal.returns-in-Acts-Some-default-clause-within
returns-in-Acts-Some-default-clause-within c =
    let w = c.in-Acts-Some-default in
    let d : Does c.args.code.now c.args.input.now c.args.start (status_of c.loop-next.at) (acts (Some (w.leaf.0, w.to)) w.field-1) = rw w.field-0-is at w.ensures in
    is_at_match c.args.code.now c.root.ensures.sound c.args.input.now c.args.start c.requires (status_of c.loop-next.at) _ w.field-1 c.loop-next.invariant.is_at d

pub error_end-requires-clause-start : goal.error_end-requires-clause-start
error_end-requires-clause-start c =
    let w = c.in-Acts-None-default in
    let d : Does c.args.code.now c.args.input.now c.args.start (status_of c.loop-next.at) (acts None w.offset) = rw w.field-0-is at w.ensures in
    (is_at_fault c.args.code.now c.root.ensures.sound c.args.input.now c.args.start c.requires (status_of c.loop-next.at) w.offset c.loop-next.invariant.is_at d).0

pub error_end-requires-clause-offset : goal.error_end-requires-clause-offset
error_end-requires-clause-offset c =
    let w = c.in-Acts-None-default in
    let d : Does c.args.code.now c.args.input.now c.args.start (status_of c.loop-next.at) (acts None w.offset) = rw w.field-0-is at w.ensures in
    (is_at_fault c.args.code.now c.root.ensures.sound c.args.input.now c.args.start c.requires (status_of c.loop-next.at) w.offset c.loop-next.invariant.is_at d).1

pub returns-in-Acts-None-default-clause-attempts : goal.returns-in-Acts-None-default-clause-attempts
returns-in-Acts-None-default-clause-attempts c =
    let w = c.in-Acts-None-default in
    let d : Does c.args.code.now c.args.input.now c.args.start (status_of c.loop-next.at) (acts None w.offset) = rw w.field-0-is at w.ensures in
    c.loop-next.invariant.continues (failed c.error_end.result) 1 (acts_on _ None w.offset _ d c.error_end.ensures.ends)

pub returns-in-Returns-clause-attempts : goal.returns-in-Returns-clause-attempts
returns-in-Returns-clause-attempts c = c.loop-next.invariant.continues ended 1 (is_over _ c.in-Returns.ensures)

pub returns-in-Returns-clause-within : goal.returns-in-Returns-clause-within
returns-in-Returns-clause-within c =
    is_at_over c.args.code.now c.root.ensures.sound c.args.input.now c.args.start c.requires (status_of c.loop-next.at) c.loop-next.invariant.is_at c.in-Returns.ensures

pub loop-next-preserved : goal.loop-next-preserved
loop-next-preserved c =
    let i = c.loop-next.invariant in
    let few = i.few in
    let n = is_at_next c.args.code.now c.root.ensures.sound c.args.input.now c.args.start c.requires (status_of c.loop-next.at) (status_of c.in-Enters.next) i.is_at c.in-Enters.ensures in
    let moves = n.1 in
    record {
      is_at = n.0;
      few = omega (arith, few, moves);
      continues = λ found m g.
          let e : c.loop-next.before + suc m ≡ c.loop-next.before + 1 + m = omega arith in
          rw (← e) (i.continues found (suc m) (continues _ _ found m c.in-Enters.ensures g));
    }
