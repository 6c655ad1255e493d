use Rattle.std.proofs.Common.{◌/◌, ⊎_elim, arith}
use Rattle.logos_machine.proofs.WalkLemmas.{leads_on, looks_on, looks_here, looks_past}
use Rattle.logos_machine.proofs.machine.walk.walk.Goals as goal

pub loop-at-init : goal.loop-at-init
loop-at-init c =
    let start = c.requires.start in
    record {
      comes = leads_on c.args.code.now c.requires.sound c.args.input.now c.args.start (omega (arith, start)) c.args.code.now.root c.args.first c.args.start 0 c.requires.reaches c.requires.leads;
      row_start = c.requires.reaches.row_start c.requires.leads;
      within = omega (arith, start);
    }

pub loop-at-preserved-then-entry-lt-STAYS : goal.loop-at-preserved-then-entry-lt-STAYS
loop-at-preserved-then-entry-lt-STAYS c =
    let start = c.requires.start in
    let i = c.loop-at.invariant in
    let here = c.loop-at-test.true in
    let r = looks_here c.args.code.now c.requires.sound c.args.input.now c.args.start (omega (arith, start)) (c.loop-at.row_start / 272) c.loop-at.at c.loop-at.before c.entry-entry.result i.comes (omega (arith, here)) c.entry-entry.ensures in
    record {
      comes = leads_on c.args.code.now c.requires.sound c.args.input.now c.args.start (omega (arith, start)) (c.loop-at.row_start / 272) c.entry-entry.result c.loop-at.at c.loop-at.before r (omega (arith, c.if-entry-lt-STAYS.true));
      row_start = r.row_start (omega (arith, c.if-entry-lt-STAYS.true));
      within = omega (arith, here);
    }

pub returns-then-entry-ge-LEAVES-clause-reaches : goal.returns-then-entry-ge-LEAVES-clause-reaches
returns-then-entry-ge-LEAVES-clause-reaches c =
    let start = c.requires.start in
    let here = c.loop-at-test.true in
    looks_here c.args.code.now c.requires.sound c.args.input.now c.args.start (omega (arith, start)) (c.loop-at.row_start / 272) c.loop-at.at c.loop-at.before c.entry-entry.result c.loop-at.invariant.comes (omega (arith, here)) c.entry-entry.ensures

pub loop-at-preserved : goal.loop-at-preserved
loop-at-preserved c =
    let start = c.requires.start in
    let looks = c.look_far-later.ensures in
    let later = c.look_far-later.result.0 in
    let stop = c.look_far-later.result.1 in
    let low = c.if-later-ge-STAYS.false in
    let r = looks_on c.args.code.now c.requires.sound c.args.input.now c.args.start (omega (arith, start)) (c.loop-at.row_start / 272) c.loop-at.at c.loop-at.before later stop c.loop-at.invariant.comes looks in
    record {
      comes = leads_on c.args.code.now c.requires.sound c.args.input.now c.args.start (omega (arith, start)) (c.loop-at.row_start / 272) later stop c.loop-at.before r (omega (arith, low));
      row_start = r.row_start (omega (arith, low));
      within = ⊎_elim (λ h. omega (arith, h.1)) (λ h. absurd (omega (arith, h, low))) looks.moves;
    }

pub returns-clause-reaches : goal.returns-clause-reaches
returns-clause-reaches c =
    let start = c.requires.start in
    let past = c.loop-at-test.false in
    let i = c.loop-at.invariant in
    let within = i.within in
    looks_past c.args.code.now c.requires.sound c.args.input.now c.args.start (omega (arith, start)) (c.loop-at.row_start / 272) c.loop-at.at c.loop-at.before c.last_entry.result i.comes (omega (arith, past, within)) c.last_entry.ensures
