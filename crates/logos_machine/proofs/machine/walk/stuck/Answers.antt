use Rattle.std.proofs.Common.{◌-◌, ◌/◌, ◌<◌, arith}
use Rattle.std.proofs.lemmas.List.Elements.{All-from_get_or}
use Rattle.logos_hir.specs.Text.{IsBytes}
use Rattle.logos_code.specs.LastMarks.{IsLastMark}
use Rattle.logos_code.specs.declared.code.last_marks.LastMark.TheVariants.{Never, Back}
use Rattle.logos_machine.specs.inside.IsAt.{IsMatch}
use Rattle.logos_machine.proofs.WalkLemmas.{goes_back, fails_soon}
use Rattle.logos_machine.proofs.machine.walk.stuck.Goals as goal

pub overflow_sub-result : goal.overflow_sub-result
overflow_sub-result c =
    let last = c.args.last in
    let are : IsBytes c.args.input.now = All-from_get_or (λ b. b < 256) c.args.input.now 0 (λ i l. let f = c.type_inv.input i in omega (arith, f)) in
    let mark : IsLastMark c.args.code.now (last.3 / 272) (Back c.in-Back.leaf c.in-Back.bytes) = rw c.in-Back.is at c.last_mark.ensures in
    let t = goes_back c.args.code.now c.requires.sound c.args.input.now c.args.start c.requires.start (last.3 / 272) last.0 last.1 last.2 c.requires.reaches
    c.requires.nowhere.0 c.requires.nowhere.1 c.requires.inside are c.in-Back.leaf c.in-Back.bytes mark in
    let fits : IsMatch c.args.code.now c.args.input.now c.args.start c.in-Back.leaf.0 (last.1 - c.in-Back.bytes) = t.within in
    omega (arith, fits.1)

pub returns-in-Back : goal.returns-in-Back
returns-in-Back c =
    let last = c.args.last in
    let are : IsBytes c.args.input.now = All-from_get_or (λ b. b < 256) c.args.input.now 0 (λ i l. let f = c.type_inv.input i in omega (arith, f)) in
    let mark : IsLastMark c.args.code.now (last.3 / 272) (Back c.in-Back.leaf c.in-Back.bytes) = rw c.in-Back.is at c.last_mark.ensures in
    goes_back c.args.code.now c.requires.sound c.args.input.now c.args.start c.requires.start (last.3 / 272) last.0 last.1 last.2 c.requires.reaches
    c.requires.nowhere.0 c.requires.nowhere.1 c.requires.inside are c.in-Back.leaf c.in-Back.bytes mark

pub returns-in-Never : goal.returns-in-Never
returns-in-Never c =
    let last = c.args.last in
    let are : IsBytes c.args.input.now = All-from_get_or (λ b. b < 256) c.args.input.now 0 (λ i l. let f = c.type_inv.input i in omega (arith, f)) in
    let mark : IsLastMark c.args.code.now (last.3 / 272) Never = rw c.in-Never.is at c.last_mark.ensures in
    fails_soon c.args.code.now c.requires.sound c.args.input.now c.args.start c.requires.start (last.3 / 272) last.0 last.1 last.2 c.requires.reaches
    c.requires.nowhere.0 c.requires.nowhere.1 c.requires.inside are c.error_end.result mark c.error_end.ensures.ends c.error_end.ensures.within
