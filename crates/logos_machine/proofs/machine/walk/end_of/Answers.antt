use Rattle.std.proofs.Common.{◌+◌, ◌-◌, ◌/◌, ◌%◌, arith}
use Rattle.logos_code.specs.declared.code.rows.MatchUse.TheVariants.{Emits, Skips, CallsBack}
use Rattle.logos_machine.proofs.WalkLemmas.{ends_before, closes_soon}
use Rattle.logos_machine.proofs.machine.walk.end_of.Goals as goal

pub returns-then-entry-lt-HALTS : goal.returns-then-entry-lt-HALTS
returns-then-entry-lt-HALTS c =
    let ends = c.requires.ends in
    let named = c.args.last.0 - 536870912 in
    let f = ends_before c.args.code.now c.requires.sound c.args.input.now c.args.start c.requires.start (c.args.last.3 / 272) c.args.last.0 c.args.last.1 c.args.last.2 c.requires.reaches
    named Skips (omega (arith, ends)) (omega (arith, ends, c.if-entry-lt-HALTS.true)) in
    (named % 134217728, c.args.last.2 + 1 + named / 134217728, f.0, f.1)

pub returns-then-entry-lt-CLOSES : goal.returns-then-entry-lt-CLOSES
returns-then-entry-lt-CLOSES c =
    let ends = c.requires.ends in
    let f = ends_before c.args.code.now c.requires.sound c.args.input.now c.args.start c.requires.start (c.args.last.3 / 272) c.args.last.0 c.args.last.1 c.args.last.2 c.requires.reaches
    (c.args.last.0 - 805306368) Emits (omega (arith, ends, c.if-entry-lt-HALTS.false)) (omega (arith, ends, c.if-entry-lt-HALTS.false, c.if-entry-lt-CLOSES.true)) in
    rw (c.halted-late.ensures.leaf, c.halted-late.ensures.late) f

pub returns-then-entry-lt-SHUTS : goal.returns-then-entry-lt-SHUTS
returns-then-entry-lt-SHUTS c =
    let ends = c.requires.ends in
    let f = closes_soon c.args.code.now c.requires.sound c.args.input.now c.args.start c.requires.start (c.args.last.3 / 272) c.args.last.0 c.args.last.1 c.args.last.2 c.requires.reaches
    (c.args.last.0 - 1073741824) Emits (omega (arith, ends, c.if-entry-lt-HALTS.false, c.if-entry-lt-CLOSES.false)) (omega (arith, ends, c.if-entry-lt-HALTS.false, c.if-entry-lt-CLOSES.false, c.if-entry-lt-SHUTS.true)) in
    f

pub returns-then-entry-lt-CALLS_BACK : goal.returns-then-entry-lt-CALLS_BACK
returns-then-entry-lt-CALLS_BACK c =
    let ends = c.requires.ends in
    let f = closes_soon c.args.code.now c.requires.sound c.args.input.now c.args.start c.requires.start (c.args.last.3 / 272) c.args.last.0 c.args.last.1 c.args.last.2 c.requires.reaches
    (c.args.last.0 - 1342177280) Skips (omega (arith, ends, c.if-entry-lt-HALTS.false, c.if-entry-lt-CLOSES.false, c.if-entry-lt-SHUTS.false)) (omega (arith, ends, c.if-entry-lt-HALTS.false, c.if-entry-lt-CLOSES.false, c.if-entry-lt-SHUTS.false, c.if-entry-lt-CALLS_BACK.true)) in
    (c.args.last.0 - 1342177280, c.args.last.2 + 2, f.0, f.1)

pub returns-then-entry-lt-CALLS_BACK_AFTER : goal.returns-then-entry-lt-CALLS_BACK_AFTER
returns-then-entry-lt-CALLS_BACK_AFTER c =
    let ends = c.requires.ends in
    let f = ends_before c.args.code.now c.requires.sound c.args.input.now c.args.start c.requires.start (c.args.last.3 / 272) c.args.last.0 c.args.last.1 c.args.last.2 c.requires.reaches
    (c.args.last.0 - 1610612736) CallsBack (omega (arith, ends, c.if-entry-lt-HALTS.false, c.if-entry-lt-CLOSES.false, c.if-entry-lt-SHUTS.false, c.if-entry-lt-CALLS_BACK.false)) (omega (arith, ends, c.if-entry-lt-HALTS.false, c.if-entry-lt-CLOSES.false, c.if-entry-lt-SHUTS.false, c.if-entry-lt-CALLS_BACK.false, c.if-entry-lt-CALLS_BACK_AFTER.true)) in
    rw (c.halted-late-then-entry-lt-CALLS_BACK_AFTER.ensures.leaf, c.halted-late-then-entry-lt-CALLS_BACK_AFTER.ensures.late) f.0

pub returns-then-entry-lt-STUCK : goal.returns-then-entry-lt-STUCK
returns-then-entry-lt-STUCK c =
    let ends = c.requires.ends in
    let f = closes_soon c.args.code.now c.requires.sound c.args.input.now c.args.start c.requires.start (c.args.last.3 / 272) c.args.last.0 c.args.last.1 c.args.last.2 c.requires.reaches
    (c.args.last.0 - 1879048192) CallsBack (omega (arith, ends, c.if-entry-lt-HALTS.false, c.if-entry-lt-CLOSES.false, c.if-entry-lt-SHUTS.false, c.if-entry-lt-CALLS_BACK.false, c.if-entry-lt-CALLS_BACK_AFTER.false)) (omega (arith, ends, c.if-entry-lt-HALTS.false, c.if-entry-lt-CLOSES.false, c.if-entry-lt-SHUTS.false, c.if-entry-lt-CALLS_BACK.false, c.if-entry-lt-CALLS_BACK_AFTER.false, c.if-entry-lt-STUCK.true)) in
    f.0
