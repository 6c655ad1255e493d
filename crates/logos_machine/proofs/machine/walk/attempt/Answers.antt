use Rattle.std.proofs.Common.{◌-◌, arith}
use Rattle.logos_code.specs.declared.code.rows.MatchUse.TheVariants.{Emits}
use Rattle.logos_machine.proofs.WalkLemmas.{comes_first, looks_here, closes_soon}
use Rattle.logos_machine.proofs.machine.walk.attempt.Goals as goal

pub returns-then-first-lt-SHUTS : goal.returns-then-first-lt-SHUTS
returns-then-first-lt-SHUTS c =
    let first = c.first_entry-first.result in
    let here = c.if-start-input.false in
    let low = c.if-first-ge-CLOSES.true in
    let high = c.if-first-lt-SHUTS.true in
    let r = looks_here c.args.code.now c.first_entry-first.ensures.sound c.args.input.now c.args.start c.requires c.args.code.now.root c.args.start 0 first (comes_first c.args.code.now c.first_entry-first.ensures.sound c.args.input.now c.args.start c.requires) (omega (arith, here)) c.first_entry-first.ensures.first.0 in
    closes_soon c.args.code.now c.first_entry-first.ensures.sound c.args.input.now c.args.start c.requires c.args.code.now.root first c.args.start 0 r (first - 1073741824) Emits (omega (arith, low)) (omega (arith, low, high))

pub end_of-requires-clause-reaches : goal.end_of-requires-clause-reaches
end_of-requires-clause-reaches c =
    let here = c.if-start-input.false in
    rw c.root_row_start.ensures.state (looks_here c.args.code.now c.first_entry-first.ensures.sound c.args.input.now c.args.start c.requires c.args.code.now.root c.args.start 0 c.first_entry-first.result (comes_first c.args.code.now c.first_entry-first.ensures.sound c.args.input.now c.args.start c.requires) (omega (arith, here)) c.first_entry-first.ensures.first.0)

pub walk-last-requires-clause-reaches : goal.walk-last-requires-clause-reaches
walk-last-requires-clause-reaches c =
    let here = c.if-start-input.false in
    looks_here c.args.code.now c.first_entry-first.ensures.sound c.args.input.now c.args.start c.requires c.args.code.now.root c.args.start 0 c.first_entry-first.result (comes_first c.args.code.now c.first_entry-first.ensures.sound c.args.input.now c.args.start c.requires) (omega (arith, here)) c.first_entry-first.ensures.first.0
