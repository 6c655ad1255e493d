use Rattle.std.proofs.Common.{◌≡◌, arith}
use Rattle.logos_positions.proofs.steps.LiteralLemmas.{comes_all, comes_below, comes_more, comes_none}
use Rattle.logos_positions.proofs.positions.step.step_marked_literal.Goals as goal

pub loop-i-init : goal.loop-i-init
loop-i-init c = record {
  after = omega arith;
  within = omega (arith, c.requires.some);
  rising = c.requires.set.rising;
  comes = comes_none _ _ _ _ _ _;
}

pub push_after-requires-clause-below : goal.push_after-requires-clause-below
push_after-requires-clause-below c =
    let i = c.loop-i.invariant in
    comes_below c.args.by.byte c.args.by.marks.now c.args.next.now.items c.loop-i.next.items c.args.text.now c.args.own.base c.args.own.from c.requires.from
    c.loop-i.i c.requires.rising c.requires.set i.after (let t = c.loop-i-test.true in omega (arith, t, c.requires.to.within)) i.comes

pub loop-i-preserved : goal.loop-i-preserved
loop-i-preserved c =
    let i = c.loop-i.invariant in
    let t = c.loop-i-test.true in
    record {
      after = omega (arith, i.after);
      within = omega (arith, t);
      rising = c.in_ok-push_after.ensures.rising;
      comes = comes_more _ _ _ _ _ _ _ _ _ i.after i.comes c.in_ok-push_after.ensures.has;
    }

pub returns : goal.returns
returns c = λ test.
    let i = c.loop-i.invariant in
    let t = c.loop-i-test.false in
    let e : c.loop-i.i ≡ c.args.own.to = omega (arith, t, i.within) in
    comes_all _ _ _ _ _ _ _ c.requires.from test c.args.own.to c.requires.rising i.rising c.requires.set c.requires.to c.requires.some (rw e at i.comes)
