use Rattle.std.proofs.Common.{◌≡◌, ◌+◌, ◌<◌, length, slice_index, ◌∙◌, arith}
use Rattle.logos_positions.proofs.steps.AlikeLemmas.{has_moved, index_is, kept_moved, set_moved}
use Rattle.logos_positions.proofs.positions.set.push_moved.Goals as goal

pub loop-i-preserved : goal.loop-i-preserved
loop-i-preserved c =
    let i = c.loop-i.invariant in
    let old = c.args.positions.now.items in
    let xs = c.loop-i.positions.items in
    let from = c.args.from in
    let shift = c.args.shift in
    let at = c.loop-i.i in
    let position = c.index.result.now + shift in
    let lt : at < c.args.to = c.loop-i-test.true in
    let inside : at < length xs = omega (arith, lt, c.requires.within, i.longer) in
    let kept : c.index.result.now ≡ slice_index old at = index_is xs at c.index.result.now inside c.index.ensures ∙ i.keeps at (omega (arith, lt, c.requires.within)) in
    let is : slice_index old at + shift ≡ position = omega (arith, kept) in
    let ys = c.push.new.self.items in
    let made = c.in_ok-push.ensures.items in
    record {
      order = omega (arith, i.order);
      within = omega (arith, lt);
      longer = omega (arith, c.in_ok-push.ensures.len, i.longer, c.loop-i.positions.ok.0, c.push.new.self.ok.0);
      keeps = kept_moved old xs ys position made i.longer i.keeps;
      set = set_moved old xs ys from c.args.to at shift position made is i.order lt c.requires.within i.set;
      has = has_moved old xs ys from at shift position made is i.order i.has;
    }

pub returns-clause-set : goal.returns-clause-set
returns-clause-set c = λ low high set le between.
    let i = c.loop-i.invariant in
    i.set low high set le (λ k f t. (between k f t).0) (λ k f t. (between k f (omega (arith, t, i.within))).1)
