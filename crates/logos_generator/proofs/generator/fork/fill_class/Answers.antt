use Rattle.std.proofs.Common.{◌∙◌, ◌≡◌, [], drop, slice_index, sym, arith}
use Rattle.std.proofs.lemmas.List.{drop_all}
use Rattle.logos_code.specs.CodeView.{entry_of}
use Rattle.logos_generator.proofs.ForkLemmas.{hit_nothing, ranges_turn}
use Rattle.logos_generator.proofs.generator.fork.fill_class.Goals as goal

pub loop-range-preserved : goal.loop-range-preserved
loop-range-preserved c = λ k h.
    ranges_turn c.deref-range-items.result.now c.loop-range.range-index _ k c.args.target _ _ c.loop-range-test.true
    (rw (c.start.ensures, c.end.ensures) at (c.fill_range.ensures k h))
    ∙ c.loop-range.invariant k h

pub returns : goal.returns
returns c = λ b h.
    let e : drop c.loop-range.range-index c.deref-range-items.result.now ≡ [] = drop_all c.loop-range.range-index c.deref-range-items.result.now (omega (arith, c.loop-range-test.false)) in
    sym (hit_nothing c.args.target (entry_of (slice_index c.loop-range.table b))) ∙ rw c.deref-range-items.ensures.value at (rw e at (c.loop-range.invariant b h))
