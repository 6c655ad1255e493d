use Rattle.std.proofs.Common.{◌≡◌, ◌+◌, ◌-◌, ◌≤◌, List, length, arith, subst, sym}
use Rattle.logos_machine.specs.LexerValue.{answers_of}
use Rattle.logos_relex.specs.inside.Anews.{IsBorder}
use Rattle.logos_relex.specs.declared.chunk.Chunk.{Chunk}
use Rattle.logos_relex.proofs.MakingLemmas.{making_first, making_next}
use Rattle.logos_relex.proofs.anew.make_anew.Goals as goal

pub loop-border-init : goal.loop-border-init
loop-border-init g c =
    making_first c.args.code.now (answers_of g.C.Fn c.args.callback.now) c.args.former.now.chunks.items c.args.edit.input.now c.args.start c.new-chunks.result.items c.new-chunks.ensures.items c.requires.border

pub border_from-border-requires-clause-border : goal.border_from-border-requires-clause-border
border_from-border-requires-clause-border g c = subst (λ (l : List Chunk). IsBorder l c.loop-border.border) (sym c.chunks.ensures) c.loop-border.invariant.is_border

-- a former border after the edit is met
pub returns-then-border-target : goal.returns-then-border-target
returns-then-border-target g c =
    let m = c.loop-border.invariant in
    let border = c.border_from-border.result in
    let is : IsBorder c.args.former.now.chunks.items border = subst (λ (l : List Chunk). IsBorder l border) c.chunks.ensures c.border_from-border.ensures.border in
    let on = c.border_from-border.ensures.later in
    let later = m.later in
    let bytes = is.at in
    let at : border.at ≡ c.max-target.result = grind (arith, c.if-border-target.true) in
    let few : length c.loop-border.rest.now ≤ c.length-in-loop-border.result - c.args.edit.replaced.to = grind (arith, c.if-border-target.true) in
    let after : c.args.edit.replaced.to ≤ border.at = grind (arith, at, c.max-target.ensures) in
    let left : border.at + length c.loop-border.rest.now ≡ c.args.former.now.length = grind (arith, at, few, c.max-target.ensures, c.saturating_sub.ensures, c.length.ensures, c.length-in-loop-border.ensures, c.requires.edit) in
    record {
      left = c.loop-border.rest.now;
      is_rest = m.is_rest;
      chunks_are = m.chunks_are;
      follows = record { later = omega (arith, later, on); within = is.within; after = omega (arith, after, bytes); left_is = omega (arith, left, bytes) };
    }

-- the input ends
pub returns-in_default : goal.returns-in_default
returns-in_default g c =
    let m = c.loop-border.invariant in
    record { left = c.loop-border.rest.now; is_rest = m.is_rest; chunks_are = m.chunks_are; follows = (c.in_ok-last.ensures.items, c.in_ok-last.ensures.accepted) }

pub loop-border-preserved : goal.loop-border-preserved
loop-border-preserved g c =
    let is : IsBorder c.args.former.now.chunks.items c.border_from-border.result = subst (λ (l : List Chunk). IsBorder l c.border_from-border.result) c.chunks.ensures c.border_from-border.ensures.border in
    let found = rw c.in-Some.is at c.in_ok-chunk.ensures in
    making_next c.args.code.now (answers_of g.C.Fn c.args.callback.now) c.args.former.now.chunks.items c.args.edit.input.now c.args.start c.loop-border.border c.border_from-border.result c.loop-border.chunks.items c.push.new.self.items
    c.in-Some.chunk c.loop-border.rest.now c.length-in-loop-border-2.result c.loop-border.invariant is c.border_from-border.ensures.later c.length-in-loop-border-2.ensures c.in_ok-push.ensures.items found
