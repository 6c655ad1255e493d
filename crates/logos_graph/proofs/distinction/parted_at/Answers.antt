use Rattle.std.proofs.Common.{◌≡◌, slice_index, refl, ap, sym, ◌∙◌, arith}
use Rattle.std.proofs.lemmas.Grind.{common_steps}
use Rattle.std.proofs.lemmas.List.{get_or_default}
use Rattle.logos_reduce.specs.Merge.{split_at}
use Rattle.logos_reduce.specs.declared.merge.blocks.Split.{Split}
use Rattle.logos_reduce.proofs.words.EvidenceLemmas.{placed_last, parted_here, climbed, renamed}
use Rattle.logos_graph.proofs.distinction.parted_at.Goals as goal

pub loop-low-init : goal.loop-low-init
loop-low-init c =
    let r = c.args.reduced.now in
    let a : c.index.result.now ≡ slice_index r.blocks.items c.args.s = grind (arith, common_steps) in
    let b : c.index-2.result.now ≡ slice_index r.blocks.items c.args.t = grind (arith, common_steps) in
    placed_last r c.requires.evidence c.args.s c.args.t _ _ c.requires.s_in c.requires.t_in c.ordered-low.ensures.order (renamed _ _ _ _ _ _ a b c.ordered-low.ensures.same)

pub returns-then-parent-low : goal.returns-then-parent-low
returns-then-parent-low c =
    let r = c.args.reduced.now in
    let here : c.index-in-loop-low.result.now ≡ split_at r.splits.items c.loop-low.high =
    c.index-in-loop-low.ensures ∙ get_or_default r.splits.items c.loop-low.high _ _ (c.loop-low.invariant c.requires.evidence.history).inside in
    parted_here r c.args.s c.args.t c.loop-low.low c.loop-low.high c.requires.s_in c.requires.t_in c.requires.evidence.history c.loop-low.invariant (ap (λ (x : Split). x.parent) (sym here) ∙ c.if-parent-low.true)

pub loop-low-preserved : goal.loop-low-preserved
loop-low-preserved c = λ h.
    let r = c.args.reduced.now in
    let here : c.index-in-loop-low.result.now ≡ split_at r.splits.items c.loop-low.high =
    c.index-in-loop-low.ensures ∙ get_or_default r.splits.items c.loop-low.high _ _ (c.loop-low.invariant h).inside in
    climbed r h c.args.s c.args.t c.loop-low.low c.loop-low.high _ _ c.requires.s_in c.requires.t_in (c.loop-low.invariant h) c.ordered.ensures.order
    (renamed _ _ _ _ _ _ (ap (λ (x : Split). x.parent) here) refl c.ordered.ensures.same)
