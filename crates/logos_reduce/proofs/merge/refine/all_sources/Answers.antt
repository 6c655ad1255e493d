use Rattle.std.proofs.Common.{◌≡◌, ℕ, arith, sym, ◌∙◌, ap, List, slice_index}
use Rattle.logos_reduce.specs.Lists.{has_in}
use Rattle.logos_reduce.proofs.listings.ListLemmas.{has_in-get, has_index}
use Rattle.logos_reduce.proofs.merge.refine.all_sources.Goals as goal

pub returns : goal.returns
returns c = λ t s l e h.
    let w = c.args.parts.now in
    let filed = ap (λ (b : ℕ). has_in w.filing.lists.items b t) (sym e) ∙ w.filed t l in
    let at = sym (has_in-get w.filing.lists.items c.args.b c.index.result.now t (omega arith) c.index.ensures) ∙ filed in
    let p = has_index c.index.result.now.items t at in
    let same : slice_index c.deref-t-items.result.now p.0 ≡ t = ap (λ (l : List ℕ). slice_index l p.0) c.deref-t-items.ensures.value ∙ p.2 in
    c.loop-t.invariant p.0 s (omega (arith, p.1)) (omega (arith, same, l)) (ap (slice_index w.filing.blocks.items) same ∙ e) (ap (λ (u : ℕ). has_in c.args.from.now.items u s) same ∙ h)
