use Rattle.std.proofs.Common.{arith, sym, ◌∙◌, ap}
use Rattle.logos_reduce.specs.Lists.{has}
use Rattle.logos_reduce.proofs.listings.ListLemmas.{has_index}
use Rattle.logos_reduce.proofs.merge.refine.without_repeats.Goals as goal

pub returns : goal.returns
returns c = λ s h.
    let p = has_index c.args.list.now.items s h in
    ap (has c.loop-s.once.items) (sym p.2) ∙ c.loop-s.invariant p.0 (let l = p.1 in omega arith)
