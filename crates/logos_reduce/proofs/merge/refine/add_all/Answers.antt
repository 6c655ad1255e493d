use Rattle.std.proofs.Common.{ℕ, arith, sym, ◌∙◌, ap, List}
use Rattle.logos_reduce.specs.Lists.{has}
use Rattle.logos_reduce.proofs.listings.ListLemmas.{has_in-get, has-append_right}
use Rattle.logos_reduce.proofs.merge.refine.add_all.Goals as goal

pub returns-clause-added : goal.returns-clause-added
returns-clause-added c = λ s h.
    let e = has_in-get c.args.lists.now.items c.args.t c.index.result.now s (omega arith) c.index.ensures in
    ap (λ (l : List ℕ). has l s) c.in_ok-extend_from_slice.ensures.items ∙ has-append_right c.args.sources.now.items c.deref.result.now s (ap (λ (l : List ℕ). has l s) c.deref.ensures.value ∙ sym e ∙ h)
