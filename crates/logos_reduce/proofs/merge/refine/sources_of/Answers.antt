use Rattle.std.proofs.Common.{eqb, sym, ◌∙◌}
use Rattle.std.proofs.lemmas.List.Sorted.{list_any-IsPermutation}
use Rattle.logos_reduce.proofs.merge.refine.sources_of.Goals as goal

pub returns : goal.returns
returns c = λ t s l e h.
    c.in_ok-once.ensures s (sym (list_any-IsPermutation (λ x. eqb s x) c.in_ok-all.all.items c.sort_unstable.new.self.items c.sort_unstable.ensures.permutation) ∙ c.in_ok-all.ensures t s l e h)
