use Rattle.std.proofs.Common.{◌≡◌, ◌∙◌, refl, true}
use Rattle.logos_leaf.proofs.subpattern.SubstitutionLemmas.{reference_is}
use Rattle.logos_leaf.proofs.subpattern.substitution.reference_at.Goals as goal

pub returns : goal.returns
returns c = reference_is _ _ _ _ _ c.in_ok-rest.ensures c.word_in.ensures.front c.word_in.ensures.rest c.in-Some.ensures
    (λ e. let empty : c.is_empty.result ≡ true = c.is_empty.ensures ∙ rw e refl in let full = c.if-is_empty.false in cc)
