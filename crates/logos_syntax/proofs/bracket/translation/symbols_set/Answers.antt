use Rattle.std.proofs.Common.{IfOk, [], ◌∷◌, ◌≡◌, ap, subst, ◌∙◌}
use Rattle.logos_hir.specs.Sets.{Set, members}
use Rattle.logos_hir.specs.RangeSets.{set_of}
use Rattle.logos_pattern_tokens.specs.bracket.Spelling.{code_of}
use Rattle.logos_hir.proofs.lemmas.SetLemmas.{one_range}
use Rattle.logos_syntax.proofs.bracket.translation.symbols_set.Goals as goal

pub returns : goal.returns
returns c =
    subst (λ (s : Set). IfOk c.range_set.result (λ set. set_of set ≡ s))
    (ap (λ k. members ((k, c.code_of-2.result) ∷ [])) c.code_of.ensures ∙ ap (λ k. members ((code_of c.args.first, k) ∷ [])) c.code_of-2.ensures ∙ one_range (code_of c.args.first) (code_of c.args.last)) c.range_set.ensures
