use Rattle.std.proofs.Common.{IfOk, ◌≡◌, subst, ap, ◌∙◌}
use Rattle.logos_hir.specs.Hir.{tree_of}
use Rattle.logos_hir.specs.Sets.{Set}
use Rattle.logos_syntax.specs.bracket.Meaning.{set_or_complement}
use Rattle.logos_syntax.specs.Grammar.{one_of}
use Rattle.logos_syntax.proofs.translation.class.Goals as goal

pub returns : goal.returns
returns c =
    subst (λ (s : Set). IfOk c.one_of.result (λ hir. tree_of hir ≡ one_of c.args.flags s)) (c.in_ok-set_or_complement.ensures ∙ ap (set_or_complement c.args.flags c.args.negated) c.in_ok-same_letters.ensures) c.one_of.ensures
