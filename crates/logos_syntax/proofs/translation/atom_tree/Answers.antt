use Rattle.std.proofs.Common.{IfOk, ◌≡◌, subst, sym}
use Rattle.logos_pattern_tokens.specs.declared.token.Atom.{Atom}
use Rattle.logos_hir.specs.Hir.{tree_of}
use Rattle.logos_hir.specs.Sets.{Set}
use Rattle.logos_syntax.specs.bracket.Meaning.{set_or_complement, case_closure}
use Rattle.logos_syntax.specs.Grammar.{one_of, atom_tree}
use Rattle.logos_syntax.proofs.translation.atom_tree.Goals as goal

pub returns-in_ok-perl_set-in-Perl : goal.returns-in_ok-perl_set-in-Perl
returns-in_ok-perl_set-in-Perl c =
    subst (λ (a : Atom). IfOk c.class.result (λ hir. tree_of hir ≡ atom_tree c.args.flags a)) (sym c.in-Perl.is)
    (subst (λ (s : Set). IfOk c.class.result (λ hir. tree_of hir ≡ one_of c.args.flags (set_or_complement c.args.flags c.in-Perl.negated (case_closure c.args.flags s)))) c.in_ok-perl_set-in-Perl.ensures c.class.ensures)

pub returns-in_ok-property_set-in-Property : goal.returns-in_ok-property_set-in-Property
returns-in_ok-property_set-in-Property c =
    subst (λ (a : Atom). IfOk c.class-in-Property.result (λ hir. tree_of hir ≡ atom_tree c.args.flags a)) (sym c.in-Property.is)
    (subst (λ (s : Set). IfOk c.class-in-Property.result (λ hir. tree_of hir ≡ one_of c.args.flags (set_or_complement c.args.flags c.in-Property.negated (case_closure c.args.flags s)))) c.in_ok-property_set-in-Property.ensures c.class-in-Property.ensures)
