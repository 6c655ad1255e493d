use Rattle.std.proofs.Common.{◌↔◌, ℕ, List, map, Contains, Vec, Global, Result, Ok, Err, IfOk, subst, sym}
use Rattle.logos_hir.specs.declared.leaf.LeafId.{LeafId}
use Rattle.logos_automaton.specs.DfaView.{dfa_of}
use Rattle.logos_automaton.specs.Errors.{numbers}
use Rattle.logos_automaton.specs.inside.TopSets.{IsTopIn}
use Rattle.logos_automaton.specs.View.{rules_of}
use Rattle.logos_automaton.proofs.ambiguity.TopLemmas.{are_ambiguous}
use Rattle.logos_automaton.proofs.faults.ambiguous_sets.Goals as goal

both : {X Y : Type 0} {P Q R : X → Type 0} (r : Result X Y) → ((x : X) → P x → Q x → R x) → IfOk r P → IfOk r Q → IfOk r R
both (Ok x) f p q = f x p q
both (Err y) f p q = tt

abbrev numbers_of : Vec LeafId Global → List ℕ
numbers_of v = numbers v.items

pub returns : goal.returns
returns c = both c.in_order.result
    (λ sets ascends same reads start.
    are_ambiguous (rules_of c.args.rules.now) (dfa_of c.args.dfa.now) reads c.requires.total start (map numbers_of sets.items) ascends
    (λ set. subst (λ (all : List (List ℕ)). Contains all set ↔ IsTopIn (rules_of c.args.rules.now) (dfa_of c.args.dfa.now).matches set) (sym same) (c.in_ok-sets.ensures set)))
    c.in_order.ensures.ascends c.in_order.ensures.same
