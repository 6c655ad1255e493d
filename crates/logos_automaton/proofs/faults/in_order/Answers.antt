use Rattle.std.proofs.Common.{◌≡◌, ℕ, List, map, Vec, Global, sym, ◌∙◌, subst, append-nil}
use Rattle.logos_hir.specs.declared.leaf.LeafId.{LeafId}
use Rattle.logos_automaton.specs.Errors.{numbers}
use Rattle.logos_automaton.specs.Faults.{Ascends}
use Rattle.logos_automaton.proofs.ambiguity.SetOrder.{ascends_by}
use Rattle.logos_automaton.proofs.faults.in_order.Goals as goal

abbrev items_of : Vec ℕ Global → List ℕ
items_of v = v.items

abbrev numbers_of : Vec LeafId Global → List ℕ
numbers_of v = numbers v.items

pub returns-clause-ascends : goal.returns-clause-ascends
returns-clause-ascends c =
    let h = c.in-None.ensures.steps in
    let g = c.into_iter-set-iterator.ensures.into_iter_gives in
    let same : map numbers_of c.loop-set.named.items ≡ map items_of c.args.sets.now.keys =
    sym (append-nil (map numbers_of c.loop-set.named.items)) ∙ rw h.0 at c.loop-set.invariant in
    subst Ascends (sym same) (ascends_by items_of c.args.sets.now.keys g.4)
