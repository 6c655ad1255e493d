use Rattle.std.proofs.Common.{◌≡◌, List, [], ◌∷◌, map, length, Vec, Global, refl, sym, ap, ◌∙◌, append-nil, arith}
use Rattle.std.specs.Vec.Iter.{into_iter_items}
use Rattle.logos_hir.specs.declared.leaf.LeafId.{LeafId}
use Rattle.logos_automaton.specs.Errors.{fault_of, numbers}
use Rattle.logos_automaton.specs.Faults.{Fault, disambiguation}
use Rattle.logos_automaton.proofs.faults.disambiguations.Goals as goal

nothing_left : {X : Type 0} (l : List X) → length l ≡ 0 → l ≡ []
nothing_left [] h = refl
nothing_left (x ∷ xs) h = absurd (omega (arith, h))

two_maps : (sets : List (Vec LeafId Global)) → map (λ set. disambiguation (numbers set.items)) sets ≡ map disambiguation (map (λ set. numbers set.items) sets)
two_maps [] = refl
two_maps (set ∷ sets) = ap (λ (faults : List Fault). disambiguation (numbers set.items) ∷ faults) (two_maps sets)

pub returns : goal.returns
returns c =
    let at = c.loop-set in
    let empty : into_iter_items at.set-iterator ≡ [] = nothing_left _ (sym at.invariant.1 ∙ c.in-None.ensures.steps.0) in
    sym (append-nil (map fault_of at.errors.items)) ∙ rw empty at at.invariant.0
    ∙ ap (map (λ (set : Vec LeafId Global). disambiguation (numbers set.items))) c.into_iter-set-iterator.ensures.into_iter_gives.0 ∙ two_maps c.args.sets.items
