-- The trees of views, made ready.
use Rattle.std.proofs.Common.{◌≡◌, ℕ, zero, suc, ◌+◌, ◌*◌, ◌^◌, ◌<◌, ◌≤◌, Bool, true, false, ◌||◌, List, [], ◌∷◌, ◌++◌, map, length, drop, get_or, drop-cons, add-one, append_assoc, refl, sym, ap, ◌∙◌, subst, true≢false, arith}
use Rattle.std.proofs.lemmas.List.{map-append}
use Rattle.std.proofs.lemmas.List.Sums.{sum_by-cons}
use Rattle.logos_automaton.specs.declared.rule.RuleView.{RuleView}
use Rattle.logos_positions.specs.Core.{Core}
use Rattle.logos_positions.specs.IsCore.{IsCoreOf}
use Rattle.logos_automaton.specs.Munch.{Rule}
use Rattle.logos_positions.specs.Node.{core_of}
use Rattle.logos_automaton.specs.Rules.{AreRuleCores, AreFree, some_look}
use Rattle.logos_positions.specs.Run.{width_of}
use Rattle.logos_positions.specs.Size.{size}
use Rattle.logos_automaton.specs.Measures.{size_of}
use Rattle.logos_automaton.specs.View.{rule_of, rules_of}
use Rattle.logos_positions.specs.declared.node.Node.{Node}

-- one more tree is made ready
pub cores_more : (views : List RuleView) (i : ℕ) (d : RuleView) (nodes : List Node) (node : Node) → i < length views →
    ((cs : List Core) → AreRuleCores (rules_of (drop i views)) cs → AreRuleCores (rules_of views) (map core_of nodes ++ cs)) →
    IsCoreOf (rule_of (get_or views i d)).tree (core_of node) →
    (cs : List Core) → AreRuleCores (rules_of (drop (i + 1) views)) cs → AreRuleCores (rules_of views) (map core_of (nodes ++ node ∷ []) ++ cs)
cores_more views i d nodes node lt before is cs h =
    let e : drop i views ≡ get_or views i d ∷ drop (i + 1) views = drop-cons views i d lt ∙ ap (λ k. get_or views i d ∷ drop k views) (sym (add-one i)) in
    let all = before (core_of node ∷ cs) (subst (λ xs. AreRuleCores (rules_of xs) (core_of node ∷ cs)) (sym e) (is, h)) in
    let same : map core_of (nodes ++ node ∷ []) ++ cs ≡ map core_of nodes ++ (core_of node ∷ cs) =
    ap (λ xs. xs ++ cs) (map-append core_of nodes (node ∷ [])) ∙ append_assoc (map core_of nodes) (core_of node ∷ []) cs in
    subst (AreRuleCores (rules_of views)) (sym same) all

size_of-cons : (rule : Rule) (rules : List Rule) → size_of (rule ∷ rules) ≡ size rule.tree + size_of rules
size_of-cons rule rules = sum_by-cons (λ r. size r.tree) rule rules

-- no tree is larger than all of them
pub tree_size : (views : List RuleView) (i : ℕ) (d : RuleView) → i < length views → size (rule_of (get_or views i d)).tree ≤ size_of (rules_of views)
tree_size [] i d lt = absurd (omega arith)
tree_size (h ∷ views) zero d lt = let e = size_of-cons (rule_of h) (rules_of views) in omega (arith, e)
tree_size (h ∷ views) (suc i) d lt = let k = tree_size views i d (omega arith) in let e = size_of-cons (rule_of h) (rules_of views) in omega (arith, e, k)

-- the positions are not many more than the size
pub rules_width : (rules : List Rule) (ts : List Core) → AreRuleCores rules ts → width_of ts ≤ 2 ^ 16 * size_of rules
rules_width [] [] h = omega arith
rules_width [] (t ∷ ts) h = absurd h
rules_width (rule ∷ rules) [] h = absurd h
rules_width (rule ∷ rules) (t ∷ ts) h = let k = rules_width rules ts h.1 in let s = h.0.small in let e = size_of-cons rule rules in omega (arith, e, k, s)

-- if no tree has a look-around assertion, no pattern has one
pub rules_free : (rules : List Rule) (ts : List Core) → AreRuleCores rules ts → some_look rules ≡ false → AreFree ts
rules_free [] [] h e = tt
rules_free [] (t ∷ ts) h e = absurd h
rules_free (rule ∷ rules) [] h e = absurd h
rules_free (rule ∷ rules) (t ∷ ts) h e = (h.0.free (first_false _ _ e), rules_free rules ts h.1 (rest_false _ _ e))
  where
    first_false : (a b : Bool) → (a || b) ≡ false → a ≡ false
    first_false true b e = absurd (true≢false e)
    first_false false b e = refl

    rest_false : (a b : Bool) → (a || b) ≡ false → b ≡ false
    rest_false true b e = absurd (true≢false e)
    rest_false false b e = e
