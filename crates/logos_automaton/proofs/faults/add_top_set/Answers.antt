use Rattle.std.proofs.Common.{◌≡◌, ◌↔◌, ◌⊎◌, inl, inr, ℕ, ◌<◌, ◌≤◌, List, map, length, Contains, Vec, Global, sym, ◌∙◌, subst, arith}
use Rattle.std.proofs.lemmas.Result.{on_ok_weaker}
use Rattle.logos_automaton.specs.inside.TopSets.{top_of, IsTopSet}
use Rattle.logos_automaton.specs.Munch.{Rule}
use Rattle.logos_automaton.specs.View.{rules_of}
use Rattle.logos_automaton.proofs.ambiguity.TopLemmas.{few_top}
use Rattle.logos_automaton.proofs.faults.add_top_set.Goals as goal

-- no set is added
none_added : (old : List (List ℕ)) (rules : List Rule) (listed : List ℕ) → length (top_of rules listed) < 2 → (set : List ℕ) → Contains old set ↔ (Contains old set ⊎ IsTopSet rules listed set)
none_added old rules listed few set = (λ c. inl c, back)
  where
    back : Contains old set ⊎ IsTopSet rules listed set → Contains old set
    back (inl c) = c
    back (inr t) = let l = subst (λ (xs : List ℕ). 2 ≤ length xs) t.top t.several in absurd (omega (arith, l, few))

-- the set is added
one_added : (old new : List (List ℕ)) (rules : List Rule) (listed top : List ℕ) → top ≡ top_of rules listed → 2 ≤ length top →
    ((set : List ℕ) → Contains new set ↔ (Contains old set ⊎ (set ≡ top))) → (set : List ℕ) → Contains new set ↔ (Contains old set ⊎ IsTopSet rules listed set)
one_added old new rules listed top is several all set = (λ c. there ((all set).0 c), λ c. (all set).1 (back c))
  where
    there : Contains old set ⊎ (set ≡ top) → Contains old set ⊎ IsTopSet rules listed set
    there (inl c) = inl c
    there (inr e) = inr (record { several = subst (λ (xs : List ℕ). 2 ≤ length xs) (sym e) several; top = e ∙ is })

    back : Contains old set ⊎ IsTopSet rules listed set → Contains old set ⊎ (set ≡ top)
    back (inl c) = inl c
    back (inr t) = inr (t.top ∙ sym is)

pub returns-then-listed-lt2 : goal.returns-then-listed-lt2
returns-then-listed-lt2 c = none_added _ (rules_of c.args.rules.now) c.args.listed.now
    (let l = few_top (rules_of c.args.rules.now) c.args.listed.now in omega (arith, l, c.if-listed-lt2.true))

abbrev items_of : Vec ℕ Global → List ℕ
items_of v = v.items

pub returns : goal.returns
returns c =
    let rules = rules_of c.args.rules.now in
    let old : List (List ℕ) = map items_of c.args.sets.now.keys in
    let new : List (List ℕ) = map items_of c.add_set.new.sets.keys in
    let top : c.in_ok-top.top.items ≡ top_of rules c.args.listed.now = rw c.highest.ensures at c.in_ok-top.ensures in
    let several : 2 ≤ length c.in_ok-top.top.items = omega arith in
    on_ok_weaker c.add_set.result
    (λ (all : (set : List ℕ) → Contains new set ↔ (Contains old set ⊎ (set ≡ c.in_ok-top.top.items))). one_added old new rules c.args.listed.now c.in_ok-top.top.items top several all)
    c.add_set.ensures
