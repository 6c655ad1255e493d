-- Maximal munch has one result at a position.
use Rattle.std.proofs.Common.{◌≡◌, ℕ, zero, suc, ◌≤◌, ◌<◌, Bool, List, [], ◌∷◌, length, refl, sym, arith}
use Rattle.logos_automaton.specs.Munch.{Rule, RuleMatches, priority_of, IsBest, Found, ended, matched, failed, Finds}
use Rattle.logos_hir.proofs.tree.Bounds.{matches_within}
use native.Mathlib.Decide.{ℕ_discrete}

pub rule_within : (rules : List Rule) (leaf : ℕ) (bytes : List ℕ) (from to : ℕ) → RuleMatches rules leaf bytes from to → from ≤ length bytes → to ≤ length bytes
rule_within [] leaf bytes from to m b = absurd m
rule_within (rule ∷ rules) zero bytes from to m b = (matches_within rule.tree bytes from to m b).1
rule_within (rule ∷ rules) (suc leaf) bytes from to m b = rule_within rules leaf bytes from to m b

module _ (rules : List Rule) (utf8 : Bool) (bytes : List ℕ) (from : ℕ) (inside : from ≤ length bytes) where
  not_both : (leaf to : ℕ) → IsBest rules bytes from to leaf → length bytes ≤ from → ⊥
  not_both leaf to best over = let a = rule_within rules leaf bytes from to best.matches inside in let b = best.nonempty in omega (arith, a, b, over)

  same_end : (leaf other to end : ℕ) → IsBest rules bytes from to leaf → IsBest rules bytes from end other → to ≡ end
  same_end leaf other to end x y = let a = y.longest leaf to x.matches in let b = x.longest other end y.matches in omega (arith, a, b)

  same_leaf : (leaf other to : ℕ) → IsBest rules bytes from to leaf → IsBest rules bytes from to other → leaf ≡ other
  same_leaf leaf other to x y = go (ℕ_discrete leaf other)
    where
      go : Dec (leaf ≡ other) → leaf ≡ other
      go (yes e) = e
      go (no d) =
          let a = y.first leaf d x.matches in
          let b = x.first other (λ e. d (sym e)) y.matches in
          absurd (let c : priority_of rules leaf < priority_of rules leaf = omega (arith, a, b) in omega (arith, c))

  pub finds_one : (f g : Found) → Finds rules utf8 bytes from f → Finds rules utf8 bytes from g → f ≡ g
  finds_one ended ended x y = refl
  finds_one ended (matched leaf to) x y = absurd (not_both leaf to y x)
  finds_one ended (failed to) x y = let a = y.0 in absurd (omega (arith, a, x))
  finds_one (matched leaf to) ended x y = absurd (not_both leaf to x y)
  finds_one (matched leaf to) (matched other end) x y =
      let e = same_end leaf other to end x y in
      let l = same_leaf leaf other to x (rw e y) in
      rw (l, e) refl
  finds_one (matched leaf to) (failed end) x y = absurd (y.1 leaf to x.nonempty x.matches)
  finds_one (failed to) ended x y = let a = x.0 in absurd (omega (arith, a, y))
  finds_one (failed to) (matched leaf end) x y = absurd (x.1 leaf end y.nonempty y.matches)
  finds_one (failed to) (failed end) x y =
      let a = x.2.least end y.2.may_stop in
      let b = y.2.least to x.2.may_stop in
      let e : to ≡ end = omega (arith, a, b) in
      rw e refl
