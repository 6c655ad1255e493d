-- Where a leaf loses another one wins, and the lines of leaves follow one another.
use Rattle.std.proofs.Common.{◌≡◌, ◌<◌, ◌≤◌, ◌+◌, ◌-◌, ℕ, suc, Bool, List, [], ◌++◌, Contains, sym, refl, subst, arith}
use Rattle.logos_automaton.specs.Faults.{AllStart, AreFaults}
use Rattle.logos_automaton.specs.Munch.{Rule, priority_of}
use Rattle.logos_evidence.specs.declared.matches.Match.{Match}
use Rattle.logos_evidence.specs.Losses.{IsLoss}
use Rattle.logos_evidence.specs.Matching.{AreMatches}
use Rattle.logos_graph.proofs.Automaton.{no_faults}
use Rattle.logos_graph.specs.GraphOf.{IsGraphOf}
use Rattle.logos_graph.specs.View.{GraphValue, rules_of}
use Rattle.logos_hir.specs.Text.{IsBytes}
use Rattle.logos_pattern.specs.declared.leaf.Leaf.{Leaf}
use Rattle.logos_page.specs.Pages.{PageValue}
use Rattle.logos_page.proofs.PageLemmas.{gains_nothing, gains_then}
use Rattle.logos_answers.specs.Examples.{AreExampleLines, ShowsExample, ShowsExamples}

none_in : (m : Match) → Contains {X = Match} [] m → ⊥
none_in m c = let l = c.1 in omega arith

-- on an input on which a leaf loses some leaf matches
pub some_match : (rules : List Rule) (utf8 : Bool) (leaf : ℕ) (input : List ℕ) (matches : List Match) → AreMatches rules input 0 matches → IsLoss rules utf8 leaf input → matches ≡ [] → ⊥
some_match rules utf8 leaf input matches are loss none =
    let m : Match = record { leaf = leaf; end = loss.end; priority = priority_of rules leaf } in
    let there : Contains matches m = (are.exactly m).1 (record { matches = loss.matches; priority = refl }) in
    none_in m (subst (λ (ms : List Match). Contains ms m) none there)

-- the matches from the beginning of an input, by another name of it
pub matches_of : (rules : List Rule) (given input : List ℕ) (matches : List Match) → given ≡ input → (IsBytes given → AreMatches rules given 0 matches) → IsBytes input → AreMatches rules input 0 matches
matches_of rules given input matches e are = subst (λ bytes. IsBytes bytes → AreMatches rules bytes 0 matches) e are

-- all leaves of a graph without faults start
pub all_start : (graph : GraphValue) → IsGraphOf graph.leaves graph.utf8 graph → graph.faults ≡ [] → AllStart (rules_of graph.leaves)
all_start graph of_leaves faultless = (no_faults (rules_of graph.leaves) (subst (AreFaults (rules_of graph.leaves)) faultless of_leaves.faults_are)).0

module _ (leaves : List Leaf) (utf8 : Bool) where
  -- the line of a leaf, and those of the rest
  pub next_example : (leaf count : ℕ) {old middle new : PageValue} → leaf < count → ShowsExample leaves utf8 leaf old middle → ShowsExamples leaves utf8 (leaf + 1) (count - (leaf + 1)) middle new → ShowsExamples leaves utf8 leaf (count - leaf) old new
  next_example leaf count {old} {middle} {new} l one rest =
      let left : count - leaf ≡ suc (count - (leaf + 1)) = omega (arith, l) in
      let later : leaf + 1 ≡ suc leaf = omega arith in
      subst (λ n. ShowsExamples leaves utf8 leaf n old new) (sym left)
      (one.0 ++ rest.0, (one.0, rest.0, one.1, subst (λ k. AreExampleLines leaves utf8 k (count - (leaf + 1)) rest.0) later rest.1, refl), gains_then one.2 rest.2)

  -- no leaf is left
  pub no_example : (leaf count : ℕ) (page : PageValue) → count ≤ leaf → ShowsExamples leaves utf8 leaf (count - leaf) page page
  no_example leaf count page l =
      let none : count - leaf ≡ 0 = omega (arith, l) in
      subst (λ n. ShowsExamples leaves utf8 leaf n page page) (sym none) ([], refl, gains_nothing page)
