-- An automaton that reads one byte late, without ambiguous sets, marks one byte late.
use Rattle.std.proofs.Common.{◌≡◌, ℕ, suc, Bool, true, false, ◌||◌, List, [], ◌∷◌, ◌++◌, map, length, Contains, IsSomeAnd, IsTrue, MatchBool, slice_get, Option, Some, None, option_and_then, refl, sym, ◌∙◌, arith}
use Rattle.logos_hir.specs.Text.{IsBytes}
use Rattle.logos_hir.specs.Passable.{passable}
use Rattle.logos_automaton.specs.Munch.{Rule, RuleMatches}
use Rattle.logos_automaton.specs.Ambiguity.{IsAmbiguous}
use Rattle.logos_automaton.specs.Faults.{no_universal_start, empty_match, disambiguation, some_leads, some_passable, ArePassable, AreAmbiguous, AreFaults, AllStart}
use Rattle.logos_automaton.specs.Automaton.{Automaton, dfa_next, dfa_after, dfa_at_end, Lists, ReadsOneByteLate}
use Rattle.logos_graph.specs.inside.Walk.{MarksOneByteLate, IsLateMark, edges_of_automaton}
use Rattle.logos_graph.proofs.First.{first_marks, none_contained}
use Rattle.logos_reduce.specs.Edges.{Edges, reach}

-- a rule whose tree can be passed
some_rule : (rules : List Rule) → some_passable rules ≡ true → (leaf : ℕ) × IsSomeAnd (slice_get rules leaf) (λ rule. IsTrue (passable rule.tree))
some_rule [] e = absurd (cc)
some_rule (rule ∷ rules) e = go (passable rule.tree) refl e (some_rule rules)
  where
    go : (b : Bool) → passable rule.tree ≡ b → (b || some_passable rules) ≡ true → (some_passable rules ≡ true → (leaf : ℕ) × IsSomeAnd (slice_get rules leaf) (λ rule. IsTrue (passable rule.tree))) →
        (leaf : ℕ) × IsSomeAnd (slice_get (rule ∷ rules) leaf) (λ rule. IsTrue (passable rule.tree))
    go true q e ih = (0, q)
    go false q e ih = let r = ih e in (suc r.0, r.1)

-- where there are no faults, no tree leads or is passable, and no set is ambiguous
pub no_faults : (rules : List Rule) → AreFaults rules [] → AllStart rules × ((set : List ℕ) → IsAmbiguous rules set → ⊥)
no_faults rules h = go (some_leads rules) (some_passable rules) refl refl h
  where
    go : (a b : Bool) → some_leads rules ≡ a → some_passable rules ≡ b →
        MatchBool a ([] ≡ no_universal_start ∷ [])
        (MatchBool b ((leaves : List ℕ) × ArePassable rules leaves × ([] ≡ map empty_match leaves))
        ((sets : List (List ℕ)) × AreAmbiguous rules sets × ([] ≡ map disambiguation sets))) →
        AllStart rules × ((set : List ℕ) → IsAmbiguous rules set → ⊥)
    go true b p q h = absurd (cc)
    go false true p q ([], are, e) = let r = some_rule rules q in absurd (none_contained r.0 ((are.exactly r.0).1 r.1))
    go false true p q (leaf ∷ leaves, are, e) = absurd (cc)
    go false false p q ([], are, e) = ((p, q), λ set a. none_in set ((are.exactly set).1 a))
      where
        none_in : (set : List ℕ) → Contains {X = List ℕ} [] set → ⊥
        none_in set c = let l = c.1 in omega arith
    go false false p q (set ∷ sets, are, e) = absurd (cc)

module _ (rules : List Rule) (dfa : Automaton) where
  abbrev raw : Edges ℕ
  raw = edges_of_automaton rules dfa

  nothing_after : (bytes : List ℕ) → dfa_after dfa None bytes ≡ None
  nothing_after [] = refl
  nothing_after (b ∷ bytes) = nothing_after bytes

  reach_dfa : (bytes : List ℕ) (s : ℕ) → reach raw s bytes ≡ dfa_after dfa (Some s) bytes
  reach_dfa [] s = refl
  reach_dfa (b ∷ bytes) s = go (dfa_next dfa (Some s) b) (reach_dfa bytes)
    where
      go : (o : Option ℕ) → ((s : ℕ) → reach raw s bytes ≡ dfa_after dfa (Some s) bytes) → option_and_then (λ t. reach raw t bytes) o ≡ dfa_after dfa o bytes
      go None ih = sym (nothing_after bytes)
      go (Some t) ih = ih t

  -- the parts of a state that lists leaves
  listed_at : (o : Option ℕ) (P : ℕ → Type 0) → Lists dfa o P → (t : ℕ) × (o ≡ Some t)
  listed_at None P h = absurd (cc (h.listed))
  listed_at (Some t) P h = (t, refl)

  pub late_mark_of : ((set : List ℕ) → IsAmbiguous rules set → ⊥) → (bytes : List ℕ) → IsBytes bytes → (from to t : ℕ) →
      Lists dfa (Some t) (λ leaf. RuleMatches rules leaf bytes from to) → IsLateMark rules (raw.type_of t) bytes from to
  late_mark_of clear bytes ok from to t h = record {
    late = refl;
    first =
        let e : slice_get dfa.matches t ≡ Some h.leaves = h.listed in
        rw e (first_marks rules clear bytes ok from to h.leaves h.ascending h.exactly);
  }

  pub marks_late : ((set : List ℕ) → IsAmbiguous rules set → ⊥) → ReadsOneByteLate rules dfa → MarksOneByteLate rules raw dfa.start
  marks_late clear reads = record { by_byte = by_byte; at_end = at_end }
    where
      by_byte : (bytes : List ℕ) (b : ℕ) → IsBytes (bytes ++ b ∷ []) →
          (t : ℕ) × (reach raw dfa.start (bytes ++ b ∷ []) ≡ Some t) × IsLateMark rules (raw.type_of t) (bytes ++ b ∷ []) 0 (length bytes)
      by_byte bytes b ok =
          let l = reads.by_byte bytes b ok in
          let s = listed_at (dfa_after dfa (Some dfa.start) (bytes ++ b ∷ [])) (λ leaf. RuleMatches rules leaf (bytes ++ b ∷ []) 0 (length bytes)) l in
          (s.0, reach_dfa (bytes ++ b ∷ []) dfa.start ∙ s.1, late_mark_of clear (bytes ++ b ∷ []) ok 0 (length bytes) s.0 (rw s.1 at l))

      at_end : (bytes : List ℕ) → IsBytes bytes →
          (s t : ℕ) × (reach raw dfa.start bytes ≡ Some s) × (raw.at_end s ≡ Some t) × IsLateMark rules (raw.type_of t) bytes 0 (length bytes)
      at_end bytes ok =
          let l = reads.at_end bytes ok in
          let t = listed_at (dfa_at_end dfa bytes) (λ leaf. RuleMatches rules leaf bytes 0 (length bytes)) l in
          go (dfa_after dfa (Some dfa.start) bytes) refl t.0 t.1 (rw t.1 at l)
        where
          go : (o : Option ℕ) → dfa_after dfa (Some dfa.start) bytes ≡ o → (t : ℕ) → option_and_then (slice_get dfa.at_end) (dfa_after dfa (Some dfa.start) bytes) ≡ Some t →
              Lists dfa (Some t) (λ leaf. RuleMatches rules leaf bytes 0 (length bytes)) →
              (s t : ℕ) × (reach raw dfa.start bytes ≡ Some s) × (raw.at_end s ≡ Some t) × IsLateMark rules (raw.type_of t) bytes 0 (length bytes)
          go None q t e l = let n : None ≡ Some t = rw q at e in absurd (cc)
          go (Some s) q t e l = (s, t, reach_dfa bytes dfa.start ∙ q, rw q at e, late_mark_of clear bytes ok 0 (length bytes) t l)
