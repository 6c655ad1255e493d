-- The machine that follows two graphs finds where two lexers differ.
use Rattle.std.proofs.Common.{◌≡◌, ℕ, suc, ◌+◌, ◌<◌, ◌⊎◌, ◌==◌, Bool, true, false, not, ◌&&◌, List, [], drop, length, Option, None, Some, slice_get, slice_index, refl, sym, ap, ◌∙◌, subst, inl, inr, arith, eq-eqb}
use Rattle.std.proofs.lemmas.Bool.{and_parts}
use Rattle.std.proofs.lemmas.Bool.Decides.{nat_tests}
use Rattle.std.proofs.lemmas.Option.{same_Some}
use Rattle.logos_automaton.specs.Munch.{Rule, IsInput, Found, ended, matched, failed}
use Rattle.logos_graph.specs.FinishedGraph.{IsFinished}
use Rattle.logos_graph.specs.Found.{FindsTheLongest, GraphFinds, IsUnmarked}
use Rattle.logos_graph.specs.Graph.{GraphState}
use Rattle.logos_graph.specs.GraphOf.{IsGraphOf}
use Rattle.logos_graph.specs.View.{GraphValue, rules_of}
use Rattle.logos_evidence.specs.search.Machines.{Leads}
use Rattle.logos_evidence.specs.search.Shortest.{NoneLeads, IsShortest}
use Rattle.logos_evidence.specs.Comparing.{Agree, FindTheSame, IsDifference, IsShortestDifference}
use Rattle.logos_evidence.specs.declared.search.point.Point.{Point}
use Rattle.logos_evidence.specs.inside.Lasts.{last_from}
use Rattle.logos_evidence.specs.inside.Machines.{is_cut, same_option, point_from, first_point, pair_next, pair_goal}
use Rattle.logos_evidence.proofs.AliveLemmas.{alive, together, parting}
use Rattle.logos_evidence.proofs.ErrorLemmas.{errors_agree, ends_apart, error_ends}
use Rattle.logos_evidence.proofs.FoundLemmas.{last_found, found_last, no_mark}
use Rattle.logos_evidence.proofs.InputLemmas.{input_on}
use Rattle.logos_evidence.proofs.VerdictLemmas.{verdict, errors_part, goes}

is_same : (a b : Option ℕ) → same_option a b ≡ true → a ≡ b
is_same None None e = refl
is_same None (Some y) e = cc
is_same (Some x) None e = cc
is_same (Some x) (Some y) e = let same : x ≡ y = grind (arith, nat_tests) in ap Some same

same_is : (a b : Option ℕ) → a ≡ b → same_option a b ≡ true
same_is None None e = refl
same_is None (Some y) e = cc
same_is (Some x) None e = cc
same_is (Some x) (Some y) e = eq-eqb x y (same_Some _ _ e)

not_false : (a : Bool) → not a ≡ false → a ≡ true
not_false true e = refl
not_false false e = cc

both_true : (a b : Bool) → a ≡ true → b ≡ true → (a && b) ≡ true
both_true true b p q = q
both_true false b p q = cc

is_equal : (m n : ℕ) → (m == n) ≡ true → m ≡ n
is_equal m n e = grind (arith, nat_tests)

-- an error of a graph without a mark
module _ (g : List GraphState) (leaves : ℕ) (finished : IsFinished g leaves) (utf8 : Bool) (bytes : List ℕ) (from : ℕ) where
  unmarked_none : (to : ℕ) → IsUnmarked g utf8 bytes from to → last_from g 0 0 (drop from bytes) ≡ None
  unmarked_none to u = go (last_from g 0 0 (drop from bytes)) refl
    where
      go : (o : Option (ℕ × ℕ)) → last_from g 0 0 (drop from bytes) ≡ o → o ≡ None
      go None e = refl
      go (Some x) e =
          let m = (last_found g leaves finished utf8 bytes from x.0 x.1 e).1 in
          absurd (let clash : None ≡ Some (x.0, m.size) = sym (u.unmarked m.at m.in_rest) ∙ m.mark in cc)

  pub fails : last_from g 0 0 (drop from bytes) ≡ None → from < length bytes → (to : ℕ) × GraphFinds g utf8 bytes from (failed to)
  fails e l =
      let m = error_ends g utf8 bytes from l in
      (m.0, record { starts = l; unmarked = no_mark g leaves finished utf8 bytes from e; covers = m.1; least = m.2 })

module _ (one other : List GraphState) (leaves twins : ℕ) (one_finished : IsFinished one leaves) (other_finished : IsFinished other twins)
    (names others : List ℕ) (utf8 : Bool) where
  abbrev reported : Option (ℕ × ℕ) → Option (ℕ × ℕ) → List ℕ → Bool
  reported o p w = verdict one other names others utf8 o p false false (errors_part one other names others utf8 0 0 false w)

  abbrev differs : List ℕ → Bool
  differs w = reported (last_from one 0 0 w) (last_from other 0 0 w) w

  leads_differ : (w : List ℕ) → Leads (pair_next one other names others utf8) (pair_goal one other names others utf8) utf8 first_point w → differs w ≡ true
  leads_differ w leads =
      let run = goes one other names others utf8 w first_point 0 in
      let end : run.0 ≡ leads.end = same_Some _ _ (sym run.1 ∙ leads.way) in
      sym run.2 ∙ ap (pair_goal one other names others utf8) end ∙ leads.goal

  differ_leads : (w : List ℕ) → IsInput utf8 w → differs w ≡ true → Leads (pair_next one other names others utf8) (pair_goal one other names others utf8) utf8 first_point w
  differ_leads w input e =
      let run = goes one other names others utf8 w first_point 0 in
      record { input = input; end = run.0; way = run.1; goal = run.2 ∙ e }

  -- ---- If the machine detects no difference, equal results are found

  module _ (bytes : List ℕ) (from : ℕ) (same : differs (drop from bytes) ≡ false) where
    abbrev rest : List ℕ
    rest = drop from bytes

    reported_same : (o p : Option (ℕ × ℕ)) → last_from one 0 0 rest ≡ o → last_from other 0 0 rest ≡ p → reported o p rest ≡ false
    reported_same o p e f = ap (λ (x : Option (ℕ × ℕ)). reported x p rest) (sym e) ∙ ap (λ (y : Option (ℕ × ℕ)). reported (last_from one 0 0 rest) y rest) (sym f) ∙ same

    agree : (f g : Found) → GraphFinds one utf8 bytes from f → GraphFinds other utf8 bytes from g → Agree names f others g
    agree ended ended x y = tt
    agree ended (matched k end) x y = let l = y.0 in absurd (omega (arith, l, x))
    agree ended (failed end) x y = let l = y.starts in absurd (omega (arith, l, x))
    agree (matched leaf to) ended x y = let l = x.0 in absurd (omega (arith, l, y))
    agree (matched leaf to) (matched k end) x y =
        let a = found_last one leaves one_finished utf8 bytes from leaf to x in
        let b = found_last other twins other_finished utf8 bytes from k end y in
        let t = and_parts _ _ (not_false _ (reported_same _ _ a.2 b.2)) in
        (is_same (slice_get names leaf) (slice_get others k) t.0, a.1 ∙ ap (λ n. from + n) (is_equal a.0 b.0 t.1) ∙ sym b.1)
    agree (matched leaf to) (failed end) x y =
        let a = found_last one leaves one_finished utf8 bytes from leaf to x in
        absurd (let clash : true ≡ false = reported_same _ _ a.2 (unmarked_none other twins other_finished utf8 bytes from end y) in cc)
    agree (failed to) ended x y = let l = x.starts in absurd (omega (arith, l, y))
    agree (failed to) (matched k end) x y =
        let b = found_last other twins other_finished utf8 bytes from k end y in
        absurd (let clash : true ≡ false = reported_same _ _ (unmarked_none one leaves one_finished utf8 bytes from to x) b.2 in cc)
    agree (failed to) (failed end) x y =
        let none : errors_part one other names others utf8 0 0 false rest ≡ false =
        reported_same _ _ (unmarked_none one leaves one_finished utf8 bytes from to x) (unmarked_none other twins other_finished utf8 bytes from end y) in
        errors_agree utf8 bytes from one other (λ at l p cut. together one other names others utf8 rest 0 0 false none at l (inr p) cut) to end x y

  -- ---- If it detects one, different results are found

  module _ (rules other_rules : List Rule) (finds : FindsTheLongest rules utf8 one) (other_finds : FindsTheLongest other_rules utf8 other) where
    differences : (bytes : List ℕ) → IsInput utf8 bytes → differs bytes ≡ true → IsDifference rules names other_rules others utf8 bytes
    differences bytes input e = go (last_from one 0 0 bytes) (last_from other 0 0 bytes) refl refl e
      where
        made : (f g : Found) → GraphFinds one utf8 bytes 0 f → GraphFinds other utf8 bytes 0 g → ¬ Agree names f others g → IsDifference rules names other_rules others utf8 bytes
        made f g x y h = record {
          input = input;
          one = f;
          found = (finds bytes 0 f input).0 x;
          other = g;
          other_found = (other_finds bytes 0 g input).0 y;
          differ = h;
        }

        two : (x y : ℕ × ℕ) → reported (Some x) (Some y) bytes ≡ true → ¬ Agree names (matched x.0 (0 + x.1)) others (matched y.0 (0 + y.1))
        two x y t a =
            let size : x.1 ≡ y.1 = let h = a.1 in omega (arith, h) in
            let both = both_true _ _ (same_is (slice_get names x.0) (slice_get others y.0) a.0) (eq-eqb x.1 y.1 size) in
            let clash : true ≡ false = sym t ∙ ap not both in
            cc

        errors : last_from one 0 0 bytes ≡ None → last_from other 0 0 bytes ≡ None → errors_part one other names others utf8 0 0 false bytes ≡ true → IsDifference rules names other_rules others utf8 bytes
        errors a b t =
            let p = parting one other names others utf8 bytes 0 0 false t in
            let l = p.inside in
            let x = fails one leaves one_finished utf8 bytes 0 a (omega arith) in
            let y = fails other twins other_finished utf8 bytes 0 b (omega arith) in
            made (failed x.0) (failed y.0) x.1 y.1 (part x.0 y.0 x.1 y.1 p.at p.inside p.later_on p.cut p.apart)
          where
            positive : (at : ℕ) → (false ≡ true) ⊎ (0 < at) → 0 < at
            positive at (inl c) = cc
            positive at (inr l) = l

            part : (to end : ℕ) → IsUnmarked one utf8 bytes 0 to → IsUnmarked other utf8 bytes 0 end → (at : ℕ) → at < length bytes → (false ≡ true) ⊎ (0 < at) → is_cut utf8 (slice_index bytes at) ≡ true →
                ((alive one 0 bytes (suc at) ≡ true) × (alive other 0 bytes (suc at) ≡ false)) ⊎ ((alive one 0 bytes (suc at) ≡ false) × (alive other 0 bytes (suc at) ≡ true)) → ¬ (to ≡ end)
            part to end x y at l p cut (inl h) same = let m = ends_apart utf8 bytes 0 one other at (positive at p) l cut h.0 h.1 to end x y in omega (arith, m, same)
            part to end x y at l p cut (inr h) same = let m = ends_apart utf8 bytes 0 other one at (positive at p) l cut h.1 h.0 end to y x in omega (arith, m, same)

        go : (o p : Option (ℕ × ℕ)) → last_from one 0 0 bytes ≡ o → last_from other 0 0 bytes ≡ p → reported o p bytes ≡ true → IsDifference rules names other_rules others utf8 bytes
        go None None a b t = errors a b t
        go None (Some y) a b t =
            let found = last_found other twins other_finished utf8 bytes 0 y.0 y.1 b in
            let x = fails one leaves one_finished utf8 bytes 0 a found.0 in
            made (failed x.0) (matched y.0 (0 + y.1)) x.1 found (λ h. h)
        go (Some x) None a b t =
            let found = last_found one leaves one_finished utf8 bytes 0 x.0 x.1 a in
            let y = fails other twins other_finished utf8 bytes 0 b found.0 in
            made (matched x.0 (0 + x.1)) (failed y.0) found y.1 (λ h. h)
        go (Some x) (Some y) a b t =
            made (matched x.0 (0 + x.1)) (matched y.0 (0 + y.1)) (last_found one leaves one_finished utf8 bytes 0 x.0 x.1 a) (last_found other twins other_finished utf8 bytes 0 y.0 y.1 b) (two x y t)

    -- ---- The answers

    pub find_the_same : NoneLeads (pair_next one other names others utf8) (pair_goal one other names others utf8) utf8 first_point → FindTheSame rules names other_rules others utf8
    find_the_same none bytes from f g input at x y = go (differs (drop from bytes)) refl
      where
        go : (b : Bool) → differs (drop from bytes) ≡ b → Agree names f others g
        go true e = absurd (none (drop from bytes) (differ_leads (drop from bytes) (input_on utf8 bytes from input at) e))
        go false e = agree bytes from e f g ((finds bytes from f input).1 x) ((other_finds bytes from g input).1 y)

    difference_leads : (bytes : List ℕ) → IsDifference rules names other_rules others utf8 bytes → differs bytes ≡ true
    difference_leads bytes d = go (differs bytes) refl
      where
        go : (b : Bool) → differs bytes ≡ b → b ≡ true
        go true e = refl
        go false e = absurd (d.differ (agree bytes 0 e d.one d.other ((finds bytes 0 d.one d.input).1 d.found) ((other_finds bytes 0 d.other d.input).1 d.other_found)))

    pub shortest_difference : (bytes : List ℕ) → IsShortest (pair_next one other names others utf8) (pair_goal one other names others utf8) utf8 first_point bytes →
        IsShortestDifference rules names other_rules others utf8 bytes
    shortest_difference bytes shortest = record {
      difference = differences bytes shortest.leads.input (leads_differ bytes shortest.leads);
      least = λ another d. shortest.least another (differ_leads another d.input (difference_leads another d));
    }

-- the answers of the search as those of the call
module _ (g h : GraphValue) (one other : List GraphState) (names others : List ℕ) (utf8 : Bool) (start : Point) (a : one ≡ g.states) (b : other ≡ h.states) (c : utf8 ≡ g.utf8)
    (d : start ≡ point_from 0) (mode : g.utf8 ≡ h.utf8) (of_one : IsGraphOf g.leaves g.utf8 g) (of_other : IsGraphOf h.leaves h.utf8 h) (faultless : g.faults ≡ []) (faultless_too : h.faults ≡ [])
    (one_finished : IsFinished g.states (length g.leaves)) (other_finished : IsFinished h.states (length h.leaves)) where
  other_finds : FindsTheLongest (rules_of h.leaves) g.utf8 h.states
  other_finds = subst (λ (m : Bool). FindsTheLongest (rules_of h.leaves) m h.states) (sym mode) (of_other.finds faultless_too)

  moved_to : (P : List GraphState → List GraphState → Bool → Point → Type 0) → P one other utf8 start → P g.states h.states g.utf8 (point_from 0)
  moved_to P x =
      subst (λ (p : Point). P g.states h.states g.utf8 p) d (subst (λ (m : Bool). P g.states h.states m start) c
      (subst (λ (s : List GraphState). P g.states s utf8 start) b (subst (λ (s : List GraphState). P s other utf8 start) a x)))

  pub same_is_answer : NoneLeads (pair_next one other names others utf8) (pair_goal one other names others utf8) utf8 start →
      FindTheSame (rules_of g.leaves) names (rules_of h.leaves) others g.utf8
  same_is_answer none =
      find_the_same g.states h.states (length g.leaves) (length h.leaves) one_finished other_finished names others g.utf8 (rules_of g.leaves) (rules_of h.leaves) (of_one.finds faultless) other_finds
      (moved_to (λ s t m p. NoneLeads (pair_next s t names others m) (pair_goal s t names others m) m p) none)

  pub difference_is_answer : (bytes : List ℕ) → IsShortest (pair_next one other names others utf8) (pair_goal one other names others utf8) utf8 start bytes →
      IsShortestDifference (rules_of g.leaves) names (rules_of h.leaves) others g.utf8 bytes
  difference_is_answer bytes shortest =
      shortest_difference g.states h.states (length g.leaves) (length h.leaves) one_finished other_finished names others g.utf8 (rules_of g.leaves) (rules_of h.leaves) (of_one.finds faultless) other_finds
      bytes (moved_to (λ s t m p. IsShortest (pair_next s t names others m) (pair_goal s t names others m) m p bytes) shortest)
