-- The lists of an automaton along an input.
use Rattle.std.proofs.Common.{◌≡◌, ℕ, ◌+◌, ◌<◌, ◌≤◌, ◌↔◌, Bool, true, List, [], ◌∷◌, ◌++◌, Option, None, Some, length, slice_get, option_and_then, if◌then◌else◌, nat_lt, append_assoc, length-append, refl, sym, ap, ◌∙◌, subst, inl, arith, lt-ltb}
use Rattle.std.proofs.lemmas.List.{get_or_append_left}
use Rattle.std.proofs.lemmas.Option.{slice_get_within}
use Rattle.logos_hir.specs.Text.{IsBytes}
use Rattle.logos_automaton.specs.Automaton.{Automaton, dfa_next, dfa_after, ReadsOneByteLate}
use Rattle.logos_automaton.specs.Faults.{AllStart}
use Rattle.logos_automaton.specs.Munch.{Rule, RuleMatches}
use Rattle.logos_automaton.proofs.munch.Outside.{rule_inside}
use Rattle.logos_automaton.proofs.munch.Window.{rule_within_text}
use Rattle.logos_automaton.proofs.runs.DfaLemmas.{after_more}
use Rattle.logos_evidence.specs.inside.Steps.{step_by, listed_at_end}

pub front_bytes : (xs ys : List ℕ) → IsBytes (xs ++ ys) → IsBytes xs
front_bytes xs ys h k d l = subst (λ (b : ℕ). b < 256) (get_or_append_left xs ys d k l) (h k d (omega (arith, length-append xs ys)))

pub one_longer : (w : List ℕ) (b : ℕ) → length (w ++ b ∷ []) ≡ length w + 1
one_longer w b = length-append w (b ∷ [])

-- one byte from the rest goes to the front
pub moved_bytes : (w : List ℕ) (b : ℕ) (rest : List ℕ) → IsBytes (w ++ b ∷ rest) → IsBytes ((w ++ b ∷ []) ++ rest)
moved_bytes w b rest = subst IsBytes (sym (append_assoc w (b ∷ []) rest))

module _ (rules : List Rule) (starts : AllStart rules) where
  pub inside : (leaf : ℕ) (bytes : List ℕ) (a b : ℕ) → RuleMatches rules leaf bytes a b → (a ≤ b) × (b ≤ length bytes)
  inside leaf bytes a b = rule_inside rules leaf bytes a b starts.1

  -- a match depends on one byte after it
  pub window : (leaf : ℕ) (w rest : List ℕ) (b : ℕ) → RuleMatches rules leaf (w ++ b ∷ []) 0 (length w) ↔ RuleMatches rules leaf (w ++ b ∷ rest) 0 (length w)
  window leaf w rest b =
      let size = one_longer w b in
      let h = rule_within_text rules leaf [] (w ++ b ∷ []) rest (length w) starts.0 (inl (omega (arith, size))) in
      let text : (w ++ b ∷ []) ++ rest ≡ w ++ b ∷ rest = append_assoc w (b ∷ []) rest in
      let none : 0 + length w ≡ length w = omega arith in (
        λ m. subst (λ (xs : List ℕ). RuleMatches rules leaf xs 0 (length w)) text (subst (λ (n : ℕ). RuleMatches rules leaf ((w ++ b ∷ []) ++ rest) 0 n) none (h.1 m)),
        λ m. h.0 (subst (λ (n : ℕ). RuleMatches rules leaf ((w ++ b ∷ []) ++ rest) 0 n) (sym none) (subst (λ (xs : List ℕ). RuleMatches rules leaf xs 0 (length w)) (sym text) m)),
      )

-- the number of the state after some bytes
pub record IsState (dfa : Automaton) (w : List ℕ) (s : ℕ) : Type 0 where
  pub after : dfa_after dfa (Some dfa.start) w ≡ Some s
  pub within : s < length dfa.matches

in_list : (o : Option ℕ) (matches : List (List ℕ)) (leaves : List ℕ) → option_and_then (slice_get matches) o ≡ Some leaves → (s : ℕ) × (o ≡ Some s) × (slice_get matches s ≡ Some leaves)
in_list None matches leaves e = cc
in_list (Some s) matches leaves e = (s, refl, e)

module _ (rules : List Rule) (dfa : Automaton) (late : ReadsOneByteLate rules dfa) where
  pub record IsNextState (w : List ℕ) (b s : ℕ) (bytes : IsBytes (w ++ b ∷ [])) : Type 0 where
    pub state : ℕ
    pub step : step_by dfa s b ≡ Some state
    pub next : dfa_next dfa (Some s) b ≡ Some state
    pub is : IsState dfa (w ++ b ∷ []) state
    pub lists : slice_get dfa.matches state ≡ Some (late.by_byte w b bytes).leaves

  -- one more byte leads to a state that lists the leaves that match up to it
  pub next_state : (w : List ℕ) (b s : ℕ) (bytes : IsBytes (w ++ b ∷ [])) → IsState dfa w s → IsNextState w b s bytes
  next_state w b s bytes is =
      let way : dfa_after dfa (Some dfa.start) (w ++ b ∷ []) ≡ dfa_next dfa (Some s) b = after_more dfa (Some dfa.start) w (b ∷ []) ∙ ap (λ (o : Option ℕ). dfa_next dfa o b) is.after in
      let t = in_list _ dfa.matches _ (late.by_byte w b bytes).listed in
      let next : dfa_next dfa (Some s) b ≡ Some t.0 = sym way ∙ t.1 in
      let there = is.within in
      let test : nat_lt s (length dfa.matches) ≡ true = lt-ltb s (length dfa.matches) there in
      record {
        state = t.0;
        step = ap (λ (c : Bool). if c then dfa_next dfa (Some s) b else None) test ∙ next;
        next = next;
        is = record { after = t.1; within = slice_get_within dfa.matches t.0 _ t.2 };
        lists = t.2;
      }

  -- the end leads to one that lists the leaves that match all bytes
  pub last_lists : (w : List ℕ) (s : ℕ) (bytes : IsBytes w) → IsState dfa w s → listed_at_end dfa s ≡ Some (late.at_end w bytes).leaves
  last_lists w s bytes is =
      let there = is.within in
      let test : nat_lt s (length dfa.matches) ≡ true = lt-ltb s (length dfa.matches) there in
      ap (λ (c : Bool). option_and_then (slice_get dfa.matches) (if c then slice_get dfa.at_end s else None)) test ∙
      ap (λ (o : Option ℕ). option_and_then (slice_get dfa.matches) (option_and_then (slice_get dfa.at_end) o)) (sym is.after) ∙ (late.at_end w bytes).listed
