-- The matches that an automaton lists are those of its rules.
use Rattle.std.proofs.Common.{◌≡◌, ℕ, ◌+◌, ◌-◌, ◌<◌, ◌≤◌, ◌⊎◌, ◌↔◌, List, [], ◌∷◌, ◌++◌, Contains, Option, Some, length, map, take, drop, slice_get, option_and_then, append_assoc, append-nil, length-append, refl, sym, ap, ◌∙◌, subst, inl, inr, arith}
use Rattle.std.specs.List.{AllPairs}
use Rattle.std.proofs.lemmas.Bool.{cases_lt}
use Rattle.std.proofs.lemmas.List.{take-append-drop, length-take, length-drop, get_or_append_left}
use Rattle.std.proofs.lemmas.List.Elements.{Contains-append_left, Contains-append_right, Contains-append_cases}
use Rattle.std.proofs.lemmas.List.Kept.{AllPairs-from_increasing}
use Rattle.logos_hir.specs.Text.{IsBytes}
use Rattle.logos_automaton.specs.Automaton.{Automaton, dfa_next, dfa_after, dfa_at_end, Lists, ReadsOneByteLate}
use Rattle.logos_automaton.specs.Faults.{AllStart}
use Rattle.logos_automaton.specs.Munch.{Rule, RuleMatches, priority_of}
use Rattle.logos_automaton.proofs.munch.Outside.{rule_inside}
use Rattle.logos_automaton.proofs.munch.Window.{rule_within_text}
use Rattle.logos_automaton.proofs.runs.DfaLemmas.{after_more}
use Rattle.logos_evidence.specs.Matching.{IsBefore, AreMatches}
use Rattle.logos_evidence.specs.inside.Listed.{match_to, matches_in, matches_at, listed}
use Rattle.logos_evidence.specs.declared.matches.Match.{Match}
use Rattle.logos_evidence.proofs.InputLemmas.{bytes_on}
use Rattle.logos_evidence.proofs.ListFacts.{map_in, in_map, pairs_append, pairs_map}

module _ (priority : ℕ → ℕ) (dfa : Automaton) where
  -- the matches at one end
  in_end : (end : ℕ) (leaves : List ℕ) (m : Match) → Contains (map (match_to priority end) leaves) m → (m.end ≡ end) × (m.priority ≡ priority m.leaf) × Contains leaves m.leaf
  in_end end leaves m c =
      let x = in_map (match_to priority end) leaves m c in (
        ap (λ (n : Match). n.end) (sym x.2),
        ap (λ (n : Match). n.priority) (sym x.2) ∙ ap (λ (n : Match). priority n.leaf) x.2,
        subst (λ (n : Match). Contains leaves n.leaf) x.2 x.1,
      )

  at_end : (end : ℕ) (leaves : List ℕ) (m : Match) → m.end ≡ end → m.priority ≡ priority m.leaf → Contains leaves m.leaf → Contains (map (match_to priority end) leaves) m
  at_end end leaves m e p c = subst (Contains (map (match_to priority end) leaves)) same (map_in (match_to priority end) leaves m.leaf c)
    where
      same : match_to priority end m.leaf ≡ m
      same = λ i. record { leaf = m.leaf; end = (sym e) i; priority = (sym p) i }

module _ (rules : List Rule) (dfa : Automaton) (late : ReadsOneByteLate rules dfa) (starts : AllStart rules) (from : ℕ) where
  abbrev prio : ℕ → ℕ
  prio = priority_of rules

  -- a match that ends after w or later
  pub record IsLater (w rest : List ℕ) (m : Match) : Type 0 where
    pub later : from + length w ≤ m.end
    pub matches : RuleMatches rules m.leaf (w ++ rest) 0 (m.end - from)
    pub priority : m.priority ≡ prio m.leaf

  pub record AreLater (w rest : List ℕ) (ms : List Match) : Type 0 where
    pub in_order : AllPairs IsBefore ms
    pub exactly : (m : Match) → Contains ms m ↔ IsLater w rest m

  -- the leaves listed at an end, in order
  one_end : (end : ℕ) (leaves : List ℕ) → AllPairs (λ (x y : ℕ). x < y) leaves → AllPairs IsBefore (map (match_to prio end) leaves)
  one_end end leaves = pairs_map (match_to prio end) IsBefore (λ (x y : ℕ). x < y) (λ x y l. inr (refl, l)) leaves

  listed_in : (end : ℕ) (s : Option ℕ) (IsListed : ℕ → Type 0) (lists : Lists dfa s IsListed) → matches_at dfa prio end s ≡ map (match_to prio end) lists.leaves
  listed_in end s IsListed lists = ap (matches_in dfa prio end) lists.listed

  inside : (leaf : ℕ) (bytes : List ℕ) (a b : ℕ) → RuleMatches rules leaf bytes a b → (a ≤ b) × (b ≤ length bytes)
  inside leaf bytes a b = rule_inside rules leaf bytes a b starts.1

  more_size : (w : List ℕ) (b : ℕ) → length (w ++ b ∷ []) ≡ length w + 1
  more_size w b = length-append w (b ∷ [])

  -- a match depends on one byte after it
  window : (leaf : ℕ) (w rest : List ℕ) (b : ℕ) → RuleMatches rules leaf (w ++ b ∷ []) 0 (length w) ↔ RuleMatches rules leaf (w ++ b ∷ rest) 0 (length w)
  window leaf w rest b =
      let size = more_size w b in
      let h = rule_within_text rules leaf [] (w ++ b ∷ []) rest (length w) starts.0 (inl (omega (arith, size))) in
      let text : (w ++ b ∷ []) ++ rest ≡ w ++ b ∷ rest = append_assoc w (b ∷ []) rest in
      let none : 0 + length w ≡ length w = omega arith in (
        λ m. subst (λ (xs : List ℕ). RuleMatches rules leaf xs 0 (length w)) text (subst (λ (n : ℕ). RuleMatches rules leaf ((w ++ b ∷ []) ++ rest) 0 n) none (h.1 m)),
        λ m. h.0 (subst (λ (n : ℕ). RuleMatches rules leaf ((w ++ b ∷ []) ++ rest) 0 n) (sym none) (subst (λ (xs : List ℕ). RuleMatches rules leaf xs 0 (length w)) (sym text) m)),
      )

  front_bytes : (xs ys : List ℕ) → IsBytes (xs ++ ys) → IsBytes xs
  front_bytes xs ys h k d l = subst (λ (b : ℕ). b < 256) (get_or_append_left xs ys d k l) (h k d (omega (arith, length-append xs ys)))

  end_size : (m : Match) (n : ℕ) → m.end ≡ from + n → n ≡ m.end - from
  end_size m n e = omega arith

  -- at the end of the bytes
  at_last : (w : List ℕ) (ms : List Match) → IsBytes w → ms ≡ matches_at dfa prio (from + length w) (dfa_at_end dfa w) → AreLater w [] ms
  at_last w ms bytes is =
      let lists = late.at_end w bytes in
      let all : ms ≡ map (match_to prio (from + length w)) lists.leaves = is ∙ listed_in (from + length w) (dfa_at_end dfa w) _ lists in
      let text : w ++ [] ≡ w = append-nil w in
      record {
        in_order = subst (AllPairs IsBefore) (sym all) (one_end (from + length w) lists.leaves (AllPairs-from_increasing lists.leaves lists.ascending));
        exactly = λ m. (
          λ c.
              let e = in_end prio dfa (from + length w) lists.leaves m (subst (λ (xs : List Match). Contains xs m) all c) in
              record {
                later = omega (arith, e.0);
                matches = subst (λ (xs : List ℕ). RuleMatches rules m.leaf xs 0 (m.end - from)) (sym text)
                    (subst (λ (n : ℕ). RuleMatches rules m.leaf w 0 n) (end_size m (length w) e.0) ((lists.exactly m.leaf).0 e.2));
                priority = e.1;
              },
          λ l.
              let here : RuleMatches rules m.leaf w 0 (m.end - from) = subst (λ (xs : List ℕ). RuleMatches rules m.leaf xs 0 (m.end - from)) text l.matches in
              let low = l.later in
              let high = inside m.leaf w 0 (m.end - from) here in
              let e : m.end ≡ from + length w = omega (arith, low, high.1) in
              let listed_here = (lists.exactly m.leaf).1 (subst (λ (n : ℕ). RuleMatches rules m.leaf w 0 n) (sym (end_size m (length w) e)) here) in
              subst (λ (xs : List Match). Contains xs m) (sym all) (at_end prio dfa (from + length w) lists.leaves m e l.priority listed_here),
        );
      }

  module _ (w : List ℕ) (b : ℕ) (rest : List ℕ) (bytes : IsBytes (w ++ b ∷ rest)) where
    text : (w ++ b ∷ []) ++ rest ≡ w ++ b ∷ rest
    text = append_assoc w (b ∷ []) rest

    pub all_bytes : IsBytes ((w ++ b ∷ []) ++ rest)
    all_bytes = subst IsBytes (sym text) bytes

    more_bytes : IsBytes (w ++ b ∷ [])
    more_bytes = front_bytes (w ++ b ∷ []) rest all_bytes

    lists : Lists dfa (dfa_after dfa (Some dfa.start) (w ++ b ∷ [])) (λ leaf. RuleMatches rules leaf (w ++ b ∷ []) 0 (length w))
    lists = late.by_byte w b more_bytes

    one_more : (s : Option ℕ) (ms tail : List Match) → dfa_after dfa (Some dfa.start) (w ++ b ∷ []) ≡ s → ms ≡ matches_at dfa prio (from + length w) s ++ tail →
        AreLater (w ++ b ∷ []) rest tail → AreLater w (b ∷ rest) ms
    one_more s ms tail is whole ih =
        let size = more_size w b in
        let all : matches_at dfa prio (from + length w) s ≡ map (match_to prio (from + length w)) lists.leaves =
        ap (matches_at dfa prio (from + length w)) (sym is) ∙ listed_in (from + length w) _ _ lists in
        let front = map (match_to prio (from + length w)) lists.leaves in
        let parts : ms ≡ front ++ tail = whole ∙ ap (λ (xs : List Match). xs ++ tail) all in
        record {
          in_order = subst (AllPairs IsBefore) (sym parts) (pairs_append IsBefore front tail
              (one_end (from + length w) lists.leaves (AllPairs-from_increasing lists.leaves lists.ascending)) ih.in_order
              (λ x y c d.
              let e = in_end prio dfa (from + length w) lists.leaves x c in
              let l = (ih.exactly y).0 d in
              let low = l.later in
              inl (omega (arith, e.0, low, size))));
          exactly = λ m. (λ c. there m tail ih (Contains-append_cases front tail m (subst (λ (xs : List Match). Contains xs m) parts c)), λ l. subst (λ (xs : List Match). Contains xs m) (sym parts) (back m tail ih l));
        }
      where
        there : (m : Match) (tail : List Match) → AreLater (w ++ b ∷ []) rest tail →
            Contains (map (match_to prio (from + length w)) lists.leaves) m ⊎ Contains tail m → IsLater w (b ∷ rest) m
        there m tail ih (inl c) =
            let e = in_end prio dfa (from + length w) lists.leaves m c in
            record {
              later = omega (arith, e.0);
              matches = subst (λ (n : ℕ). RuleMatches rules m.leaf (w ++ b ∷ rest) 0 n) (end_size m (length w) e.0) ((window m.leaf w rest b).0 ((lists.exactly m.leaf).0 e.2));
              priority = e.1;
            }
        there m tail ih (inr c) =
            let l = (ih.exactly m).0 c in
            let low = l.later in
            let size = more_size w b in
            record {
              later = omega (arith, low, size);
              matches = subst (λ (xs : List ℕ). RuleMatches rules m.leaf xs 0 (m.end - from)) text l.matches;
              priority = l.priority;
            }

        back : (m : Match) (tail : List Match) → AreLater (w ++ b ∷ []) rest tail → IsLater w (b ∷ rest) m → Contains (map (match_to prio (from + length w)) lists.leaves ++ tail) m
        back m tail ih l = go (cases_lt (from + length w) m.end)
          where
            go : (from + length w < m.end) ⊎ (m.end ≤ from + length w) → Contains (map (match_to prio (from + length w)) lists.leaves ++ tail) m
            go (inl more) =
                let size = more_size w b in
                Contains-append_right _ tail m ((ih.exactly m).1 (record {
                  later = omega (arith, more, size);
                  matches = subst (λ (xs : List ℕ). RuleMatches rules m.leaf xs 0 (m.end - from)) (sym text) l.matches;
                  priority = l.priority;
                }))
            go (inr less) =
                let low = l.later in
                let e : m.end ≡ from + length w = omega (arith, low, less) in
                let here = subst (λ (n : ℕ). RuleMatches rules m.leaf (w ++ b ∷ rest) 0 n) (sym (end_size m (length w) e)) l.matches in
                Contains-append_left _ tail m (at_end prio dfa (from + length w) lists.leaves m e l.priority ((lists.exactly m.leaf).1 ((window m.leaf w rest b).1 here)))

  listed_are : (rest w : List ℕ) (s : Option ℕ) (site : ℕ) → site ≡ from + length w → IsBytes (w ++ rest) → dfa_after dfa (Some dfa.start) w ≡ s →
      AreLater w rest (listed dfa prio site s rest)
  listed_are [] w s site at bytes is =
      at_last w _ (front_bytes w [] bytes) (ap (λ (n : ℕ). matches_at dfa prio n (option_and_then (slice_get dfa.at_end) s)) at ∙
      ap (λ (o : Option ℕ). matches_at dfa prio (from + length w) (option_and_then (slice_get dfa.at_end) o)) (sym is))
  listed_are (b ∷ rest) w s site at bytes is =
      let next : dfa_after dfa (Some dfa.start) (w ++ b ∷ []) ≡ dfa_next dfa s b = after_more dfa (Some dfa.start) w (b ∷ []) ∙ ap (λ (o : Option ℕ). dfa_next dfa o b) is in
      let size = more_size w b in
      let ih = listed_are rest (w ++ b ∷ []) (dfa_next dfa s b) (site + 1) (omega (arith, at, size)) (all_bytes w b rest bytes) next in
      one_more w b rest bytes (dfa_next dfa s b) _ (listed dfa prio (site + 1) (dfa_next dfa s b) rest) next
      (ap (λ (n : ℕ). matches_at dfa prio n (dfa_next dfa s b) ++ listed dfa prio (site + 1) (dfa_next dfa s b) rest) at) ih

  -- ---- From a point of an input

  module _ (bytes : List ℕ) (within : from ≤ length bytes) where
    whole : take from bytes ++ (drop from bytes ++ []) ≡ bytes
    whole = ap (λ (xs : List ℕ). take from bytes ++ xs) (append-nil (drop from bytes)) ∙ take-append-drop from bytes

    front_size : length (take from bytes) ≡ from
    front_size = length-take from bytes ∙ omega (arith, within)

    moved : (leaf to : ℕ) → from ≤ to → to ≤ length bytes → RuleMatches rules leaf bytes from to ↔ RuleMatches rules leaf (drop from bytes) 0 (to - from)
    moved leaf to low high =
        let h = rule_within_text rules leaf (take from bytes) (drop from bytes) [] (to - from) starts.0 (fits (cases_lt (to - from) (length (drop from bytes)))) in
        let a : length (take from bytes) ≡ from = front_size in
        let b : length (take from bytes) + (to - from) ≡ to = omega (arith, a, low) in (
          λ m. h.0 (subst (λ (xs : List ℕ). RuleMatches rules leaf xs (length (take from bytes)) (length (take from bytes) + (to - from))) (sym whole)
              (subst (λ (n : ℕ). RuleMatches rules leaf bytes n (length (take from bytes) + (to - from))) (sym a) (subst (λ (n : ℕ). RuleMatches rules leaf bytes from n) (sym b) m))),
          λ m. subst (λ (n : ℕ). RuleMatches rules leaf bytes from n) b (subst (λ (n : ℕ). RuleMatches rules leaf bytes n (length (take from bytes) + (to - from))) a
              (subst (λ (xs : List ℕ). RuleMatches rules leaf xs (length (take from bytes)) (length (take from bytes) + (to - from))) whole (h.1 m))),
        )
      where
        fits : (to - from < length (drop from bytes)) ⊎ (length (drop from bytes) ≤ to - from) → (to - from < length (drop from bytes)) ⊎ ((to - from ≡ length (drop from bytes)) × (◌≡◌ {A = List ℕ} [] []))
        fits (inl l) = inl l
        fits (inr l) = inr (omega (arith, l, length-drop from bytes, high), refl)

    pub matches_are : IsBytes bytes → AreMatches rules bytes from (listed dfa prio from (Some dfa.start) (drop from bytes))
    matches_are are =
        let later = listed_are (drop from bytes) [] (Some dfa.start) from (omega arith) (bytes_on bytes from are) refl in
        record {
          in_order = later.in_order;
          exactly = λ m. (
            λ c.
                let l = (later.exactly m).0 c in
                let low = l.later in
                let low_end : from ≤ m.end = omega (arith, low) in
                let high = inside m.leaf (drop from bytes) 0 (m.end - from) l.matches in
                record { matches = (moved m.leaf m.end low_end (omega (arith, high.1, length-drop from bytes, low_end, within))).1 l.matches; priority = l.priority },
            λ l.
                let bounds = inside m.leaf bytes from m.end l.matches in
                (later.exactly m).1 (record { later = omega (arith, bounds.0); matches = (moved m.leaf m.end bounds.0 bounds.1).0 l.matches; priority = l.priority }),
          );
        }
