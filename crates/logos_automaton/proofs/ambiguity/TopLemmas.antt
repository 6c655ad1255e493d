-- The sets of leaves of highest priority that an automaton lists are the ambiguous ones.
use Rattle.std.proofs.Common.{◌≡◌, ◌↔◌, ℕ, zero, suc, ◌+◌, ◌-◌, ◌<◌, ◌≤◌, ◌⊎◌, inl, inr, Bool, true, false, cond, List, [], ◌∷◌, ◌++◌, length, take, drop, filter, nat_eq, Contains, slice_get, Option, Some, None, refl, sym, ◌∙◌, ap, subst, arith, eqb-true, eq-eqb, length-append, append-nil}
use Rattle.std.proofs.lemmas.Bool.{cases_lt}
use Rattle.std.proofs.lemmas.Option.{slice_get_within}
use Rattle.std.proofs.lemmas.List.Kept.{IsStrictlyIncreasing-filter}
use Rattle.std.proofs.lemmas.List.Elements.{All-drop, All-take}
use Rattle.std.proofs.lemmas.List.{length-take, length-drop, take-append-drop}
use Rattle.std.proofs.Math.Seq.{take-append_seam}
use Rattle.std.specs.List.Sorted.{IsStrictlyIncreasing}
use Rattle.logos_hir.specs.Text.{IsBytes}
use Rattle.logos_automaton.specs.Munch.{Rule, RuleMatches, priority_of}
use Rattle.logos_automaton.specs.Ambiguity.{IsHighest, IsAmbiguous}
use Rattle.logos_automaton.specs.Faults.{Ascends, AreAmbiguous, AllStart}
use Rattle.logos_automaton.specs.inside.TopSets.{highest_of, top_of, IsTopSet, IsTopIn}
use Rattle.logos_automaton.specs.Automaton.{Automaton, dfa_after, dfa_at_end, Lists, IsTotal, ReadsOneByteLate}
use Rattle.logos_automaton.proofs.ambiguity.SameMembers.{Has, has_from_contains, contains_from_has, increasing_same}
use Rattle.logos_automaton.proofs.munch.Outside.{rule_inside}
use Rattle.logos_automaton.proofs.munch.Window.{rule_within_text}

-- it is such a set of one of the first n lists
abbrev pub IsTopBelow : List Rule → ℕ → List (List ℕ) → List ℕ → Type 0
IsTopBelow rules n lists set = (s : ℕ) × (listed : List ℕ) × (s < n) × (slice_get lists s ≡ Some listed) × IsTopSet rules listed set

-- the elements that pass a filter
pub filter_only : (p : ℕ → Bool) (xs : List ℕ) (x : ℕ) → Has (filter p xs) x → Has xs x × (p x ≡ true)
filter_only p [] x h = absurd h
filter_only p (y ∷ xs) x h = go (p y) refl h (filter_only p xs x)
  where
    go : (t : Bool) → p y ≡ t → Has (cond t (y ∷ filter p xs) (filter p xs)) x → (Has (filter p xs) x → Has xs x × (p x ≡ true)) → Has (y ∷ xs) x × (p x ≡ true)
    go true e (inl q) ih = (inl q, ap p (sym q) ∙ e)
    go true e (inr h) ih = let r = ih h in (inr r.0, r.1)
    go false e h ih = let r = ih h in (inr r.0, r.1)

pub filter_all : (p : ℕ → Bool) (xs : List ℕ) (x : ℕ) → Has xs x → p x ≡ true → Has (filter p xs) x
filter_all p [] x h t = absurd h
filter_all p (y ∷ xs) x h t = go (p y) refl h (λ h. filter_all p xs x h t)
  where
    go : (b : Bool) → p y ≡ b → (y ≡ x) ⊎ Has xs x → (Has xs x → Has (filter p xs) x) → Has (cond b (y ∷ filter p xs) (filter p xs)) x
    go true e (inl q) ih = inl q
    go true e (inr h) ih = inr (ih h)
    go false e (inl q) ih = let z : p x ≡ false = ap p (sym q) ∙ e in absurd (cc)
    go false e (inr h) ih = ih h

module _ (rules : List Rule) where
  highest_above : (leaves : List ℕ) (leaf : ℕ) → Has leaves leaf → priority_of rules leaf ≤ highest_of rules leaves
  highest_above [] leaf h = absurd h
  highest_above (x ∷ leaves) leaf (inl e) = let q : priority_of rules x ≡ priority_of rules leaf = ap (priority_of rules) e in omega arith
  highest_above (x ∷ leaves) leaf (inr h) = let l = highest_above leaves leaf h in omega arith

  highest_there : (x : ℕ) (leaves : List ℕ) → (top : ℕ) × Has (x ∷ leaves) top × (priority_of rules top ≡ highest_of rules (x ∷ leaves))
  highest_there x [] = (x, inl refl, omega arith)
  highest_there x (y ∷ leaves) = go (highest_there y leaves) (cases_lt (priority_of rules x) (highest_of rules (y ∷ leaves)))
    where
      go : (top : ℕ) × Has (y ∷ leaves) top × (priority_of rules top ≡ highest_of rules (y ∷ leaves)) → (priority_of rules x < highest_of rules (y ∷ leaves)) ⊎ (highest_of rules (y ∷ leaves) ≤ priority_of rules x) →
          (top : ℕ) × Has (x ∷ y ∷ leaves) top × (priority_of rules top ≡ highest_of rules (x ∷ y ∷ leaves))
      go t (inl l) = (t.0, inr t.1, omega (arith, l, t.2))
      go t (inr l) = (x, inl refl, omega (arith, l))

  top_listed : (leaves : List ℕ) (leaf : ℕ) → Has leaves leaf → (top : ℕ) × Has leaves top × (priority_of rules top ≡ highest_of rules leaves)
  top_listed [] leaf h = absurd h
  top_listed (x ∷ leaves) leaf h = highest_there x leaves

  -- exactly those listed to which none listed is higher are of the highest priority
  pub top_exactly : (leaves : List ℕ) (leaf : ℕ) → Has (top_of rules leaves) leaf ↔ (Has leaves leaf × ((other : ℕ) → Has leaves other → priority_of rules other ≤ priority_of rules leaf))
  top_exactly leaves leaf = (there, back)
    where
      level : ℕ → Bool
      level l = nat_eq (priority_of rules l) (highest_of rules leaves)

      there : Has (top_of rules leaves) leaf → Has leaves leaf × ((other : ℕ) → Has leaves other → priority_of rules other ≤ priority_of rules leaf)
      there h =
          let k = filter_only level leaves leaf h in
          let e = eqb-true (priority_of rules leaf) (highest_of rules leaves) k.1 in
          (k.0, λ other o. let a = highest_above leaves other o in omega arith)

      back : Has leaves leaf × ((other : ℕ) → Has leaves other → priority_of rules other ≤ priority_of rules leaf) → Has (top_of rules leaves) leaf
      back h =
          let t = top_listed leaves leaf h.0 in
          let a = h.1 t.0 t.1 in
          let b = highest_above leaves leaf h.0 in
          filter_all level leaves leaf h.0 (eq-eqb (priority_of rules leaf) (highest_of rules leaves) (omega (arith, t.2)))

  module _ (bytes : List ℕ) (from to : ℕ) (leaves : List ℕ) (rising : IsStrictlyIncreasing leaves) (lists : (leaf : ℕ) → Contains leaves leaf ↔ RuleMatches rules leaf bytes from to) where
    pub top_highest : (leaf : ℕ) → Contains (top_of rules leaves) leaf ↔ IsHighest rules bytes from to leaf
    top_highest leaf = (there, back)
      where
        there : Contains (top_of rules leaves) leaf → IsHighest rules bytes from to leaf
        there c =
            let t = (top_exactly leaves leaf).0 (has_from_contains _ _ c) in
            record { matches = (lists leaf).0 (contains_from_has _ _ t.0); highest = λ other m. t.1 other (has_from_contains _ _ ((lists other).1 m)) }

        back : IsHighest rules bytes from to leaf → Contains (top_of rules leaves) leaf
        back h = contains_from_has _ _ ((top_exactly leaves leaf).1 (has_from_contains _ _ ((lists leaf).1 h.matches), λ other o. h.highest other ((lists other).0 (contains_from_has _ _ o))))

    pub top_rises : IsStrictlyIncreasing (top_of rules leaves)
    top_rises = IsStrictlyIncreasing-filter (λ leaf. nat_eq (priority_of rules leaf) (highest_of rules leaves)) leaves rising

    pub top_ambiguous : IsBytes bytes → (set : List ℕ) → IsTopSet rules leaves set → IsAmbiguous rules set
    top_ambiguous ok set t = subst (IsAmbiguous rules) (sym t.top) (record {
      several = subst (λ xs. 2 ≤ length xs) t.top t.several;
      ascending = top_rises;
      bytes = bytes;
      are_bytes = ok;
      from = from;
      to = to;
      exactly = top_highest;
    })

few_filtered : (p : ℕ → Bool) (xs : List ℕ) → length (filter p xs) ≤ length xs
few_filtered p [] = omega arith
few_filtered p (x ∷ xs) = go (p x) (few_filtered p xs)
  where
    go : (b : Bool) → length (filter p xs) ≤ length xs → length (cond b (x ∷ filter p xs) (filter p xs)) ≤ length (x ∷ xs)
    go true l = omega (arith, l)
    go false l = omega (arith, l)

pub few_top : (rules : List Rule) (listed : List ℕ) → length (top_of rules listed) ≤ length listed
few_top rules listed = few_filtered (λ leaf. nat_eq (priority_of rules leaf) (highest_of rules listed)) listed

module _ (rules : List Rule) (lists : List (List ℕ)) where
  below_next : (n : ℕ) (listed set : List ℕ) → slice_get lists n ≡ Some listed → IsTopBelow rules (n + 1) lists set ↔ (IsTopBelow rules n lists set ⊎ IsTopSet rules listed set)
  below_next n listed set at = (there, back)
    where
      there : IsTopBelow rules (n + 1) lists set → IsTopBelow rules n lists set ⊎ IsTopSet rules listed set
      there t = go (cases_lt t.0 n)
        where
          go : (t.0 < n) ⊎ (n ≤ t.0) → IsTopBelow rules n lists set ⊎ IsTopSet rules listed set
          go (inl l) = inl (t.0, t.1, l, t.3, t.4)
          go (inr l) =
              let e : t.0 ≡ n = omega (arith, l, t.2) in
              let s : Some t.1 ≡ Some listed = sym t.3 ∙ ap (slice_get lists) e ∙ at in
              let q : t.1 ≡ listed = cc in
              inr (subst (λ xs. IsTopSet rules xs set) q t.4)

      back : IsTopBelow rules n lists set ⊎ IsTopSet rules listed set → IsTopBelow rules (n + 1) lists set
      back (inl t) = (t.0, t.1, omega (arith, t.2), t.3, t.4)
      back (inr t) = (n, listed, omega arith, at, t)

pub top_more : (rules : List Rule) (old new lists : List (List ℕ)) (n : ℕ) (listed : List ℕ) → slice_get lists n ≡ Some listed →
    ((set : List ℕ) → Contains old set ↔ IsTopBelow rules n lists set) → ((set : List ℕ) → Contains new set ↔ (Contains old set ⊎ IsTopSet rules listed set)) →
    (set : List ℕ) → Contains new set ↔ IsTopBelow rules (n + 1) lists set
top_more rules old new lists n listed at was now set = (λ c. (below_next rules lists n listed set at).1 (there ((now set).0 c)), λ t. (now set).1 (back ((below_next rules lists n listed set at).0 t)))
  where
    there : Contains old set ⊎ IsTopSet rules listed set → IsTopBelow rules n lists set ⊎ IsTopSet rules listed set
    there (inl c) = inl ((was set).0 c)
    there (inr t) = inr t

    back : IsTopBelow rules n lists set ⊎ IsTopSet rules listed set → Contains old set ⊎ IsTopSet rules listed set
    back (inl t) = inl ((was set).1 t)
    back (inr t) = inr t

pub top_below_all : (rules : List Rule) (sets lists : List (List ℕ)) (n : ℕ) → length lists ≤ n → ((set : List ℕ) → Contains sets set ↔ IsTopBelow rules n lists set) → (set : List ℕ) → Contains sets set ↔ IsTopIn rules lists set
top_below_all rules sets lists n all h set = (λ c. let t = (h set).0 c in (t.0, t.1, t.3, t.4), λ t. (h set).1 (t.0, t.1, let l = slice_get_within lists t.0 t.1 t.2 in omega (arith, l, all), t.2, t.3))

last_cut : (xs : List ℕ) → (xs ≡ []) ⊎ ((front : List ℕ) × (b : ℕ) × (xs ≡ front ++ b ∷ []))
last_cut [] = inl refl
last_cut (x ∷ xs) = go (last_cut xs)
  where
    go : (xs ≡ []) ⊎ ((front : List ℕ) × (b : ℕ) × (xs ≡ front ++ b ∷ [])) → (x ∷ xs ≡ []) ⊎ ((front : List ℕ) × (b : ℕ) × (x ∷ xs ≡ front ++ b ∷ []))
    go (inl e) = inr ([], x, ap (λ (ys : List ℕ). x ∷ ys) e)
    go (inr (front, b, e)) = inr (x ∷ front, b, ap (λ (ys : List ℕ). x ∷ ys) e)

-- the first k of the bytes and one more
next_cut : (k : ℕ) (xs : List ℕ) → k < length xs → (front : List ℕ) × (b : ℕ) × (rest : List ℕ) × (xs ≡ (front ++ b ∷ []) ++ rest) × (length front ≡ k)
next_cut k [] l = absurd (omega (arith, l))
next_cut zero (x ∷ xs) l = ([], x, xs, refl, refl)
next_cut (suc k) (x ∷ xs) l = let h = next_cut k xs (omega (arith, l)) in (x ∷ h.0, h.1, h.2, ap (λ (ys : List ℕ). x ∷ ys) h.3, let e = h.4 in omega (arith, e))

bytes_of_front : (xs ys : List ℕ) → IsBytes (xs ++ ys) → IsBytes xs
bytes_of_front xs ys ok = subst IsBytes (take-append_seam xs ys) (All-take (λ (b : ℕ). b < 256) (length xs) (xs ++ ys) ok)

first_member : (set : List ℕ) → 2 ≤ length set → (leaf : ℕ) × Contains set leaf
first_member [] l = absurd (omega (arith, l))
first_member (x ∷ set) l = (x, contains_from_has (x ∷ set) x (inl refl))

module _ (rules : List Rule) (dfa : Automaton) (reads : ReadsOneByteLate rules dfa) where
  abbrev ListsSpan : Option ℕ → List ℕ → ℕ → ℕ → Type 0
  ListsSpan s bytes from to = Lists dfa s (λ leaf. RuleMatches rules leaf bytes from to)

  at_state : (s : ℕ) (listed set bytes : List ℕ) (from to : ℕ) → slice_get dfa.matches s ≡ Some listed → IsBytes bytes → ListsSpan (Some s) bytes from to → IsTopSet rules listed set → IsAmbiguous rules set
  at_state s listed set bytes from to at ok l t =
      let e : Some l.leaves ≡ Some listed = sym l.listed ∙ at in
      let q : l.leaves ≡ listed = cc in
      top_ambiguous rules bytes from to l.leaves l.ascending l.exactly ok set (subst (λ xs. IsTopSet rules xs set) (sym q) t)

  not_at_start : (set : List ℕ) → IsTopSet rules [] set → ⊥
  not_at_start set t = let l = subst (λ (xs : List ℕ). 2 ≤ length xs) t.top t.several in omega (arith, l)

  listed_ambiguous : IsTotal dfa → (set : List ℕ) → IsTopIn rules dfa.matches set → IsAmbiguous rules set
  listed_ambiguous total set (s, listed, at, t) = go (total.reached s (slice_get_within dfa.matches s listed at))
    where
      go : (bytes : List ℕ) × IsBytes bytes × ((dfa_after dfa (Some dfa.start) bytes ≡ Some s) ⊎ (dfa_at_end dfa bytes ≡ Some s)) → IsAmbiguous rules set
      go (bytes, ok, inr e) = at_state s listed set bytes 0 (length bytes) at ok (subst (λ o. ListsSpan o bytes 0 (length bytes)) e (reads.at_end bytes ok)) t
      go (bytes, ok, inl e) = by_last (last_cut bytes)
        where
          by_last : (bytes ≡ []) ⊎ ((front : List ℕ) × (b : ℕ) × (bytes ≡ front ++ b ∷ [])) → IsAmbiguous rules set
          by_last (inl q) =
              let z : Some dfa.start ≡ Some s = rw q at e in
              let z' : dfa.start ≡ s = cc in
              let w : Some [] ≡ Some listed = sym total.start_lists ∙ ap (slice_get dfa.matches) z' ∙ at in
              let w' : [] ≡ listed = cc in
              absurd (not_at_start set (subst (λ xs. IsTopSet rules xs set) (sym w') t))
          by_last (inr (front, b, q)) =
              let ok' : IsBytes (front ++ b ∷ []) = rw q at ok in
              let e' : dfa_after dfa (Some dfa.start) (front ++ b ∷ []) ≡ Some s = rw q at e in
              at_state s listed set (front ++ b ∷ []) 0 (length front) at ok' (subst (λ o. ListsSpan o (front ++ b ∷ []) 0 (length front)) e' (reads.by_byte front b ok')) t

  -- a state that lists the rules that match the span has the set
  has_set : (set bytes w : List ℕ) (from to k : ℕ) → ((leaf : ℕ) → RuleMatches rules leaf bytes from to ↔ RuleMatches rules leaf w 0 k) → (o : Option ℕ) → ListsSpan o w 0 k →
      2 ≤ length set → IsStrictlyIncreasing set → ((leaf : ℕ) → Contains set leaf ↔ IsHighest rules bytes from to leaf) → IsTopIn rules dfa.matches set
  has_set set bytes w from to k same None l several rising exactly = absurd (cc (l.listed))
  has_set set bytes w from to k same (Some s) l several rising exactly = (
    s,
    l.leaves,
    l.listed,
    record {
      several = several;
      top = increasing_same set (top_of rules l.leaves) rising (top_rises rules w 0 k l.leaves l.ascending l.exactly)
          (λ n c. (highest n).1 (there n ((exactly n).0 c)))
          (λ n c. (exactly n).1 (back n ((highest n).0 c)));
    },
  )
    where
      highest : (leaf : ℕ) → Contains (top_of rules l.leaves) leaf ↔ IsHighest rules w 0 k leaf
      highest = top_highest rules w 0 k l.leaves l.ascending l.exactly

      there : (leaf : ℕ) → IsHighest rules bytes from to leaf → IsHighest rules w 0 k leaf
      there leaf h = record { matches = (same leaf).0 h.matches; highest = λ other m. h.highest other ((same other).1 m) }

      back : (leaf : ℕ) → IsHighest rules w 0 k leaf → IsHighest rules bytes from to leaf
      back leaf h = record { matches = (same leaf).1 h.matches; highest = λ other m. h.highest other ((same other).0 m) }

  ambiguous_listed : AllStart rules → (set : List ℕ) → IsAmbiguous rules set → IsTopIn rules dfa.matches set
  ambiguous_listed start set a = go (cases_lt k (length suffix))
    where
      one : (leaf : ℕ) × Contains set leaf
      one = first_member set a.several

      inside : (a.from ≤ a.to) × (a.to ≤ length a.bytes)
      inside = rule_inside rules one.0 a.bytes a.from a.to start.1 ((a.exactly one.0).0 one.1).matches

      pre : List ℕ
      pre = take a.from a.bytes

      suffix : List ℕ
      suffix = drop a.from a.bytes

      k : ℕ
      k = a.to - a.from

      whole : a.bytes ≡ pre ++ suffix
      whole = sym (take-append-drop a.from a.bytes)

      length_pre : length pre ≡ a.from
      length_pre = let l = length-take a.from a.bytes in let i = inside in omega (arith, l, i.0, i.1)

      length_suffix : length suffix ≡ length a.bytes - a.from
      length_suffix = length-drop a.from a.bytes

      bytes_suffix : IsBytes suffix
      bytes_suffix = All-drop (λ (b : ℕ). b < 256) a.from a.bytes a.are_bytes

      span : (w post : List ℕ) → suffix ≡ w ++ post → (k < length w) ⊎ ((k ≡ length w) × (post ≡ [])) → (leaf : ℕ) → RuleMatches rules leaf a.bytes a.from a.to ↔ RuleMatches rules leaf w 0 k
      span w post e f leaf =
          let r = rule_within_text rules leaf pre w post k start.0 f in
          let b : pre ++ (w ++ post) ≡ a.bytes = ap (λ (ys : List ℕ). pre ++ ys) (sym e) ∙ sym whole in
          let t : length pre + k ≡ a.to = let i = inside in omega (arith, length_pre, i.0) in
          subst (λ (y : ℕ). RuleMatches rules leaf a.bytes a.from y ↔ RuleMatches rules leaf w 0 k) t
          (subst (λ (x : ℕ). RuleMatches rules leaf a.bytes x (length pre + k) ↔ RuleMatches rules leaf w 0 k) length_pre
          (subst (λ (ys : List ℕ). RuleMatches rules leaf ys (length pre) (length pre + k) ↔ RuleMatches rules leaf w 0 k) b r))

      go : (k < length suffix) ⊎ (length suffix ≤ k) → IsTopIn rules dfa.matches set
      go (inl l) =
          let c = next_cut k suffix l in
          let w = c.0 ++ c.1 ∷ [] in
          let n : length (c.0 ++ c.1 ∷ []) ≡ length c.0 + 1 = length-append c.0 (c.1 ∷ []) in
          let ok : IsBytes (c.0 ++ c.1 ∷ []) = bytes_of_front (c.0 ++ c.1 ∷ []) c.2 (rw c.3 at bytes_suffix) in
          has_set set a.bytes w a.from a.to k (span w c.2 c.3 (inl (omega (arith, n, c.4)))) _
          (subst (λ (m : ℕ). ListsSpan (dfa_after dfa (Some dfa.start) (c.0 ++ c.1 ∷ [])) (c.0 ++ c.1 ∷ []) 0 m) c.4 (reads.by_byte c.0 c.1 ok)) a.several a.ascending a.exactly
      go (inr l) =
          let e : k ≡ length suffix = let i = inside in omega (arith, l, length_suffix, i.0, i.1) in
          has_set set a.bytes suffix a.from a.to k (span suffix [] (sym (append-nil suffix)) (inr (e, refl))) _
          (subst (λ (m : ℕ). ListsSpan (dfa_at_end dfa suffix) suffix 0 m) (sym e) (reads.at_end suffix bytes_suffix)) a.several a.ascending a.exactly

  -- the sets that are listed are the ambiguous ones
  pub are_ambiguous : IsTotal dfa → AllStart rules → (sets : List (List ℕ)) → Ascends sets → ((set : List ℕ) → Contains sets set ↔ IsTopIn rules dfa.matches set) → AreAmbiguous rules sets
  are_ambiguous total start sets ascending exactly = record {
    ascending = ascending;
    exactly = λ set. (λ c. listed_ambiguous total set ((exactly set).0 c), λ a. (exactly set).1 (ambiguous_listed start set a));
  }
