-- Edges in ascending order, to which ranges of bytes are added.
use Rattle.std.proofs.Common.{◌≡◌, ◌≢◌, ℕ, zero, suc, ◌+◌, ◌-◌, ◌<◌, ◌≤◌, ◌⊎◌, inl, inr, Bool, true, false, ◌&&◌, ◌||◌, nat_le, nat_lt, ◌==◌, slice_index, slice_set, List, [], ◌∷◌, ◌++◌, length, map, take, drop, get_or, Option, Some, None, refl, sym, ◌∙◌, ap, subst, arith}
use Rattle.std.proofs.lemmas.Bool.{cases_lt}
use Rattle.std.proofs.lemmas.Bool.Decides.{nat_tests}
use Rattle.std.proofs.lemmas.List.{get_or-map, length-map, map-append, map-set, take-map, drop-map}
use Rattle.std.proofs.lemmas.List.Folds.{list_any-append}
use Rattle.std.proofs.lemmas.List.Elements.{All-nil, All-cons, All-head, All-tail, All-weaker}
use Rattle.std.specs.List.{All}
use Rattle.std.specs.List.Sorted.{IsStrictlyIncreasing}
use Rattle.logos_byte_class.specs.Bytes.{AreSeparated, AreSeparatedFrom}
use Rattle.logos_graph.specs.FinishedGraph.{Edge, edge_leads, AreNeat}
use Rattle.logos_hir.specs.ByteRanges.{is_in}
use Rattle.logos_graph.specs.GraphView.{edge_of, state_number}
use Rattle.logos_positions.specs.Marks.{IsRising, IsFirstFrom}
use Rattle.logos_graph.specs.inside.States.{targets, with_range, with_run, IsEdgeOf, AreEdgesOf}
use Rattle.logos_byte_class.specs.declared.byte_class.ByteClass.{ByteClass}
use Rattle.logos_graph.specs.declared.graph.State.{State}
use Rattle.logos_reduce.specs.Rows.{target_of}

-- the tests of numbers
lt_test : (a b : ℕ) → a < b → nat_lt a b ≡ true
lt_test a b l = grind (arith, nat_tests)

not_lt_test : (a b : ℕ) → b ≤ a → nat_lt a b ≡ false
not_lt_test a b l = grind (arith, nat_tests)

same_test : (a b : ℕ) → a ≡ b → (a == b) ≡ true
same_test a b e = grind (arith, nat_tests)

other_test : (a b : ℕ) → (a ≡ b → ⊥) → (a == b) ≡ false
other_test a b d = grind (arith, nat_tests)

order : (a b : ℕ) → (a < b) ⊎ ((a ≡ b) ⊎ (b < a))
order a b = grind arith

-- the halves of a binary search
pub all_below : (xs : List ℕ) (t mid : ℕ) → IsRising xs → mid < length xs → slice_index xs mid < t → (k : ℕ) → k < mid + 1 → slice_index xs k < t
all_below xs t mid r l m k lt = go (cases_lt k mid)
  where
    go : (k < mid) ⊎ (mid ≤ k) → slice_index xs k < t
    go (inl p) = let q = r.rise k mid p l in omega arith
    go (inr p) = let e : mid ≡ k = omega arith in subst (λ j. slice_index xs j < t) e m

pub all_above : (xs : List ℕ) (t mid : ℕ) → IsRising xs → t ≤ slice_index xs mid → (k : ℕ) → mid ≤ k → k < length xs → t ≤ slice_index xs k
all_above xs t mid r m k le lt = go (cases_lt mid k)
  where
    go : (mid < k) ⊎ (k ≤ mid) → t ≤ slice_index xs k
    go (inl p) = let q = r.rise mid k p lt in omega arith
    go (inr p) = let e : mid ≡ k = omega arith in subst (λ j. t ≤ slice_index xs j) e m

-- the targets of the edges of the program
pub length-targets : (edges : List (ByteClass × State)) → length (targets (map edge_of edges)) ≡ length edges
length-targets edges = length-map (map edge_of edges) (λ (edge : Edge). edge.1) ∙ length-map edges edge_of

pub target_at : (edges : List (ByteClass × State)) (i : ℕ) (d : ByteClass × State) → i < length edges → slice_index (targets (map edge_of edges)) i ≡ state_number (get_or edges i d).1
target_at edges i d l =
    get_or-map (λ (edge : Edge). edge.1) (map edge_of edges) i (edge_of d) 0 (let n = length-map edges edge_of in omega arith)
    ∙ ap (λ (edge : Edge). edge.1) (get_or-map edge_of edges i d (edge_of d) l)

first_tail : (edge : Edge) (edges : List Edge) (t i : ℕ) → IsFirstFrom (targets (edge ∷ edges)) t (suc i) → IsFirstFrom (targets edges) t i
first_tail edge edges t i first = record {
  within = let w = first.within in omega arith;
  below = λ k l. first.below (suc k) (omega arith);
  above = λ k l m. first.above (suc k) (omega arith) (omega arith);
}

-- the edge is there
pub slot_hit : (edges : List Edge) (i : ℕ) (d : Edge) (range : ℕ × ℕ) (t : ℕ) → IsFirstFrom (targets edges) t i → i < length edges → (get_or edges i d).1 ≡ t →
    with_range edges range t ≡ slice_set edges i ((get_or edges i d).0 ++ range ∷ [], (get_or edges i d).1)
slot_hit [] i d range t first l e = absurd (omega arith)
slot_hit (edge ∷ edges) zero d range t first l e =
    rw (not_lt_test t edge.1 (omega arith), same_test t edge.1 (sym e)) refl
slot_hit (edge ∷ edges) (suc i) d range t first l e =
    let before : edge.1 < t = first.below 0 (omega arith) in
    rw (not_lt_test t edge.1 (omega arith), other_test t edge.1 (λ e. omega arith))
    (ap (λ rest. edge ∷ rest) (slot_hit edges i d range t (first_tail edge edges t i first) (omega arith) e))

-- the edge is new
pub slot_new : (edges : List Edge) (i : ℕ) (range : ℕ × ℕ) (t : ℕ) → IsFirstFrom (targets edges) t i → (i < length edges → slice_index (targets edges) i ≢ t) →
    with_range edges range t ≡ take i edges ++ (range ∷ [], t) ∷ drop i edges
slot_new [] zero range t first d = refl
slot_new [] (suc i) range t first d = let w = first.within in absurd (omega arith)
slot_new (edge ∷ edges) zero range t first d =
    let here : t ≤ edge.1 = first.above 0 (omega arith) (omega arith) in
    let other : edge.1 ≢ t = d (omega arith) in
    rw (lt_test t edge.1 (omega arith)) refl
slot_new (edge ∷ edges) (suc i) range t first d =
    let before : edge.1 < t = first.below 0 (omega arith) in
    rw (not_lt_test t edge.1 (omega arith), other_test t edge.1 (λ e. omega arith))
    (ap (λ rest. edge ∷ rest) (slot_new edges i range t (first_tail edge edges t i first) (λ l. d (omega arith))))

-- the lemma above for the edges of the program
pub pushed_at : (edges : List (ByteClass × State)) (i : ℕ) (old new : ByteClass × State) (range : ℕ × ℕ) (t : ℕ) → IsFirstFrom (targets (map edge_of edges)) t i →
    i < length edges → slice_index (targets (map edge_of edges)) i ≡ t → old ≡ get_or edges i old → edge_of new ≡ ((edge_of old).0 ++ range ∷ [], (edge_of old).1) →
    map edge_of (slice_set edges i new) ≡ with_range (map edge_of edges) range t
pushed_at edges i old new range t first l hit is grown =
    let at : get_or (map edge_of edges) i (edge_of old) ≡ edge_of old = get_or-map edge_of edges i old (edge_of old) l ∙ ap edge_of (sym is) in
    map-set edge_of edges i new
    ∙ ap (slice_set (map edge_of edges) i) (grown ∙ ap (λ (edge : Edge). (edge.0 ++ range ∷ [], edge.1)) (sym at))
    ∙ sym (slot_hit (map edge_of edges) i (edge_of old) range t first (let n = length-map edges edge_of in omega arith)
    (ap (λ (edge : Edge). edge.1) (get_or-map edge_of edges i old (edge_of old) l) ∙ sym (target_at edges i old l) ∙ hit))

pub inserted_at : (edges : List (ByteClass × State)) (i : ℕ) (new : ByteClass × State) (range : ℕ × ℕ) (t : ℕ) → IsFirstFrom (targets (map edge_of edges)) t i →
    (i < length edges → slice_index (targets (map edge_of edges)) i ≢ t) → edge_of new ≡ (range ∷ [], t) →
    map edge_of (take i edges ++ new ∷ drop i edges) ≡ with_range (map edge_of edges) range t
inserted_at edges i new range t first miss made =
    map-append edge_of (take i edges) (new ∷ drop i edges)
    ∙ ap (λ rest. map edge_of (take i edges) ++ edge_of new ∷ rest) (sym (drop-map edge_of i edges))
    ∙ ap (λ front. front ++ edge_of new ∷ drop i (map edge_of edges)) (sym (take-map edge_of i edges))
    ∙ ap (λ edge. take i (map edge_of edges) ++ edge ∷ drop i (map edge_of edges)) made
    ∙ sym (slot_new (map edge_of edges) i range t first (λ l. miss (let n = length-map edges edge_of in omega arith)))

-- each target is less than the next, and none is below n
abbrev RiseFrom : ℕ → List Edge → Type 0
RiseFrom n [] = Unit {0}
RiseFrom n (edge ∷ edges) = (n ≤ edge.1) × RiseFrom (edge.1 + 1) edges

rise_from : (n : ℕ) (edges : List Edge) → IsRising (targets edges) → ((k : ℕ) → k < length edges → n ≤ slice_index (targets edges) k) → RiseFrom n edges
rise_from n [] r all = tt
rise_from n (edge ∷ edges) r all = (
  all 0 (omega arith),
  rise_from (edge.1 + 1) edges (record { rise = λ i j l m. r.rise (suc i) (suc j) (omega arith) (omega arith) })
      (λ k l. let q = r.rise 0 (suc k) (omega arith) (let e = length_targets edges in omega arith) in omega arith),
)
  where
    length_targets : (edges : List Edge) → length (targets edges) ≡ length edges
    length_targets [] = refl
    length_targets (edge ∷ edges) = ap suc (length_targets edges)

all_from : (n : ℕ) (edges : List Edge) → RiseFrom n edges → (k : ℕ) → k < length (targets edges) → n ≤ slice_index (targets edges) k
all_from n [] r k l = absurd (omega arith)
all_from n (edge ∷ edges) r zero l = r.0
all_from n (edge ∷ edges) r (suc k) l = let q = all_from (edge.1 + 1) edges r.1 k (omega arith) in let p = r.0 in omega arith

rising : (n : ℕ) (edges : List Edge) → RiseFrom n edges → IsRising (targets edges)
rising n edges r = record { rise = go n edges r }
  where
    go : (n : ℕ) (edges : List Edge) → RiseFrom n edges → (i j : ℕ) → i < j → j < length (targets edges) → slice_index (targets edges) i < slice_index (targets edges) j
    go n [] r i j l m = absurd (omega arith)
    go n (edge ∷ edges) r i zero l m = absurd (omega arith)
    go n (edge ∷ edges) r zero (suc j) l m = let q = all_from (edge.1 + 1) edges r.1 j (omega arith) in omega arith
    go n (edge ∷ edges) r (suc i) (suc j) l m = go (edge.1 + 1) edges r.1 i j (omega arith) (omega arith)

range_rises : (n : ℕ) (edges : List Edge) (range : ℕ × ℕ) (t : ℕ) → RiseFrom n edges → n ≤ t → RiseFrom n (with_range edges range t)
range_rises n [] range t r l = (l, tt)
range_rises n (edge ∷ edges) range t r l = go (order t edge.1) (λ p. range_rises (edge.1 + 1) edges range t r.1 p)
  where
    go : (t < edge.1) ⊎ ((t ≡ edge.1) ⊎ (edge.1 < t)) → (edge.1 + 1 ≤ t → RiseFrom (edge.1 + 1) (with_range edges range t)) → RiseFrom n (with_range (edge ∷ edges) range t)
    go (inl p) later = rw (lt_test t edge.1 p) (l, (omega arith, r.1))
    go (inr (inl p)) later = rw (not_lt_test t edge.1 (omega arith), same_test t edge.1 p) (r.0, r.1)
    go (inr (inr p)) later =
        rw (not_lt_test t edge.1 (omega arith), other_test t edge.1 (λ e. omega arith))
        (r.0, later (omega arith))

-- a property of each edge when a range is added
module _ (P Q : Edge → Type 0) (range : ℕ × ℕ) (t : ℕ) (other : (edge : Edge) → P edge → Q edge)
    (same : (edge : Edge) → P edge → edge.1 ≡ t → Q (edge.0 ++ range ∷ [], edge.1)) (new : Q (range ∷ [], t)) where
  all_with : (edges : List Edge) → All P edges → All Q (with_range edges range t)
  all_with [] all = All-cons Q (range ∷ [], t) [] new (All-nil Q)
  all_with (edge ∷ edges) all = go (order t edge.1) (all_with edges (All-tail P edge edges all))
    where
      here : P edge
      here = All-head P edge edges all

      rest : All P edges
      rest = All-tail P edge edges all

      go : (t < edge.1) ⊎ ((t ≡ edge.1) ⊎ (edge.1 < t)) → All Q (with_range edges range t) → All Q (with_range (edge ∷ edges) range t)
      go (inl p) later =
          rw (lt_test t edge.1 p)
          (All-cons Q (range ∷ [], t) (edge ∷ edges) new (All-cons Q edge edges (other edge here) (All-weaker P Q other edges rest)))
      go (inr (inl p)) later =
          rw (not_lt_test t edge.1 (omega arith), same_test t edge.1 p)
          (All-cons Q (edge.0 ++ range ∷ [], edge.1) edges (same edge here (sym p)) (All-weaker P Q other edges rest))
      go (inr (inr p)) later =
          rw (not_lt_test t edge.1 (omega arith), other_test t edge.1 (λ e. omega arith))
          (All-cons Q edge (with_range edges range t) (other edge here) later)

-- an edge in front
here : (edge : Edge) (edges : List Edge) (b : ℕ) → is_in edge.0 b ≡ true → edge_leads (edge ∷ edges) b ≡ Some edge.1
here edge edges b e = rw e refl

later : (edge : Edge) (edges : List Edge) (b : ℕ) → is_in edge.0 b ≡ false → edge_leads (edge ∷ edges) b ≡ edge_leads edges b
later edge edges b e = rw e refl

-- one more range
in_append : (ranges : List (ℕ × ℕ)) (range : ℕ × ℕ) (b : ℕ) → is_in (ranges ++ range ∷ []) b ≡ (is_in ranges b || is_in (range ∷ []) b)
in_append ranges range b = list_any-append (λ r. nat_le r.0 b && nat_le b r.1) ranges (range ∷ [])

or_true : (t : Bool) → (t || true) ≡ true
or_true true = refl
or_true false = refl

or_false : (t : Bool) → (t || false) ≡ t
or_false true = refl
or_false false = refl

in_last : (ranges : List (ℕ × ℕ)) (range : ℕ × ℕ) (b : ℕ) → is_in (range ∷ []) b ≡ true → is_in (ranges ++ range ∷ []) b ≡ true
in_last ranges range b e = in_append ranges range b ∙ ap (λ (t : Bool). is_in ranges b || t) e ∙ or_true (is_in ranges b)

in_front : (ranges : List (ℕ × ℕ)) (range : ℕ × ℕ) (b : ℕ) → is_in (range ∷ []) b ≡ false → is_in (ranges ++ range ∷ []) b ≡ is_in ranges b
in_front ranges range b e = in_append ranges range b ∙ ap (λ (t : Bool). is_in ranges b || t) e ∙ or_false (is_in ranges b)

-- the targets of bytes once a range is added
leads_in : (edges : List Edge) (range : ℕ × ℕ) (t b : ℕ) → is_in (range ∷ []) b ≡ true → edge_leads edges b ≡ None → edge_leads (with_range edges range t) b ≡ Some t
leads_in [] range t b in_range none = here (range ∷ [], t) [] b in_range
leads_in (edge ∷ edges) range t b in_range none = go (order t edge.1) (is_in edge.0 b) refl (leads_in edges range t b in_range)
  where
    go : (t < edge.1) ⊎ ((t ≡ edge.1) ⊎ (edge.1 < t)) → (r : Bool) → is_in edge.0 b ≡ r → (edge_leads edges b ≡ None → edge_leads (with_range edges range t) b ≡ Some t) →
        edge_leads (with_range (edge ∷ edges) range t) b ≡ Some t
    go (inl p) r e rest = rw (lt_test t edge.1 p) (here (range ∷ [], t) (edge ∷ edges) b in_range)
    go (inr (inl p)) r e rest =
        rw (not_lt_test t edge.1 (omega arith), same_test t edge.1 p)
        (here (edge.0 ++ range ∷ [], edge.1) edges b (in_last edge.0 range b in_range) ∙ ap Some (sym p))
    go (inr (inr p)) true e rest = let x = sym (here edge edges b e) ∙ none in absurd (cc)
    go (inr (inr p)) false e rest =
        rw (not_lt_test t edge.1 (omega arith), other_test t edge.1 (λ e. omega arith))
        (later edge (with_range edges range t) b e ∙ rest (sym (later edge edges b e) ∙ none))

leads_out : (edges : List Edge) (range : ℕ × ℕ) (t b : ℕ) → is_in (range ∷ []) b ≡ false → edge_leads (with_range edges range t) b ≡ edge_leads edges b
leads_out [] range t b out = later (range ∷ [], t) [] b out
leads_out (edge ∷ edges) range t b out = go (order t edge.1) (is_in edge.0 b) refl (leads_out edges range t b out)
  where
    go : (t < edge.1) ⊎ ((t ≡ edge.1) ⊎ (edge.1 < t)) → (r : Bool) → is_in edge.0 b ≡ r → edge_leads (with_range edges range t) b ≡ edge_leads edges b →
        edge_leads (with_range (edge ∷ edges) range t) b ≡ edge_leads (edge ∷ edges) b
    go (inl p) r e rest = rw (lt_test t edge.1 p) (later (range ∷ [], t) (edge ∷ edges) b out)
    go (inr (inl p)) true e rest =
        rw (not_lt_test t edge.1 (omega arith), same_test t edge.1 p)
        (here (edge.0 ++ range ∷ [], edge.1) edges b (in_front edge.0 range b out ∙ e) ∙ sym (here edge edges b e))
    go (inr (inl p)) false e rest =
        rw (not_lt_test t edge.1 (omega arith), same_test t edge.1 p)
        (later (edge.0 ++ range ∷ [], edge.1) edges b (in_front edge.0 range b out ∙ e) ∙ sym (later edge edges b e))
    go (inr (inr p)) true e rest =
        rw (not_lt_test t edge.1 (omega arith), other_test t edge.1 (λ e. omega arith))
        (here edge (with_range edges range t) b e ∙ sym (here edge edges b e))
    go (inr (inr p)) false e rest =
        rw (not_lt_test t edge.1 (omega arith), other_test t edge.1 (λ e. omega arith))
        (later edge (with_range edges range t) b e ∙ rest ∙ sym (later edge edges b e))

-- the bytes of a range
in_range : (first last b : ℕ) → first ≤ b → b ≤ last → is_in ((first, last) ∷ []) b ≡ true
in_range first last b l m = rw (low, high) refl
  where
    low : nat_le first b ≡ true
    low = grind (arith, nat_tests)

    high : nat_le b last ≡ true
    high = grind (arith, nat_tests)

out_of : (first last b : ℕ) → (b < first) ⊎ (last < b) → is_in ((first, last) ∷ []) b ≡ false
out_of first last b (inl l) = rw low refl
  where
    low : nat_le first b ≡ false
    low = grind (arith, nat_tests)
out_of first last b (inr l) = rw high (and_false (nat_le first b))
  where
    high : nat_le b last ≡ false
    high = grind (arith, nat_tests)

    and_false : (t : Bool) → ((t && false) || false) ≡ false
    and_false true = refl
    and_false false = refl

within : (first last b : ℕ) → is_in ((first, last) ∷ []) b ≡ true → (first ≤ b) × (b ≤ last)
within first last b e = go (cases_lt b first) (cases_lt last b)
  where
    go : (b < first) ⊎ (first ≤ b) → (last < b) ⊎ (b ≤ last) → (first ≤ b) × (b ≤ last)
    go (inl l) m = let x = sym (out_of first last b (inl l)) ∙ e in absurd (cc)
    go (inr l) (inl m) = let x = sym (out_of first last b (inr m)) ∙ e in absurd (cc)
    go (inr l) (inr m) = (l, m)

-- a range after the last one, which it does not touch
separated_push : (least : ℕ) (ranges : List (ℕ × ℕ)) (a b c d : ℕ) → AreSeparatedFrom least (ranges ++ (a, b) ∷ []) → b + 2 ≤ c → c ≤ d →
    AreSeparatedFrom least ((ranges ++ (a, b) ∷ []) ++ (c, d) ∷ [])
separated_push least [] a b c d s l m = (s.0, s.1, (l, m, tt))
separated_push least (r ∷ ranges) a b c d s l m = (s.0, s.1, separated_push (r.1 + 2) ranges a b c d s.2 l m)

-- a run of bytes is added
module _ (leads : ℕ → Option ℕ) (n end : ℕ) (some : n < end) (most : end ≤ 256) (run : (b : ℕ) → n ≤ b → b < end → leads b ≡ leads n)
    (changes : 0 < n → n < 256 → leads n ≢ leads (n - 1)) where
  -- an edge that the run does not take
  kept : (edge : Edge) → IsEdgeOf leads n edge → IsEdgeOf leads end edge
  kept edge is = record {
    separated = is.separated;
    room = λ first last l m differs. is.room first last (omega arith) m (λ e. absurd (omega arith));
    only = λ b e. let p = is.only b e in (let q = p.0 in omega arith, p.1);
    some = let p = is.some in (p.0, let q = p.1 in omega arith, p.2);
  }

  -- the last byte of the run
  last_leads : leads (end - 1) ≡ leads n
  last_leads = run (end - 1) (omega arith) (omega arith)

  module _ (t : ℕ) (to : leads n ≡ Some t) where
    by_run : (b : ℕ) → is_in ((n, end - 1) ∷ []) b ≡ true → (b < end) × (leads b ≡ Some t)
    by_run b e = let p = within n (end - 1) b e in let l = p.1 in (omega arith, run b p.0 (omega arith) ∙ to)

    grown : (edge : Edge) → IsEdgeOf leads n edge → edge.1 ≡ t → IsEdgeOf leads end (edge.0 ++ (n, end - 1) ∷ [], edge.1)
    grown edge is same = record {
      separated = added;
      room = λ first last l m differs. separated_push 0 edge.0 n (end - 1) first last added (go first l differs (cases_lt end first)) m;
      only = λ b e. by b e (is_in edge.0 b) refl;
      some = let p = is.some in (p.0, let q = p.1 in omega arith, p.2);
    }
      where
        added : AreSeparated (edge.0 ++ (n, end - 1) ∷ [])
        added =
            is.room n (end - 1) (omega arith) (omega arith)
            (λ e f. let q = is.some.1 in changes (omega arith) (omega arith) (to ∙ ap Some (sym same) ∙ sym f))

        go : (first : ℕ) → end ≤ first → (end ≡ first → leads (end - 1) ≢ Some edge.1) → (end < first) ⊎ (first ≤ end) → end - 1 + 2 ≤ first
        go first l differs (inl p) = omega arith
        go first l differs (inr p) = absurd (differs (omega arith) (last_leads ∙ to ∙ ap Some (sym same)))

        by : (b : ℕ) → is_in (edge.0 ++ (n, end - 1) ∷ []) b ≡ true → (r : Bool) → is_in edge.0 b ≡ r → (b < end) × (leads b ≡ Some edge.1)
        by b e true f = let p = is.only b f in let l = p.0 in (omega arith, p.1)
        by b e false f =
            let p = by_run b (sym (ap (λ (r : Bool). r || is_in ((n, end - 1) ∷ []) b) f) ∙ sym (in_append edge.0 (n, end - 1) b) ∙ e) in
            (p.0, p.1 ∙ ap Some (sym same))

    made : IsEdgeOf leads end ((n, end - 1) ∷ [], t)
    made = record {
      separated = (omega arith, omega arith, tt);
      room = λ first last l m differs. (omega arith, omega arith, (go first l differs (cases_lt end first), m, tt));
      only = by_run;
      some = (n, some, to);
    }
      where
        go : (first : ℕ) → end ≤ first → (end ≡ first → leads (end - 1) ≢ Some t) → (end < first) ⊎ (first ≤ end) → end - 1 + 2 ≤ first
        go first l differs (inl p) = omega arith
        go first l differs (inr p) = absurd (differs (omega arith) (last_leads ∙ to))

  module _ (edges : List Edge) (are : AreEdgesOf leads n edges) where
    -- the bytes of the run lead where its first one does
    run_done : (o : Option ℕ) → leads n ≡ o → (b : ℕ) → b < end → edge_leads (with_run edges (n, end - 1) o) b ≡ leads b
    run_done None e b l = go (cases_lt b n)
      where
        go : (b < n) ⊎ (n ≤ b) → edge_leads edges b ≡ leads b
        go (inl m) = are.done b m
        go (inr m) = are.rest b m ∙ sym e ∙ sym (run b m l)
    run_done (Some t) e b l = go (cases_lt b n)
      where
        go : (b < n) ⊎ (n ≤ b) → edge_leads (with_range edges (n, end - 1) t) b ≡ leads b
        go (inl m) = leads_out edges (n, end - 1) t b (out_of n (end - 1) b (inl m)) ∙ are.done b m
        go (inr m) = leads_in edges (n, end - 1) t b (in_range n (end - 1) b m (omega arith)) (are.rest b m) ∙ sym e ∙ sym (run b m l)

    run_rest : (o : Option ℕ) → (b : ℕ) → end ≤ b → edge_leads (with_run edges (n, end - 1) o) b ≡ None
    run_rest None b l = are.rest b (omega arith)
    run_rest (Some t) b l = leads_out edges (n, end - 1) t b (out_of n (end - 1) b (inr (omega arith))) ∙ are.rest b (omega arith)

    run_each : (o : Option ℕ) → leads n ≡ o → All (IsEdgeOf leads end) (with_run edges (n, end - 1) o)
    run_each None e = All-weaker (IsEdgeOf leads n) (IsEdgeOf leads end) kept edges are.each
    run_each (Some t) e = all_with (IsEdgeOf leads n) (IsEdgeOf leads end) (n, end - 1) t kept (grown t e) (made t e) edges are.each

    run_rising : (o : Option ℕ) → IsRising (targets (with_run edges (n, end - 1) o))
    run_rising None = are.rising
    run_rising (Some t) =
        rising 0 (with_range edges (n, end - 1) t)
        (range_rises 0 edges (n, end - 1) t (rise_from 0 edges are.rising (λ k l. omega arith)) (omega arith))

    pub edges_more : AreEdgesOf leads end (with_run edges (n, end - 1) (leads n))
    edges_more = record {
      rising = run_rising (leads n);
      each = run_each (leads n) refl;
      done = run_done (leads n) refl;
      rest = run_rest (leads n);
    }

-- before the first byte
pub edges_none : (leads : ℕ → Option ℕ) → AreEdgesOf leads 0 []
edges_none leads = record {
  rising = record { rise = λ i j l m. absurd (omega arith) };
  each = All-nil (IsEdgeOf leads 0);
  done = λ b l. absurd (omega arith);
  rest = λ b l. refl;
}

-- all edges
pub edges_neat : (leads : ℕ → Option ℕ) (edges : List Edge) → AreEdgesOf leads 256 edges → AreNeat edges
edges_neat leads edges are = record {
  separated = All-weaker (IsEdgeOf leads 256) (λ edge. AreSeparated edge.0) (λ edge is. is.separated) edges are.each;
  leads =
      All-weaker (IsEdgeOf leads 256) (λ edge. (b : ℕ) → b < 256 → is_in edge.0 b ≡ true → edge_leads edges b ≡ Some edge.1)
      (λ edge is b l e. are.done b l ∙ (is.only b e).1) edges are.each;
  apart = λ i j d l m e.
      let p = get_or-map (λ (edge : Edge). edge.1) edges i d 0 (omega arith) in
      let q = get_or-map (λ (edge : Edge). edge.1) edges j d 0 m in
      let r = are.rising.rise i j l (let n = length-map edges (λ (edge : Edge). edge.1) in omega arith) in
      omega arith;
}

pub edges_increase : (leads : ℕ → Option ℕ) (edges : List Edge) → AreEdgesOf leads 256 edges → IsStrictlyIncreasing (map (λ edge. edge.1) edges)
edges_increase leads edges are = λ k l. are.rising.rise k (k + 1) (omega arith) l

-- different entries have different targets
pub targets_differ : (a b : ℕ) → target_of a ≡ target_of b → a ≡ b
targets_differ zero zero e = refl
targets_differ zero (suc b) e = absurd (cc)
targets_differ (suc a) zero e = absurd (cc)
targets_differ (suc a) (suc b) e = let q : a ≡ b = cc in ap suc q
