-- Rows of the table.
use Rattle.std.proofs.Common.{◌≡◌, ℕ, zero, suc, ◌+◌, ◌-◌, ◌*◌, ◌/◌, ◌%◌, slice_index_or, ◌<◌, ◌≤◌, ◌⊎◌, Bool, true, false, ◌&&◌, ◌||◌, if◌then◌else◌, List, [], ◌∷◌, ◌++◌, Option, Some, None, length, get_or, slice_get, refl, sym, ap, ◌∙◌, subst, inl, inr, ⊎_elim, arith, nat_le, le-leb}
use Rattle.std.proofs.lemmas.Bool.{and_parts, and_from}
use Rattle.std.proofs.lemmas.Option.{same_Some, get_or_from_slice_get}
use Rattle.std.proofs.lemmas.List.Sums.{sum_by-drop_more, sum_by-cons}
use Rattle.std.specs.List.{list_any}
use Rattle.std.proofs.lemmas.List.{get_or_append_left}
use Rattle.std.proofs.Math.Seq.{get_or-append_seam}
use lib.Pointwise.{pointwise, pointwise_decides}
use lib.Dec.{eqb}
use Rattle.std.proofs.lemmas.Bool.Decides.{nat_tests}
use Rattle.logos_positions.specs.inside.Characters.{size, Lead, lead, after_lead, after_byte}
use Rattle.logos_positions.specs.inside.Ranges.{in_ranges, AreParts, from_floor}
use Rattle.logos_positions.specs.Table.{Row, row_of, IsAt, Grows, AreRests, IsRowFor, Finds, FindsFirst, FindsNext, IsCell, weight, led_to}
use Rattle.logos_positions.specs.declared.characters.ranges.CharRange.{CharRange}
use Rattle.logos_positions.specs.declared.characters.builder.CharacterRest.{CharacterRest}
use Rattle.logos_positions.proofs.classes.RangeLemmas.{part_of}

abbrev same_range : CharRange → CharRange → Bool
same_range a b = eqb a.first b.first && eqb a.last b.last

eq_of_test : (a b : ℕ) → eqb a b ≡ true → a ≡ b
eq_of_test a b h = grind (arith, nat_tests)

test_of_eq : (a b : ℕ) → a ≡ b → eqb a b ≡ true
test_of_eq a b h = grind (arith, nat_tests)

range_decides : (a b : CharRange) → (same_range a b ≡ true → a ≡ b) × (a ≡ b → same_range a b ≡ true)
range_decides a b = (
  λ h. let p = and_parts _ _ h in
      let e = eq_of_test a.first b.first p.0 in
      let f = eq_of_test a.last b.last p.1 in
      λ i. record { first = e i; last = f i },
  λ e. and_from _ _ (test_of_eq _ _ (ap (λ r. r.first) e)) (test_of_eq _ _ (ap (λ r. r.last) e)),
)

abbrev pub alike : CharacterRest → CharacterRest → Bool
alike a b = eqb a.left b.left && pointwise same_range a.offsets.items b.offsets.items

pub same_row : (a b : CharacterRest) → alike a b ≡ true → row_of b ≡ row_of a
same_row a b h =
    let p = and_parts _ _ h in
    let e = sym (eq_of_test a.left b.left p.0) in
    let f = sym ((pointwise_decides range_decides a.offsets.items b.offsets.items).0 p.1) in
    λ i. record { left = e i; offsets = f i }

got_front : (ks ys : List CharacterRest) (i : ℕ) (k : CharacterRest) → slice_get ks i ≡ Some k → slice_get (ks ++ ys) i ≡ Some k
got_front [] ys i k h = cc
got_front (x ∷ ks) ys zero k h = h
got_front (x ∷ ks) ys (suc i) k h = got_front ks ys i k h

got_push : (ks : List CharacterRest) (y : CharacterRest) (i : ℕ) (k : CharacterRest) → slice_get (ks ++ y ∷ []) i ≡ Some k →
    (slice_get ks i ≡ Some k) ⊎ ((i ≡ length ks) × (k ≡ y))
got_push [] y zero k h = inr (refl, sym (same_Some _ _ h))
got_push [] y (suc i) k h = cc
got_push (x ∷ ks) y zero k h = inl h
got_push (x ∷ ks) y (suc i) k h = ⊎_elim inl (λ u. inr (ap suc u.0, u.1)) (got_push ks y i k h)

module _ (ks : List CharacterRest) (y : CharacterRest) where
  added : Bool → List CharacterRest
  added b = if b then ks else ks ++ y ∷ []

  grows_added : (b : Bool) → Grows ks (added b)
  unfolding added
  grows_added true = record { keeps = λ i s h. h }
  grows_added false = record { keeps = λ i s h. record { key = h.key; is = got_front ks _ i _ h.is; same = h.same } }

  rests_added : (b : Bool) → 0 < y.left → y.left ≤ 3 → AreRests ks → AreRests (added b)
  unfolding added
  rests_added true some le h = h
  rests_added false some le h = record {
    small = λ i r at. ⊎_elim (λ e. h.small i r (record { key = at.key; is = e; same = at.same }))
        (λ u. subst (λ n. n ≤ 3) (ap (λ k. k.left) (sym u.1) ∙ ap (λ z. z.left) at.same) le) (got_push ks y i at.key at.is);
    whole = λ i r at e. ⊎_elim (λ f. h.whole i r (record { key = at.key; is = f; same = at.same }) e)
        (λ u. let z : y.left ≡ 0 = ap (λ k. k.left) (sym u.1) ∙ ap (λ z. z.left) at.same ∙ e in absurd (omega arith)) (got_push ks y i at.key at.is);
    end = (h.end.0, record { key = h.end.1.key; is = got_front ks _ 0 _ h.end.1.is; same = h.end.1.same }, h.end.2, h.end.3);
  }

  pub grows : (new : List CharacterRest) → new ≡ (if list_any (alike y) ks then ks else ks ++ y ∷ []) → Grows ks new
  unfolding added
  grows new e = rw e (grows_added (list_any (alike y) ks))

  pub stay_rests : (new : List CharacterRest) → new ≡ (if list_any (alike y) ks then ks else ks ++ y ∷ []) → 0 < y.left → y.left ≤ 3 →
      AreRests ks → AreRests new
  unfolding added
  stay_rests new e = rw e (rests_added (list_any (alike y) ks))

-- the row for a list of parts that is not empty
open_parts : (n : ℕ) (xs : List CharRange) → AreParts n xs → (length xs ≡ 0 → ⊥) → (o : ℕ) × (o < n) × (in_ranges xs o ≡ true)
open_parts n [] h some = absurd (some refl)
open_parts n (x ∷ xs) h some = part_of n x xs h

pub row_is : (ks : List CharacterRest) (n i : ℕ) (has : ℕ → Bool) (xs : List CharRange) → IsAt ks i (record { left = n; offsets = xs }) →
    AreParts (size n) xs → (length xs ≡ 0 → ⊥) → ((o : ℕ) → o < size n → in_ranges xs o ≡ has o) → IsRowFor ks n has i
row_is ks n i has xs at parts some same =
    let p = open_parts (size n) xs parts some in
    record {
      row = record { left = n; offsets = xs };
      at = at;
      left = refl;
      same = same;
      some = (p.0, p.1, sym (same p.0 p.1) ∙ p.2);
    }

pub end_is : (ks : List CharacterRest) (n : ℕ) (has : ℕ → Bool) (xs : List CharRange) → AreRests ks → n ≡ 0 →
    AreParts (size n) xs → (length xs ≡ 0 → ⊥) → ((o : ℕ) → o < size n → in_ranges xs o ≡ has o) → IsRowFor ks n has 0
end_is ks zero has xs rests e parts some same =
    let p = open_parts (size 0) xs parts some in
    let z : p.0 ≡ 0 = omega (arith, p.1) in
    let t : has 0 ≡ true = ap has (sym z) ∙ sym (same p.0 p.1) ∙ p.2 in
    let r = rests.end in
    record {
      row = r.0;
      at = r.1;
      left = r.2;
      same = λ o lt. let y : o ≡ 0 = omega arith in ap (in_ranges r.0.offsets) y ∙ r.3 ∙ sym t ∙ ap has (sym y);
      some = (0, omega arith, t);
    }
end_is ks (suc n) has xs rests e parts some same = absurd (omega arith)

pub some_items : (n m : ℕ) → n ≡ m → eqb n 0 ≡ false → m ≡ 0 → ⊥
some_items n m e f z = grind (arith, nat_tests)

-- offsets by another name
pub Finds-map : (ks : List CharacterRest) (n : ℕ) (f g : ℕ → Bool) (to : Option ℕ) → ((o : ℕ) → o < size n → f o ≡ g o) → Finds ks n f to → Finds ks n g to
Finds-map ks n f g None same h = λ o lt. sym (same o lt) ∙ h o lt
Finds-map ks n f g (Some i) same h = record {
  row = h.row;
  at = h.at;
  left = h.left;
  same = λ o lt. h.same o lt ∙ same o lt;
  some = (h.some.0, h.some.1, sym (same h.some.0 h.some.1) ∙ h.some.2);
}

-- rows stay found
pub Finds-grows : (old new : List CharacterRest) (n : ℕ) (f : ℕ → Bool) (to : Option ℕ) → Grows old new → Finds old n f to → Finds new n f to
Finds-grows old new n f None g h = h
Finds-grows old new n f (Some i) g h =
    record { row = h.row; at = g.keeps i h.row h.at; left = h.left; same = h.same; some = h.some }

pub FindsFirst-grows : (old new : List CharacterRest) (c : ℕ → Bool) (l : Option Lead) (to : Option ℕ) → Grows old new →
    FindsFirst old c l to → FindsFirst new c l to
FindsFirst-grows old new c None to g h = h
FindsFirst-grows old new c (Some by) to g h = Finds-grows old new by.left (after_lead c by) to g h

pub FindsNext-grows : (old new : List CharacterRest) (r : Row) (left b : ℕ) (to : Option ℕ) → Grows old new →
    FindsNext old r left b to → FindsNext new r left b to
FindsNext-grows old new r zero b to g h = h
FindsNext-grows old new r (suc n) b to g h = Finds-grows old new n (after_byte n (in_ranges r.offsets) b) to g h

-- the row after a row
pub next_found : (ks : List CharacterRest) (rest : CharacterRest) (r : Row) (n part : ℕ) (f : ℕ → Bool) (to : Option ℕ) → row_of rest ≡ r → rest.left ≡ suc n →
    ((o : ℕ) → o < size n → f o ≡ from_floor (in_ranges rest.offsets.items) 0 (part * size n) o) → Finds ks n f to →
    FindsNext ks r r.left (0x80 + part) to
next_found ks rest r n part f to e k same h =
    subst (λ s. FindsNext ks s s.left (0x80 + part) to) e
    (subst (λ m. FindsNext ks (row_of rest) m (0x80 + part) to) (sym k)
    (Finds-map ks n f _ to (λ o lt. same o lt ∙ from_zero (in_ranges rest.offsets.items) n o) h))
  where
    from_zero : (g : ℕ → Bool) (n o : ℕ) → from_floor g 0 (part * size n) o ≡ after_byte n g (0x80 + part) o
    from_zero g n o =
        let a : nat_le 0 (part * size n + o) ≡ true = le-leb 0 (part * size n + o) (omega arith) in
        let p : part ≡ 0x80 + part - 0x80 = omega arith in
        ap (λ b. b && g (part * size n + o)) a ∙ ap (λ k. g (k * size n + o)) p

lt_or_eq : (n m : ℕ) → n < m + 1 → (n < m) ⊎ (n ≡ m)
lt_or_eq n m h = grind arith

abbrev cell : List (Option ℕ) → ℕ → Option ℕ
cell cells j = slice_index_or cells j None

cell_old : (cells : List (Option ℕ)) (to : Option ℕ) (j : ℕ) → j < length cells → cell (cells ++ to ∷ []) j ≡ cell cells j
cell_old cells to j lt = get_or_append_left cells (to ∷ []) None j lt

cell_new : (cells : List (Option ℕ)) (to : Option ℕ) (j : ℕ) → j ≡ length cells → cell (cells ++ to ∷ []) j ≡ to
cell_new cells to j e = ap (λ k. cell (cells ++ to ∷ []) k) e ∙ get_or-append_seam cells to [] None

pub first_more : (c : ℕ → Bool) (old new : List CharacterRest) (cells : List (Option ℕ)) (m : ℕ) (to : Option ℕ) → m ≡ length cells → Grows old new →
    ((b : ℕ) → b < m → FindsFirst old c (lead b) (cell cells b)) → FindsFirst new c (lead m) to →
    (b : ℕ) → b < m + 1 → FindsFirst new c (lead b) (cell (cells ++ to ∷ []) b)
first_more c old new cells m to len g all h b lt =
    ⊎_elim
    (λ below. let e : b < length cells = omega arith in
    rw (cell_old cells to b e) (FindsFirst-grows old new c (lead b) (cell cells b) g (all b below)))
    (λ e. rw (cell_new cells to b (e ∙ len)) (rw e h))
    (lt_or_eq b m lt)

pub cells_more : (old new : List CharacterRest) (cells : List (Option ℕ)) (m : ℕ) (to : Option ℕ) (r : Row) → m ≡ length cells → Grows old new →
    ((j : ℕ) → j < m → IsCell old cells j) → IsAt old (m / 64) r → FindsNext new r r.left (0x80 + m % 64) to →
    (j : ℕ) → j < m + 1 → IsCell new (cells ++ to ∷ []) j
cells_more old new cells m to r len g all at h j lt =
    ⊎_elim
    (λ below.
    let e : j < length cells = omega arith in
    let k = all j below in
    record {
      row = k.row;
      at = g.keeps _ _ k.at;
      next = rw (cell_old cells to j e) (FindsNext-grows old new k.row k.row.left (0x80 + j % 64) (cell cells j) g k.next);
    })
    (λ e. record {
      row = r;
      at = rw e (g.keeps _ _ at);
      next = rw (cell_new cells to j (e ∙ len)) (rw e h);
    })
    (lt_or_eq j m lt)

pub Grows-then : (a b c : List CharacterRest) → Grows a b → Grows b c → Grows a c
Grows-then a b c f g = record { keeps = λ i r at. g.keeps i r (f.keeps i r at) }

pub Grows-same : (a : List CharacterRest) → Grows a a
Grows-same a = record { keeps = λ i r at. at }

pub got_at : (ks : List CharacterRest) (i : ℕ) → i < length ks → (k : CharacterRest) × (slice_get ks i ≡ Some k)
got_at [] i lt = absurd (omega arith)
got_at (k ∷ ks) zero lt = (k, refl)
got_at (k ∷ ks) (suc i) lt = got_at ks i (omega arith)

pub cells_at : (old new : List CharacterRest) (cells : List (Option ℕ)) (m n : ℕ) (to : Option ℕ) → n ≡ m → m ≡ length cells →
    n / 64 < length old → Grows old new → ((j : ℕ) → j < m → IsCell old cells j) →
    ((r : Row) → IsAt old (n / 64) r → FindsNext new r r.left (0x80 + n % 64) to) →
    (j : ℕ) → j < m + 1 → IsCell new (cells ++ to ∷ []) j
cells_at old new cells m n to e len lt g all h =
    let k = got_at old (n / 64) lt in
    let at : IsAt old (n / 64) (row_of k.0) = record { key = k.0; is = k.1; same = refl } in
    cells_more old new cells m to (row_of k.0) len g all (subst (λ x. IsAt old (x / 64) (row_of k.0)) e at)
    (subst (λ x. FindsNext new (row_of k.0) k.0.left (0x80 + x % 64) to) e (h (row_of k.0) at))

one_row : (y : CharacterRest) (x : CharRange) → y.left ≡ 0 → y.offsets.items ≡ x ∷ [] → x.first ≡ 0 → AreRests (y ∷ [])
one_row y x e f z = record {
  small = λ i r at. small i r at.key at.is at.same;
  whole = λ i r at l. whole i at.key at.is;
  end = (
    row_of y,
    record { key = y; is = refl; same = refl },
    e,
    ap (λ xs. in_ranges xs 0) f ∙ has_zero x z,
  );
}
  where
    small : (i : ℕ) (r : Row) (k : CharacterRest) → slice_get (y ∷ []) i ≡ Some k → row_of k ≡ r → r.left ≤ 3
    small zero r k is same =
        let l : y.left ≡ r.left = ap (λ k. k.left) (same_Some _ _ is) ∙ ap (λ s. s.left) same in
        omega (arith, e, l)
    small (suc i) r k is same = cc

    whole : (i : ℕ) (k : CharacterRest) → slice_get (y ∷ []) i ≡ Some k → i ≡ 0
    whole zero k is = refl
    whole (suc i) k is = cc

    has_zero : (x : CharRange) → x.first ≡ 0 → in_ranges (x ∷ []) 0 ≡ true
    has_zero x z = ap (λ b. b || false) (and_from _ _ (le-leb x.first 0 (omega arith)) (le-leb 0 x.last (omega arith)))

pub start_rows : (old new : List CharacterRest) (y : CharacterRest) (x : CharRange) → old ≡ [] → new ≡ (if list_any (alike y) old then old else old ++ y ∷ []) →
    y.left ≡ 0 → y.offsets.items ≡ x ∷ [] → x.first ≡ 0 → AreRests new
start_rows old new y x e h l f z =
    let n : new ≡ y ∷ [] = h ∙ ap (λ (ks : List CharacterRest). if list_any (alike y) ks then ks else ks ++ y ∷ []) e in
    subst AreRests (sym n) (one_row y x l f z)

pub start_weight : (old new : List CharacterRest) (y : CharacterRest) → old ≡ [] → new ≡ (if list_any (alike y) old then old else old ++ y ∷ []) → y.left ≡ 0 → weight 0 new ≡ 1
start_weight old new y e h l =
    let n : new ≡ y ∷ [] = h ∙ ap (λ (ks : List CharacterRest). if list_any (alike y) ks then ks else ks ++ y ∷ []) e in
    ap (weight 0) n ∙ ap (λ k. 0 + (1 + 64 * led_to (k - 1))) l

-- a row is followed through: its weight is that of the rows after it
pub row_weight : (ks : List CharacterRest) (row : ℕ) (new : List CharacterRest) → row < length ks →
    ((r : Row) → IsAt ks row r → weight (row + 1) new ≤ weight (row + 1) ks + 64 * led_to (r.left - 1)) →
    weight (row + 1) new + 1 ≤ weight row ks
row_weight ks row new lt h =
    let k = got_at ks row lt in
    let at : IsAt ks row (row_of k.0) = record { key = k.0; is = k.1; same = refl } in
    let got : get_or ks row k.0 ≡ k.0 = get_or_from_slice_get ks row k.0 k.0 k.1 in
    let sum = sum_by-drop_more (λ (r : CharacterRest). 1 + 64 * led_to (r.left - 1)) ks row k.0 lt in
    let first : 1 + 64 * led_to ((get_or ks row k.0).left - 1) ≡ 1 + 64 * led_to (k.0.left - 1) = ap (λ (r : CharacterRest). 1 + 64 * led_to (r.left - 1)) got in
    let g = h (row_of k.0) at in
    omega (arith, g, sum, first)

-- no row weighs nothing
pub weight_bound : (ks : List CharacterRest) → length ks ≤ weight 0 ks
weight_bound [] = omega arith
weight_bound (k ∷ ks) =
    let e = sum_by-cons (λ (r : CharacterRest). 1 + 64 * led_to (r.left - 1)) k ks in
    omega (arith, weight_bound ks, e)
