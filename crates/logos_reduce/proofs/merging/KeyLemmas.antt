-- Blocks by marks.
use Rattle.std.proofs.Common.{◌≡◌, ℕ, zero, suc, ◌+◌, ◌<◌, ◌≤◌, ◌⊎◌, inl, inr, Bool, true, false, ◌||◌, if◌then◌else◌, List, [], ◌∷◌, ◌++◌, length, Option, Some, None, slice_get, slice_index, nat_eq, nat_lt, refl, sym, ◌∙◌, ap, subst, arith}
use Rattle.std.specs.List.{list_any}
use Rattle.std.proofs.lemmas.Bool.{cases_lt}
use Rattle.std.proofs.lemmas.Bool.Decides.{nat_tests}
use Rattle.std.proofs.lemmas.List.{get_or_append_left, get_or_push}
use lib.Pointwise.{pointwise, bytes_decides}
use Rattle.logos_reduce.specs.inside.Merge.{tagged, key_of, AreKeyNumbers}
use Rattle.logos_reduce.specs.Merge.{split_at, IsSound, HaveMarks, ArePartedBy}
use Rattle.logos_reduce.specs.Table.{size, mark}
use Rattle.logos_reduce.specs.declared.merge.blocks.Split.{Split}
use Rattle.logos_reduce.specs.declared.table.StateMarks.{StateMarks}
use Rattle.logos_reduce.specs.declared.table.Table.{Table}

-- a mark is known by its key
same_leaf : (a b : Option ℕ) → (tagged a).0 ≡ (tagged b).0 → (tagged a).1 ≡ (tagged b).1 → a ≡ b
same_leaf None None e q = refl
same_leaf None (Some b) e q = absurd (omega arith)
same_leaf (Some a) None e q = absurd (omega arith)
same_leaf (Some a) (Some b) e q = ap Some q

pub same_mark : (a b : StateMarks) → key_of a ≡ key_of b → a ≡ b
same_mark a b e =
    let x = same_leaf a.accept b.accept (cc) (cc) in
    let y = same_leaf a.early b.early (cc) (cc) in
    λ i. record { accept = x i; early = y i }

pub got_front : (ks ys : List (List ℕ)) (i : ℕ) (k : List ℕ) → slice_get ks i ≡ Some k → slice_get (ks ++ ys) i ≡ Some k
got_front [] ys i k h = absurd (cc)
got_front (x ∷ ks) ys zero k h = h
got_front (x ∷ ks) ys (suc i) k h = got_front ks ys i k h

got_push : (ks : List (List ℕ)) (y : List ℕ) (i : ℕ) (k : List ℕ) → slice_get (ks ++ y ∷ []) i ≡ Some k → (slice_get ks i ≡ Some k) ⊎ ((i ≡ length ks) × (k ≡ y))
got_push [] y zero k h = inr (refl, cc)
got_push [] y (suc i) k h = absurd (cc)
got_push (x ∷ ks) y zero k h = inl h
got_push (x ∷ ks) y (suc i) k h = go (got_push ks y i k h)
  where
    go : (slice_get ks i ≡ Some k) ⊎ ((i ≡ length ks) × (k ≡ y)) → (slice_get ks i ≡ Some k) ⊎ ((suc i ≡ length (x ∷ ks)) × (k ≡ y))
    go (inl e) = inl e
    go (inr e) = inr (let q = e.0 in omega arith, e.1)

none_like : (y : List ℕ) (ks : List (List ℕ)) (i : ℕ) → list_any (pointwise nat_eq y) ks ≡ false → slice_get ks i ≡ Some y → ⊥
none_like y [] i none h = absurd (cc)
none_like y (x ∷ ks) zero none h =
    let e : y ≡ x = cc in
    let t : pointwise nat_eq y x ≡ true = (bytes_decides y x).1 e in
    first (pointwise nat_eq y x) (list_any (pointwise nat_eq y) ks) t none
  where
    first : (a b : Bool) → a ≡ true → (a || b) ≡ false → ⊥
    first true b t e = cc
    first false b t e = cc
none_like y (x ∷ ks) (suc i) none h = none_like y ks i (later (pointwise nat_eq y x) _ none) h
  where
    later : (a b : Bool) → (a || b) ≡ false → b ≡ false
    later true b e = absurd (cc)
    later false b e = e

pub got_below : (ks : List (List ℕ)) (i : ℕ) (k : List ℕ) → slice_get ks i ≡ Some k → i < length ks
got_below [] i k h = absurd (cc)
got_below (x ∷ ks) zero k h = omega arith
got_below (x ∷ ks) (suc i) k h = let l = got_below ks i k h in omega arith

-- one state more
pub keys_more : (table : Table) (s : ℕ) (blocks blocks' : List ℕ) (keys keys' : List (List ℕ)) (block : ℕ) (stored : List ℕ) → AreKeyNumbers table s blocks keys → length blocks ≡ s →
    blocks' ≡ blocks ++ block ∷ [] → keys' ≡ (if list_any (pointwise nat_eq (key_of (mark table s))) keys then keys else keys ++ key_of (mark table s) ∷ []) →
    slice_get keys' block ≡ Some stored → pointwise nat_eq (key_of (mark table s)) stored ≡ true → AreKeyNumbers table (s + 1) blocks' keys'
keys_more table s blocks blocks' keys keys' block stored h len e grown at like = record {
  keyed = λ t l. keyed t l (cases_lt t s);
  distinct = λ i j k p q. distinct_added (list_any (pointwise nat_eq y) keys) refl i j k (rw grown at p) (rw grown at q);
}
  where
    y : List ℕ
    y = key_of (mark table s)

    kept : (b : Bool) (i : ℕ) (k : List ℕ) → slice_get keys i ≡ Some k → slice_get (if b then keys else keys ++ y ∷ []) i ≡ Some k
    kept true i k g = g
    kept false i k g = got_front keys (y ∷ []) i k g

    one : y ≡ stored
    one = (bytes_decides y stored).0 like

    keyed : (t : ℕ) → t < s + 1 → (t < s) ⊎ (s ≤ t) → slice_get keys' (slice_index blocks' t) ≡ Some (key_of (mark table t))
    keyed t l (inl m) =
        let old : slice_index blocks' t ≡ slice_index blocks t = ap (λ xs. slice_index xs t) e ∙ get_or_append_left blocks (block ∷ []) 0 t (omega arith) in
        ap (slice_get keys') old ∙ ap (λ xs. slice_get xs (slice_index blocks t)) grown ∙ kept (list_any (pointwise nat_eq y) keys) (slice_index blocks t) (key_of (mark table t)) (h.keyed t m)
    keyed t l (inr m) =
        let same : t ≡ s = omega arith in
        let new : slice_index blocks' t ≡ block = ap (λ xs. slice_index xs t) e ∙ ap (slice_index (blocks ++ block ∷ [])) same ∙ get_or_push blocks block 0 s len in
        ap (slice_get keys') new ∙ at ∙ ap Some (sym one) ∙ ap (λ t. Some (key_of (mark table t))) (sym same)

    distinct_added : (b : Bool) → list_any (pointwise nat_eq y) keys ≡ b → (i j : ℕ) (k : List ℕ) →
        slice_get (if b then keys else keys ++ y ∷ []) i ≡ Some k → slice_get (if b then keys else keys ++ y ∷ []) j ≡ Some k → i ≡ j
    distinct_added true none i j k p q = h.distinct i j k p q
    distinct_added false none i j k p q = go (got_push keys y i k p) (got_push keys y j k q)
      where
        go : (slice_get keys i ≡ Some k) ⊎ ((i ≡ length keys) × (k ≡ y)) → (slice_get keys j ≡ Some k) ⊎ ((j ≡ length keys) × (k ≡ y)) → i ≡ j
        go (inl a) (inl b) = h.distinct i j k a b
        go (inl a) (inr b) = absurd (none_like y keys i none (a ∙ ap Some b.1))
        go (inr a) (inl b) = absurd (none_like y keys j none (b ∙ ap Some a.1))
        go (inr a) (inr b) = a.0 ∙ sym b.0

module _ (table : Table) (blocks : List ℕ) (keys : List (List ℕ)) (h : AreKeyNumbers table (size table) blocks keys) where
  -- states of one key have one mark
  key_marks : HaveMarks table (slice_index blocks)
  key_marks s t hs ht e =
      let x = h.keyed s hs in
      let y = h.keyed t ht in
      let z : Some (key_of (mark table s)) ≡ Some (key_of (mark table t)) = sym x ∙ ap (slice_get keys) e ∙ y in
      same_mark (mark table s) (mark table t) (cc)

  -- and states with one mark have one key
  mark_keys : (s t : ℕ) → s < size table → t < size table → mark table s ≡ mark table t → slice_index blocks s ≡ slice_index blocks t
  mark_keys s t hs ht e =
      h.distinct (slice_index blocks s) (slice_index blocks t) (key_of (mark table t)) (h.keyed s hs ∙ ap (λ m. Some (key_of m)) e) (h.keyed t ht)

  -- when there were j blocks the others were still in block 0
  early_block : ℕ → ℕ → ℕ
  early_block j s = if nat_lt (slice_index blocks s) j then slice_index blocks s else 0

  pub sound_by_marks : (splits : List Split) → ((s : ℕ) → s < size table → slice_index blocks s < length splits) →
      ((j : ℕ) → split_at splits j ≡ record { parent = 0; symbol = None }) → IsSound table splits (slice_index blocks)
  unfolding early_block
  sound_by_marks splits within by = record {
    history = record {
      at = early_block;
      last = λ s l. let m = within s l in let t : nat_lt (slice_index blocks s) (length splits) ≡ true = grind (arith, nat_tests) in rw t refl;
      below = λ j s some few l. below j s some (cases_lt (slice_index blocks s) j);
      step = λ j s some few l. step j s some (cases_lt (slice_index blocks s) j) (cases_lt (slice_index blocks s) (j + 1));
      parted = λ j s t some few hs ht e q. parted j s t some hs ht e q;
    };
    marks = key_marks;
  }
    where
      is_new : (j s : ℕ) → early_block (j + 1) s ≡ j → 0 < j → slice_index blocks s ≡ j
      is_new j s e l = go (cases_lt (slice_index blocks s) (j + 1))
        where
          go : (slice_index blocks s < j + 1) ⊎ (j + 1 ≤ slice_index blocks s) → slice_index blocks s ≡ j
          go (inl m) = let t : nat_lt (slice_index blocks s) (j + 1) ≡ true = grind (arith, nat_tests) in rw t at e
          go (inr m) = let t : nat_lt (slice_index blocks s) (j + 1) ≡ false = grind (arith, nat_tests) in let q : 0 ≡ j = rw t at e in absurd (omega arith)

      below : (j s : ℕ) → 0 < j → (slice_index blocks s < j) ⊎ (j ≤ slice_index blocks s) → early_block j s < j
      below j s l (inl m) = let t : nat_lt (slice_index blocks s) j ≡ true = grind (arith, nat_tests) in rw t m
      below j s l (inr m) = let t : nat_lt (slice_index blocks s) j ≡ false = grind (arith, nat_tests) in rw t l

      step : (j s : ℕ) → 0 < j → (slice_index blocks s < j) ⊎ (j ≤ slice_index blocks s) → (slice_index blocks s < j + 1) ⊎ (j + 1 ≤ slice_index blocks s) →
          (early_block (j + 1) s ≡ early_block j s) ⊎ ((early_block (j + 1) s ≡ j) × (early_block j s ≡ (split_at splits j).parent))
      step j s l (inl m) n =
          let t : nat_lt (slice_index blocks s) j ≡ true = grind (arith, nat_tests) in
          let u : nat_lt (slice_index blocks s) (j + 1) ≡ true = grind (arith, nat_tests) in
          inl (rw (t, u) refl)
      step j s l (inr m) (inl n) =
          let t : nat_lt (slice_index blocks s) j ≡ false = grind (arith, nat_tests) in
          let u : nat_lt (slice_index blocks s) (j + 1) ≡ true = grind (arith, nat_tests) in
          let z : (split_at splits j).parent ≡ 0 = ap (λ (x : Split). x.parent) (by j) in
          inr (rw u (omega arith), rw t (sym z))
      step j s l (inr m) (inr n) =
          let t : nat_lt (slice_index blocks s) j ≡ false = grind (arith, nat_tests) in
          let u : nat_lt (slice_index blocks s) (j + 1) ≡ false = grind (arith, nat_tests) in
          inl (rw (t, u) refl)

      parted : (j s t : ℕ) → 0 < j → s < size table → t < size table → early_block (j + 1) s ≡ j → early_block (j + 1) t ≡ (split_at splits j).parent →
          ArePartedBy table (early_block j) (split_at splits j).symbol s t
      parted j s t l hs ht e q =
          let none : None ≡ (split_at splits j).symbol = ap (λ (x : Split). x.symbol) (sym (by j)) in
          let z : (split_at splits j).parent ≡ 0 = ap (λ (x : Split). x.parent) (by j) in
          subst (λ k. ArePartedBy table (early_block j) k s t) none
          (λ m. let same = mark_keys s t hs ht m in
          let old : slice_index blocks s ≡ j = is_new j s e l in
          let new : early_block (j + 1) t ≡ j = new_block same old in
          omega arith)
        where
          new_block : slice_index blocks s ≡ slice_index blocks t → slice_index blocks s ≡ j → early_block (j + 1) t ≡ j
          new_block same old =
              let u : nat_lt (slice_index blocks t) (j + 1) ≡ true = grind (arith, nat_tests) in
              rw u (sym same ∙ old)
