-- States of one class are in one block.
use Rattle.std.proofs.Common.{◌≡◌, ℕ, ◌+◌, ◌<◌, ◌≤◌, ◌⊎◌, inl, inr, Bool, true, false, if◌then◌else◌, List, [], ◌∷◌, ◌++◌, length, Option, Some, None, option_map, slice_get, slice_index, slice_index_or, nat_eq, refl, sym, ◌∙◌, ap, arith}
use Rattle.std.specs.List.{list_any}
use Rattle.std.proofs.lemmas.Bool.{cases_lt}
use Rattle.std.proofs.lemmas.List.{get_or_append_left, get_or_push, length-append}
use lib.Pointwise.{pointwise, bytes_decides}
use Rattle.logos_reduce.specs.Merge.{target_block, split_at, ArePartedBy, AreLeaders, HaveMarks, IsHistory, IsMerged}
use Rattle.logos_reduce.specs.Rows.{target_by}
use Rattle.logos_reduce.specs.RowsView.{rows_of}
use Rattle.logos_reduce.specs.Table.{size, to, mark}
use Rattle.logos_reduce.specs.inside.Classes.{class_key, AreKeyed, AreClasses, IsClassTable}
use Rattle.logos_reduce.specs.declared.merge.blocks.Split.{Split}
use Rattle.logos_reduce.specs.declared.table.Table.{Table}
use Rattle.logos_reduce.proofs.merging.KeyLemmas.{got_front, same_mark}
use Rattle.logos_reduce.proofs.tables.EdgeLemmas.{edge_within}
use Rattle.logos_reduce.proofs.tables.RowLemmas.{row_placed, rows_length}

-- one state more
pub keyed_more : (table : Table) (s : ℕ) (of of' : List ℕ) (keys keys' : List (List ℕ)) (class : ℕ) (stored : List ℕ) → AreKeyed table s of keys → length of ≡ s →
    of' ≡ of ++ class ∷ [] → keys' ≡ (if list_any (pointwise nat_eq (class_key table s)) keys then keys else keys ++ class_key table s ∷ []) →
    slice_get keys' class ≡ Some stored → pointwise nat_eq (class_key table s) stored ≡ true → AreKeyed table (s + 1) of' keys'
keyed_more table s of of' keys keys' class stored h len e grown at like = record {
  keyed = λ t l. keyed t l (cases_lt t s);
  few = let n = few (list_any (pointwise nat_eq y) keys) in let q = ap length grown in omega arith;
}
  where
    y : List ℕ
    y = class_key table s

    few : (b : Bool) → length (if b then keys else keys ++ y ∷ []) ≤ s + 1
    few true = let n = h.few in omega arith
    few false = let n = h.few in let q = length-append keys (y ∷ []) in omega arith

    stays : (b : Bool) (i : ℕ) (k : List ℕ) → slice_get keys i ≡ Some k → slice_get (if b then keys else keys ++ y ∷ []) i ≡ Some k
    stays true i k g = g
    stays false i k g = got_front keys (y ∷ []) i k g

    one : y ≡ stored
    one = (bytes_decides y stored).0 like

    keyed : (t : ℕ) → t < s + 1 → (t < s) ⊎ (s ≤ t) → slice_get keys' (slice_index of' t) ≡ Some (class_key table t)
    keyed t l (inl m) =
        let old : slice_index of' t ≡ slice_index of t = ap (λ (xs : List ℕ). slice_index xs t) e ∙ get_or_append_left of (class ∷ []) 0 t (omega arith) in
        ap (slice_get keys') old ∙ ap (λ xs. slice_get xs (slice_index of t)) grown ∙ stays (list_any (pointwise nat_eq y) keys) (slice_index of t) (class_key table t) (h.keyed t m)
    keyed t l (inr m) =
        let same : t ≡ s = omega arith in
        let new : slice_index of' t ≡ class = ap (λ xs. slice_index xs t) e ∙ ap (slice_index (of ++ class ∷ [])) same ∙ get_or_push of class 0 s len in
        ap (slice_get keys') new ∙ at ∙ ap Some (sym one) ∙ ap (λ t. Some (class_key table t)) (sym same)

-- states with one key have one mark and one row
pub keyed_classes : (table : Table) (of : List ℕ) (keys : List (List ℕ)) → AreKeyed table (size table) of keys → AreClasses table (slice_index of)
keyed_classes table of keys h = record {
  marks = λ s t hs ht e. let z = one_key s t hs ht e in same_mark (mark table s) (mark table t) (cc);
  edges = λ s t k hs ht e.
      let z = one_key s t hs ht e in
      let same : slice_index table.rows.slots.items s ≡ slice_index table.rows.slots.items t = cc in
      ap (λ (row : List ℕ). target_by row k) (row_at s hs ∙ ap (λ (i : ℕ). slice_index_or table.rows.distinct.keys.items i []) same ∙ sym (row_at t ht));
}
  where
    one_key : (s t : ℕ) → s < size table → t < size table → slice_index of s ≡ slice_index of t → Some (class_key table s) ≡ Some (class_key table t)
    one_key s t hs ht e = sym (h.keyed s hs) ∙ ap (slice_get keys) e ∙ h.keyed t ht

    row_at : (s : ℕ) → s < size table → slice_index_or (rows_of table.rows) s [] ≡ slice_index_or table.rows.distinct.keys.items (slice_index table.rows.slots.items s) []
    row_at s l =
        let n = table.same_len in
        let m = rows_length table.rows.slots.items table.rows.distinct.keys.items in
        row_placed table.rows.slots.items table.rows.distinct.keys.items s (omega arith)

module _ (table small : Table) (splits : List Split) (b leads class block : ℕ → ℕ) (m : IsMerged small splits b leads) (x : IsClassTable table class small)
    (inside : (s : ℕ) → s < size table → class s < size small) (is : (s : ℕ) → s < size table → block s ≡ b (class s)) where
  h : IsHistory small splits b
  h = m.sound.history

  led : (f : ℕ → ℕ) (s k : ℕ) → s < size table → target_block table (λ t. f (class t)) s k ≡ target_block small f (class s) k
  led f s k l = go (to table s k) ∙ sym (ap (option_map f) (x.edges s k l))
    where
      go : (o : Option ℕ) → option_map (λ t. f (class t)) o ≡ option_map f (option_map class o)
      go None = refl
      go (Some t) = refl

  apart : (j s t : ℕ) (k : Option ℕ) → s < size table → t < size table → ArePartedBy small (h.at j) k (class s) (class t) → ArePartedBy table (λ u. h.at j (class u)) k s t
  apart j s t None hs ht d = λ e. d (x.marks s hs ∙ e ∙ sym (x.marks t ht))
  apart j s t (Some k) hs ht d = λ e. d (sym (led (h.at j) s k hs) ∙ e ∙ led (h.at j) t k ht)

  history : IsHistory table splits block
  history = record {
    at = λ j s. h.at j (class s);
    last = λ s l. h.last (class s) (inside s l) ∙ sym (is s l);
    below = λ j s p q l. h.below j (class s) p q (inside s l);
    step = λ j s p q l. h.step j (class s) p q (inside s l);
    parted = λ j s t p q hs ht e f. apart j s t (split_at splits j).symbol hs ht (h.parted j (class s) (class t) p q (inside s hs) (inside t ht) e f);
  }

  marks : HaveMarks table block
  marks s t hs ht e = sym (x.marks s hs) ∙ m.sound.marks (class s) (class t) (inside s hs) (inside t ht) (sym (is s hs) ∙ e ∙ is t ht) ∙ x.marks t ht

  led_block : (s k : ℕ) → s < size table → target_block table block s k ≡ target_block small b (class s) k
  led_block s k l = go (to table s k) refl ∙ led b s k l
    where
      go : (o : Option ℕ) → to table s k ≡ o → option_map block o ≡ option_map (λ t. b (class t)) o
      go None e = refl
      go (Some t) e = ap Some (is t (edge_within table s k t e).1)

  -- the blocks of the classes are those of their states
  pub merged_by_class : (leader : ℕ → ℕ) → AreLeaders (size table) block leader → IsMerged table splits block leader
  merged_by_class leader lead = record {
    sound = record { history = history; marks = marks };
    within = λ s l. let w = m.within (class s) (inside s l) in let e = is s l in omega arith;
    leaders = lead;
    alike = λ s k l.
        let t = leader (block s) in
        let p = lead s l in
        let same : b (class s) ≡ b (class t) = sym (is s l) ∙ sym p.1 ∙ is t p.0 in
        led_block s k l ∙ m.alike (class s) k (inside s l) ∙ ap (λ (j : ℕ). target_block small b (leads j) k) same ∙ sym (m.alike (class t) k (inside t p.0)) ∙ sym (led_block t k p.0);
  }
