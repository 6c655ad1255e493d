-- The distinction of two states of a reduced table: step by step, by the splits that parted them.
use Rattle.std.proofs.Common.{◌≡◌, ◌≢◌, ℕ, zero, suc, ◌<◌, ◌≤◌, ◌+◌, ◌-◌, ◌⊎◌, inl, inr, true, false, List, [], ◌∷◌, ◌++◌, length, slice_index, Option, Some, None, option_map, option_and_then, refl, sym, ◌∙◌, ap, subst, arith}
use Rattle.std.specs.List.{All}
use Rattle.std.proofs.lemmas.Bool.{cases_lt}
use Rattle.std.proofs.lemmas.List.{length-append}
use Rattle.std.proofs.lemmas.List.Elements.{All-nil, All-push}
use Rattle.logos_reduce.specs.Merge.{target_block, ArePartedBy, split_at}
use Rattle.logos_reduce.specs.Table.{size, to, mark}
use Rattle.logos_reduce.specs.History.{HistoryOf, YieldsEvidence}
use Rattle.logos_reduce.specs.Evidence.{mark_with_end, mark_after, IsEvidence}
use Rattle.logos_reduce.specs.SymbolWords.{state_after, WordDistinguishes}
use Rattle.logos_reduce.specs.inside.Count.{count_blocks}
use Rattle.logos_reduce.specs.inside.Evidence.{ArePartedAt}
use Rattle.logos_reduce.specs.declared.reduction.Reduction.{Reduction}
use Rattle.logos_reduce.specs.declared.table.StateMarks.{StateMarks}
use Rattle.logos_reduce.specs.declared.table.Table.{Table}
use Rattle.logos_reduce.proofs.merging.CountLemmas.{blocks_le, blocks_lt, blocks_few, blocks_some}
use Rattle.logos_reduce.proofs.tables.EdgeLemmas.{edge_within, edge_symbol}
use Rattle.logos_reduce.proofs.words.WordLemmas.{all_distinguished, history_finer}

abbrev AreBytes : List ℕ → Type 0
AreBytes bytes = All (λ b. b < 256) bytes

pub reached_append : (table : Table) (xs ys : List ℕ) (o : Option ℕ) → state_after table o (xs ++ ys) ≡ state_after table (state_after table o xs) ys
reached_append table xs ys None = refl
reached_append table [] ys (Some s) = refl
reached_append table (k ∷ xs) ys (Some s) = reached_append table xs ys (to table s k)

-- a symbol that parts two states
pub parting_symbol : (table : Table) (f : ℕ → ℕ) (k s t : ℕ) → target_block table f s k ≢ target_block table f t k → k < 257
parting_symbol table f k s t d = go (to table s k) refl (to table t k) refl
  where
    go : (o : Option ℕ) → to table s k ≡ o → (p : Option ℕ) → to table t k ≡ p → k < 257
    go None e None q = absurd (d (ap (option_map f) (e ∙ sym q)))
    go (Some a) e p q = edge_symbol table s k a e
    go None e (Some b) q = edge_symbol table t k b q

-- the states that one more step reaches
reached_on : (table : Table) (s left k : ℕ) (bytes : List ℕ) (o : Option ℕ) → state_after table (Some s) bytes ≡ Some left → to table left k ≡ o → state_after table (Some s) (bytes ++ k ∷ []) ≡ o
reached_on table s left k bytes o way e =
    reached_append table bytes (k ∷ []) (Some s) ∙ ap (λ (o : Option ℕ). state_after table o (k ∷ [])) way ∙ ap (λ (o : Option ℕ). state_after table o []) e ∙ same o
  where
    same : (o : Option ℕ) → state_after table o [] ≡ o
    same None = refl
    same (Some a) = refl

-- the facts once bytes lead from two states to others that are still to be distinguished
pub record IsStage (r : Reduction) (h : HistoryOf r) (s t : ℕ) (bytes : List ℕ) (left right : ℕ) : Type 0 where
  pub ok : AreBytes bytes
  pub left_in : left < size r.table
  pub right_in : right < size r.table
  pub left_way : state_after r.table (Some s) bytes ≡ Some left
  pub right_way : state_after r.table (Some t) bytes ≡ Some right
  pub time : ℕ
  pub late : time ≤ length r.splits.items
  pub early : 0 < time
  pub apart : h.at time left ≢ h.at time right
  pub short : length bytes + count_blocks (size r.table) (h.at time) ≤ size r.table

-- the lemma above with another history
abbrev pub with_history : (r : Reduction) → YieldsEvidence r → HistoryOf r → YieldsEvidence r
with_history r x h = record { history = h; some = x.some; states = x.states; different = x.different; ends = x.ends }

module _ (r : Reduction) (evidence : YieldsEvidence r) where
  abbrev h : HistoryOf r
  h = evidence.history

  -- blocks stay apart
  stays_apart : (d j s t : ℕ) → 0 < j → j + d ≤ length r.splits.items → s < size r.table → t < size r.table → h.at j s ≢ h.at j t → h.at (j + d) s ≢ h.at (j + d) t
  stays_apart zero j s t p l ls lt a = subst (λ (i : ℕ). h.at i s ≢ h.at i t) (omega arith) a
  stays_apart (suc d) j s t p l ls lt a = λ e. stays_apart d j s t p (omega arith) ls lt a
      (history_finer r.table r.splits.items (slice_index r.blocks.items) h (j + d) (omega arith) (omega arith) s t ls lt
      (subst (λ (i : ℕ). h.at i s ≡ h.at i t) (omega arith) e))

  -- there are at most as many blocks before
  fewer_before : (d j : ℕ) → 0 < j → j + d ≤ length r.splits.items → count_blocks (size r.table) (h.at j) ≤ count_blocks (size r.table) (h.at (j + d))
  fewer_before zero j p l = let e : j ≡ j + zero = omega arith in let q = ap (λ (i : ℕ). count_blocks (size r.table) (h.at i)) e in omega arith
  fewer_before (suc d) j p l =
      let a = fewer_before d j p (omega arith) in
      let b = blocks_le (size r.table) (h.at (j + d + 1)) (h.at (j + d)) (history_finer r.table r.splits.items (slice_index r.blocks.items) h (j + d) (omega arith) (omega arith)) in
      let e : j + d + 1 ≡ j + suc d = omega arith in
      let q = ap (λ (i : ℕ). count_blocks (size r.table) (h.at i)) e in
      omega arith

  -- the stage before the first step
  pub first_stage : (s t : ℕ) → s < size r.table → t < size r.table → s ≢ t → IsStage r h s t [] s t
  first_stage s t ls lt d = record {
    ok = All-nil (λ b. b < 256);
    left_in = ls;
    right_in = lt;
    left_way = refl;
    right_way = refl;
    time = length r.splits.items;
    late = omega arith;
    early = evidence.some;
    apart = λ e. evidence.different s t ls lt d (sym (h.last s ls) ∙ e ∙ h.last t lt);
    short = let w = blocks_few (size r.table) (h.at (length r.splits.items)) in omega arith;
  }

  module _ (s t : ℕ) (bytes : List ℕ) (left right j : ℕ) (x : IsStage r h s t bytes left right) (p : ArePartedAt r left right j) where
    -- the states fell apart before they were seen apart
    pub earlier : j < x.time
    earlier = go (cases_lt j x.time)
      where
        go : (j < x.time) ⊎ (x.time ≤ j) → j < x.time
        go (inl l) = l
        go (inr l) =
            let i = p.inside in
            let e : x.time + (j - x.time) ≡ j = omega arith in
            absurd (stays_apart (j - x.time) x.time left right x.early (omega arith) x.left_in x.right_in x.apart (subst (λ (i : ℕ). h.at i left ≡ h.at i right) (sym e) (p.together h)))

    -- one byte more leaves room
    pub room : length bytes + 1 + count_blocks (size r.table) (h.at j) ≤ size r.table
    room =
        let i = p.inside in
        let l = earlier in
        let late = x.late in
        let e : j + 1 + (x.time - (j + 1)) ≡ x.time = omega arith in
        let a = fewer_before (x.time - (j + 1)) (j + 1) (omega arith) (omega arith) in
        let q = ap (λ (i : ℕ). count_blocks (size r.table) (h.at i)) e in
        let b = blocks_lt (size r.table) (h.at (j + 1)) (h.at j) (history_finer r.table r.splits.items (slice_index r.blocks.items) h j p.some i) left right x.left_in x.right_in (p.together h) (p.later h) in
        let c = x.short in
        omega arith

    few : length bytes + 1 < size r.table
    few = let a = room in let l = x.left_in in let b = blocks_some (size r.table) (h.at j) (omega arith) in omega arith

    pub shown_by_marks : (split_at r.splits.items j).symbol ≡ None → IsEvidence r.table s t bytes false
    shown_by_marks e = record {
      are_bytes = x.ok;
      distinguishes = λ q.
          let z : Some (mark r.table left) ≡ Some (mark r.table right) =
          sym (ap (option_and_then (λ t. mark_with_end r.table t false)) x.left_way) ∙ q ∙ ap (option_and_then (λ t. mark_with_end r.table t false)) x.right_way in
          subst (λ (o : Option ℕ). ArePartedBy r.table (h.at j) o left right) e (p.parted h) (cc);
      short = let w = few in omega arith;
    }

    pub by_symbol : (k : ℕ) → (split_at r.splits.items j).symbol ≡ Some k → target_block r.table (h.at j) left k ≢ target_block r.table (h.at j) right k
    by_symbol k e = subst (λ (o : Option ℕ). ArePartedBy r.table (h.at j) o left right) e (p.parted h)

    pub symbol_in : (k : ℕ) → (split_at r.splits.items j).symbol ≡ Some k → k < 257
    symbol_in k e = parting_symbol r.table (h.at j) k left right (by_symbol k e)

    -- after the end there are only marks
    nothing_on : (u a : ℕ) (word : List ℕ) (k : ℕ) → to r.table u 256 ≡ Some a → option_map (mark r.table) (state_after r.table (Some a) (k ∷ word)) ≡ None
    nothing_on u a word k e = ap (λ (o : Option ℕ). option_map (mark r.table) (state_after r.table o word)) (evidence.ends u a k e)

    marks_differ : (u v a b : ℕ) (word : List ℕ) → to r.table u 256 ≡ Some a → to r.table v 256 ≡ Some b → WordDistinguishes r.table a b word → mark r.table a ≢ mark r.table b
    marks_differ u v a b [] e f d = λ q. d (ap Some q)
    marks_differ u v a b (k ∷ word) e f d = absurd (d (nothing_on u a word k e ∙ sym (nothing_on v b word k f)))

    end_differs : target_block r.table (h.at j) left 256 ≢ target_block r.table (h.at j) right 256 → mark_with_end r.table left true ≢ mark_with_end r.table right true
    end_differs d q = go (to r.table left 256) refl (to r.table right 256) refl
      where
        go : (o : Option ℕ) → to r.table left 256 ≡ o → (p : Option ℕ) → to r.table right 256 ≡ p → ⊥
        go None e None f = d (ap (option_map (h.at j)) (e ∙ sym f))
        go (Some a) e None f = let z : Some (mark r.table a) ≡ None = sym (ap (option_map (mark r.table)) e) ∙ q ∙ ap (option_map (mark r.table)) f in absurd (cc)
        go None e (Some b) f = let z : None ≡ Some (mark r.table b) = sym (ap (option_map (mark r.table)) e) ∙ q ∙ ap (option_map (mark r.table)) f in absurd (cc)
        go (Some a) e (Some b) f =
            let z : Some (mark r.table a) ≡ Some (mark r.table b) = sym (ap (option_map (mark r.table)) e) ∙ q ∙ ap (option_map (mark r.table)) f in
            let i = p.inside in
            let w = all_distinguished r.table r.splits.items (slice_index r.blocks.items) h j p.some (omega arith) a b (edge_within r.table left 256 a e).1 (edge_within r.table right 256 b f).1
            (λ same. d (ap (option_map (h.at j)) e ∙ ap Some same ∙ sym (ap (option_map (h.at j)) f))) in
            marks_differ left right a b w.0 e f w.2 (cc)

    pub shown_by_end : (k : ℕ) → (split_at r.splits.items j).symbol ≡ Some k → k ≡ 256 → IsEvidence r.table s t bytes true
    shown_by_end k e same = record {
      are_bytes = x.ok;
      distinguishes = λ q.
          end_differs (subst (λ (k : ℕ). target_block r.table (h.at j) left k ≢ target_block r.table (h.at j) right k) same (by_symbol k e))
          (sym (ap (option_and_then (λ t. mark_with_end r.table t true)) x.left_way) ∙ q ∙ ap (option_and_then (λ t. mark_with_end r.table t true)) x.right_way);
      short = let w = few in omega arith;
    }

    ok_on : (k : ℕ) → k < 256 → AreBytes (bytes ++ k ∷ [])
    ok_on k l = All-push (λ b. b < 256) bytes k x.ok l

    longer : (k : ℕ) → length (bytes ++ k ∷ []) ≡ length bytes + 1
    longer k = omega (arith, length-append bytes (k ∷ []))

    pub shown_by_byte : (k : ℕ) → (split_at r.splits.items j).symbol ≡ Some k → k < 256 → (to r.table left k ≡ None) ⊎ (to r.table right k ≡ None) → IsEvidence r.table s t (bytes ++ k ∷ []) false
    shown_by_byte k e l none = record {
      are_bytes = ok_on k l;
      distinguishes = differ (to r.table left k) refl (to r.table right k) refl none;
      short = let w = few in let n = longer k in omega arith;
    }
      where
        after : (u v : ℕ) (o : Option ℕ) → state_after r.table (Some u) bytes ≡ Some v → to r.table v k ≡ o → mark_after r.table u (bytes ++ k ∷ []) false ≡ option_and_then (λ t. mark_with_end r.table t false) o
        after u v o way q = ap (option_and_then (λ t. mark_with_end r.table t false)) (reached_on r.table u v k bytes o way q)

        clash : (m : StateMarks) (o : Option StateMarks) → o ≡ None → o ≡ Some m → ⊥
        clash m o a b = cc

        differ : (o : Option ℕ) → to r.table left k ≡ o → (p : Option ℕ) → to r.table right k ≡ p → (to r.table left k ≡ None) ⊎ (to r.table right k ≡ None) →
            mark_after r.table s (bytes ++ k ∷ []) false ≢ mark_after r.table t (bytes ++ k ∷ []) false
        differ None a None b n = absurd (by_symbol k e (ap (option_map (h.at j)) (a ∙ sym b)))
        differ (Some y) a None b n = λ q. clash (mark r.table y) _ (after t right None x.right_way b) (sym q ∙ after s left (Some y) x.left_way a)
        differ None a (Some z) b n = λ q. clash (mark r.table z) _ (after s left None x.left_way a) (q ∙ after t right (Some z) x.right_way b)
        differ (Some y) a (Some z) b (inl n) = absurd (cc)
        differ (Some y) a (Some z) b (inr n) = absurd (cc)

    pub next_stage : (k a b : ℕ) → (split_at r.splits.items j).symbol ≡ Some k → k < 256 → to r.table left k ≡ Some a → to r.table right k ≡ Some b → IsStage r h s t (bytes ++ k ∷ []) a b
    next_stage k a b e l q w = record {
      ok = ok_on k l;
      left_in = (edge_within r.table left k a q).1;
      right_in = (edge_within r.table right k b w).1;
      left_way = reached_on r.table s left k bytes (Some a) x.left_way q;
      right_way = reached_on r.table t right k bytes (Some b) x.right_way w;
      time = j;
      late = let i = p.inside in omega arith;
      early = p.some;
      apart = λ same. by_symbol k e (ap (option_map (h.at j)) q ∙ ap Some same ∙ sym (ap (option_map (h.at j)) w));
      short = let a = room in let n = longer k in omega arith;
    }

  pub still_apart : (s t : ℕ) (bytes : List ℕ) (left right : ℕ) → IsStage r h s t bytes left right → left ≢ right
  still_apart s t bytes left right x e = x.apart (ap (h.at x.time) e)

  -- there is room for one byte more
  pub stage_short : (s t : ℕ) (bytes : List ℕ) (left right : ℕ) → IsStage r h s t bytes left right → length bytes < size r.table
  stage_short s t bytes left right x = let a = x.short in let l = x.left_in in let b = blocks_some (size r.table) (h.at x.time) (omega arith) in omega arith

-- one of the states was in the high block, and the other one in the low one
pub record ArePlaced (r : Reduction) (h : HistoryOf r) (s t low high : ℕ) : Type 0 where
  pub order : low < high
  pub inside : high < length r.splits.items
  pub placed : ((h.at (high + 1) s ≡ high) × (h.at (high + 1) t ≡ low)) ⊎ ((h.at (high + 1) s ≡ low) × (h.at (high + 1) t ≡ high))

module _ (r : Reduction) (h : HistoryOf r) where
  -- a block that is there stays the same back to its own time
  same_before : (d j s b : ℕ) → b < j → j + d ≤ length r.splits.items → s < size r.table → h.at (j + d) s ≡ b → h.at j s ≡ b
  same_before zero j s b p l hs e = subst (λ (i : ℕ). h.at i s ≡ b) (omega arith) e
  same_before (suc d) j s b p l hs e = same_before d j s b p (omega arith) hs (go (h.step (j + d) s (omega arith) (omega arith) hs))
    where
      e' : h.at (j + d + 1) s ≡ b
      e' = let q : j + suc d ≡ j + d + 1 = omega arith in subst (λ (i : ℕ). h.at i s ≡ b) q e

      go : (h.at (j + d + 1) s ≡ h.at (j + d) s) ⊎ ((h.at (j + d + 1) s ≡ j + d) × (h.at (j + d) s ≡ (split_at r.splits.items (j + d)).parent)) → h.at (j + d) s ≡ b
      go (inl q) = sym q ∙ e'
      go (inr q) = let a = q.0 in let w = e' in absurd (omega arith)

  -- two blocks at a time, as the high one came
  pub placed_at : (time s t a b low high : ℕ) → time ≤ length r.splits.items → s < size r.table → t < size r.table → h.at time s ≡ a → h.at time t ≡ b → a < time → b < time →
      low < high → ((low ≡ a) × (high ≡ b)) ⊎ ((low ≡ b) × (high ≡ a)) → ArePlaced r h s t low high
  placed_at time s t a b low high l hs ht ea eb la lb o (inl x) =
      let p = x.0 in let q = x.1 in
      let w : high + 1 + (time - (high + 1)) ≡ time = omega arith in
      record {
        order = o;
        inside = omega arith;
        placed = inr (
          same_before (time - (high + 1)) (high + 1) s low (omega arith) (omega arith) hs (ap (λ (i : ℕ). h.at i s) w ∙ ea ∙ sym p),
          same_before (time - (high + 1)) (high + 1) t high (omega arith) (omega arith) ht (ap (λ (i : ℕ). h.at i t) w ∙ eb ∙ sym q),
        );
      }
  placed_at time s t a b low high l hs ht ea eb la lb o (inr x) =
      let p = x.0 in let q = x.1 in
      let w : high + 1 + (time - (high + 1)) ≡ time = omega arith in
      record {
        order = o;
        inside = omega arith;
        placed = inl (
          same_before (time - (high + 1)) (high + 1) s high (omega arith) (omega arith) hs (ap (λ (i : ℕ). h.at i s) w ∙ ea ∙ sym q),
          same_before (time - (high + 1)) (high + 1) t low (omega arith) (omega arith) ht (ap (λ (i : ℕ). h.at i t) w ∙ eb ∙ sym p),
        );
      }

  -- before the high block came, its states were in its parent
  pub parent_before : (s high : ℕ) → 0 < high → high < length r.splits.items → s < size r.table → h.at (high + 1) s ≡ high → h.at high s ≡ (split_at r.splits.items high).parent
  parent_before s high p l hs e = go (h.step high s p l hs)
    where
      go : (h.at (high + 1) s ≡ h.at high s) ⊎ ((h.at (high + 1) s ≡ high) × (h.at high s ≡ (split_at r.splits.items high).parent)) → h.at high s ≡ (split_at r.splits.items high).parent
      go (inl q) = let b = h.below high s p (omega arith) hs in absurd (omega arith)
      go (inr q) = q.1

  -- and those of a lower one were in that one
  pub low_before : (s low high : ℕ) → low < high → high < length r.splits.items → s < size r.table → h.at (high + 1) s ≡ low → h.at high s ≡ low
  low_before s low high o l hs e = same_before 1 high s low o (omega arith) hs e

  turned : (f : ℕ → ℕ) (k : Option ℕ) (s t : ℕ) → ArePartedBy r.table f k s t → ArePartedBy r.table f k t s
  turned f None s t d = λ e. d (sym e)
  turned f (Some k) s t d = λ e. d (sym e)

  -- the parent is lower than the block
  pub parent_below : (s t low high : ℕ) → s < size r.table → t < size r.table → ArePlaced r h s t low high → (split_at r.splits.items high).parent < high
  parent_below s t low high hs ht x = go x.placed
    where
      o : low < high
      o = x.order

      i : high < length r.splits.items
      i = x.inside

      one : (u : ℕ) → u < size r.table → h.at (high + 1) u ≡ high → (split_at r.splits.items high).parent < high
      one u hu e = let q = parent_before u high (omega arith) i hu e in let b = h.below high u (omega arith) (omega arith) hu in omega arith

      go : ((h.at (high + 1) s ≡ high) × (h.at (high + 1) t ≡ low)) ⊎ ((h.at (high + 1) s ≡ low) × (h.at (high + 1) t ≡ high)) → (split_at r.splits.items high).parent < high
      go (inl y) = one s hs y.0
      go (inr y) = one t ht y.1

  -- the climb continues
  pub climbed : (s t low high a b : ℕ) → s < size r.table → t < size r.table → ArePlaced r h s t low high → a < b →
      ((a ≡ (split_at r.splits.items high).parent) × (b ≡ low)) ⊎ ((a ≡ low) × (b ≡ (split_at r.splits.items high).parent)) → ArePlaced r h s t a b
  climbed s t low high a b hs ht x o same = go x.placed same
    where
      l : low < high
      l = x.order

      i : high < length r.splits.items
      i = x.inside

      parent : ℕ
      parent = (split_at r.splits.items high).parent

      below : (split_at r.splits.items high).parent < high
      below = parent_below s t low high hs ht x

      swap : {A B : Type 0} → A ⊎ B → B ⊎ A
      swap (inl u) = inr u
      swap (inr u) = inl u

      go : ((h.at (high + 1) s ≡ high) × (h.at (high + 1) t ≡ low)) ⊎ ((h.at (high + 1) s ≡ low) × (h.at (high + 1) t ≡ high)) →
          ((a ≡ (split_at r.splits.items high).parent) × (b ≡ low)) ⊎ ((a ≡ low) × (b ≡ (split_at r.splits.items high).parent)) → ArePlaced r h s t a b
      go (inl y) z = placed_at high s t (split_at r.splits.items high).parent low a b (omega arith) hs ht (parent_before s high (omega arith) i hs y.0) (low_before t low high l i ht y.1) below l o z
      go (inr y) z = placed_at high s t low (split_at r.splits.items high).parent a b (omega arith) hs ht (low_before s low high l i hs y.0) (parent_before t high (omega arith) i ht y.1) l below o (swap z)

  -- the climb is over
  pub together_at : (s t low high : ℕ) → s < size r.table → t < size r.table → ArePlaced r h s t low high → (split_at r.splits.items high).parent ≡ low →
      (h.at high s ≡ h.at high t) × (h.at (high + 1) s ≢ h.at (high + 1) t) × ArePartedBy r.table (h.at high) (split_at r.splits.items high).symbol s t
  together_at s t low high hs ht x e = go x.placed
    where
      l : low < high
      l = x.order

      i : high < length r.splits.items
      i = x.inside

      go : ((h.at (high + 1) s ≡ high) × (h.at (high + 1) t ≡ low)) ⊎ ((h.at (high + 1) s ≡ low) × (h.at (high + 1) t ≡ high)) →
          (h.at high s ≡ h.at high t) × (h.at (high + 1) s ≢ h.at (high + 1) t) × ArePartedBy r.table (h.at high) (split_at r.splits.items high).symbol s t
      go (inl y) = (
        parent_before s high (omega arith) i hs y.0 ∙ e ∙ sym (low_before t low high l i ht y.1),
        λ q. let a = y.0 in let b = y.1 in omega arith,
        h.parted high s t (omega arith) i hs ht y.0 (y.1 ∙ sym e),
      )
      go (inr y) = (
        low_before s low high l i hs y.0 ∙ sym e ∙ sym (parent_before t high (omega arith) i ht y.1),
        λ q. let a = y.0 in let b = y.1 in omega arith,
        turned (h.at high) (split_at r.splits.items high).symbol t s (h.parted high t s (omega arith) i ht hs y.1 (y.0 ∙ sym e)),
      )

-- the climb is over: where the states fell apart
pub parted_here : (r : Reduction) (s t low high : ℕ) → s < size r.table → t < size r.table → HistoryOf r → ((h : HistoryOf r) → ArePlaced r h s t low high) → (split_at r.splits.items high).parent ≡ low →
    ArePartedAt r s t high
parted_here r s t low high hs ht one x e = record {
  some = let o = (x one).order in omega arith;
  inside = (x one).inside;
  together = λ h. (together_at r h s t low high hs ht (x h) e).0;
  later = λ h. (together_at r h s t low high hs ht (x h) e).1;
  parted = λ h. (together_at r h s t low high hs ht (x h) e).2;
}

-- a pair of numbers by other names
pub renamed : (a b x y p q : ℕ) → x ≡ p → y ≡ q → ((a ≡ x) × (b ≡ y)) ⊎ ((a ≡ y) × (b ≡ x)) → ((a ≡ p) × (b ≡ q)) ⊎ ((a ≡ q) × (b ≡ p))
renamed a b x y p q e f (inl h) = inl (h.0 ∙ e, h.1 ∙ f)
renamed a b x y p q e f (inr h) = inr (h.0 ∙ f, h.1 ∙ e)

-- the climb begins at the last blocks
pub placed_last : (r : Reduction) (evidence : YieldsEvidence r) (s t low high : ℕ) → s < size r.table → t < size r.table → low < high →
    ((low ≡ slice_index r.blocks.items s) × (high ≡ slice_index r.blocks.items t)) ⊎ ((low ≡ slice_index r.blocks.items t) × (high ≡ slice_index r.blocks.items s)) →
    (h : HistoryOf r) → ArePlaced r h s t low high
placed_last r evidence s t low high hs ht o same h =
    let a = h.last s hs in
    let b = h.last t ht in
    let c = h.below (length r.splits.items) s evidence.some (omega arith) hs in
    let d = h.below (length r.splits.items) t evidence.some (omega arith) ht in
    placed_at r h (length r.splits.items) s t (slice_index r.blocks.items s) (slice_index r.blocks.items t) low high (omega arith) hs ht a b (omega arith) (omega arith) o same
