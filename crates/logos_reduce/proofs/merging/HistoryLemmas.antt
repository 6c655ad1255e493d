-- Blocks that are split keep their history.
use Rattle.std.proofs.Common.{◌≡◌, ◌≢◌, ℕ, ◌<◌, ◌≤◌, ◌+◌, ◌⊎◌, inl, inr, true, false, nat_lt, nat_le, if◌then◌else◌, List, length, Option, Some, None, option_map, refl, sym, ◌∙◌, ap, subst, arith}
use Rattle.std.proofs.lemmas.Bool.{cases_lt}
use Rattle.std.proofs.lemmas.Bool.Decides.{nat_tests}
use Rattle.logos_reduce.specs.Merge.{target_block, ArePartedBy, split_at, IsHistory, IsSound}
use Rattle.logos_reduce.specs.inside.Merge.{IsFiner, block_before, IsExtension}
use Rattle.logos_reduce.specs.Table.{size, to}
use Rattle.logos_reduce.specs.declared.merge.blocks.Split.{Split}
use Rattle.logos_reduce.specs.declared.table.Table.{Table}
use Rattle.logos_reduce.proofs.tables.EdgeLemmas.{edge_within}

pub before_old : (splits : List Split) (fresh c : ℕ) → c < fresh → block_before splits fresh c ≡ c
before_old splits fresh c l = let t : nat_lt c fresh ≡ true = grind (arith, nat_tests) in rw t refl

pub before_new : (splits : List Split) (fresh c : ℕ) → fresh ≤ c → block_before splits fresh c ≡ (split_at splits c).parent
before_new splits fresh c l = let t : nat_lt c fresh ≡ false = grind (arith, nat_tests) in rw t refl

-- the facts about the targets of a state, by the blocks that were first
led_before : (table : Table) (f g : ℕ → ℕ) (h : ℕ → ℕ) → ((s : ℕ) → s < size table → f s ≡ h (g s)) → (s k : ℕ) → target_block table f s k ≡ option_map h (target_block table g s k)
led_before table f g h same s k = go (to table s k) (λ t e. (edge_within table s k t e).1)
  where
    go : (o : Option ℕ) → ((t : ℕ) → o ≡ Some t → t < size table) → option_map f o ≡ option_map h (option_map g o)
    go None within = refl
    go (Some t) within = ap Some (same t (within t refl))

-- states that are parted are parted by finer blocks too
parted_finer : (table : Table) (f g : ℕ → ℕ) (h : ℕ → ℕ) → ((s : ℕ) → s < size table → f s ≡ h (g s)) → (k : Option ℕ) (s t : ℕ) → ArePartedBy table f k s t → ArePartedBy table g k s t
parted_finer table f g h same None s t p = p
parted_finer table f g h same (Some k) s t p = λ e. p (led_before table f g h same s k ∙ ap (option_map h) e ∙ sym (led_before table f g h same t k))

module _ (table : Table) (splits more : List Split) (old new : ℕ → ℕ) (x : IsExtension table splits more old new) where
  pub finer-extended : IsFiner (size table) new old
  finer-extended s t hs ht e = x.before s hs ∙ ap (block_before more (length splits)) e ∙ sym (x.before t ht)

  -- the block of a state when there were j blocks, of which some were new
  mid : ℕ → ℕ → ℕ
  mid j s = if nat_lt (new s) j then new s else old s

  mid_new : (j s : ℕ) → new s < j → mid j s ≡ new s
  unfolding mid
  mid_new j s l = let t : nat_lt (new s) j ≡ true = grind (arith, nat_tests) in rw t refl

  mid_old : (j s : ℕ) → j ≤ new s → mid j s ≡ old s
  unfolding mid
  mid_old j s l = let t : nat_lt (new s) j ≡ false = grind (arith, nat_tests) in rw t refl

  old_stays : (s : ℕ) → s < size table → new s < length splits → old s ≡ new s
  old_stays s hs l = x.before s hs ∙ before_old more (length splits) (new s) l

  old_left : (s : ℕ) → s < size table → length splits ≤ new s → old s ≡ (split_at more (new s)).parent
  old_left s hs l = x.before s hs ∙ before_new more (length splits) (new s) l

  -- the earlier block of a state is known from any later time
  mid_before : (j s : ℕ) → length splits ≤ j → s < size table → ((t : ℕ) → t < size table → old t < length splits) → old s ≡ block_before more (length splits) (mid j s)
  mid_before j s l hs within = go (cases_lt (new s) j)
    where
      go : (new s < j) ⊎ (j ≤ new s) → old s ≡ block_before more (length splits) (mid j s)
      go (inl m) = x.before s hs ∙ ap (block_before more (length splits)) (sym (mid_new j s m))
      go (inr m) = sym (ap (block_before more (length splits)) (mid_old j s m) ∙ before_old more (length splits) (old s) (within s hs))

  module _ (h : IsHistory table splits old) (some : 0 < length splits) where
    old_within : (s : ℕ) → s < size table → old s < length splits
    old_within s l = let b = h.below (length splits) s some (omega arith) l in let e = h.last s l in omega arith

    at_time : ℕ → ℕ → ℕ
    at_time j = if nat_le j (length splits) then h.at j else mid j

    at_first : (j : ℕ) → j ≤ length splits → at_time j ≡ h.at j
    unfolding at_time
    at_first j l = let t : nat_le j (length splits) ≡ true = grind (arith, nat_tests) in rw t refl

    at_later : (j : ℕ) → length splits < j → at_time j ≡ mid j
    unfolding at_time
    at_later j l = let t : nat_le j (length splits) ≡ false = grind (arith, nat_tests) in rw t refl

    at_mid : (j s : ℕ) → length splits ≤ j → s < size table → at_time j s ≡ mid j s
    at_mid j s l hs = go (cases_lt (length splits) j)
      where
        go : (length splits < j) ⊎ (j ≤ length splits) → at_time j s ≡ mid j s
        go (inl m) = ap (λ (f : ℕ → ℕ). f s) (at_later j m)
        go (inr m) =
            let e : j ≡ length splits = omega arith in
            let first : at_time j s ≡ old s = ap (λ (f : ℕ → ℕ). f s) (at_first j m) ∙ ap (λ (i : ℕ). h.at i s) e ∙ h.last s hs in
            first ∙ same (cases_lt (new s) j)
          where
            same : (new s < j) ⊎ (j ≤ new s) → old s ≡ mid j s
            same (inl n) = old_stays s hs (omega arith) ∙ sym (mid_new j s n)
            same (inr n) = sym (mid_old j s n)

    pub history-extended : IsHistory table more new
    history-extended = record { at = at_time; last = last; below = below; step = step; parted = parted }
      where
        last : (s : ℕ) → s < size table → at_time (length more) s ≡ new s
        last s l = at_mid (length more) s x.continues.longer l ∙ mid_new (length more) s (x.within s l)

        below : (j s : ℕ) → 0 < j → j ≤ length more → s < size table → at_time j s < j
        below j s p m l = go (cases_lt (length splits) j)
          where
            late : (new s < j) ⊎ (j ≤ new s) → length splits < j → mid j s < j
            late (inl n) q = let e = mid_new j s n in omega arith
            late (inr n) q = let e = mid_old j s n in let w = old_within s l in omega arith

            go : (length splits < j) ⊎ (j ≤ length splits) → at_time j s < j
            go (inl n) = let e = at_mid j s (omega arith) l in let b = late (cases_lt (new s) j) n in omega arith
            go (inr n) = let e = ap (λ (f : ℕ → ℕ). f s) (at_first j n) in let b = h.below j s p n l in omega arith

        step : (j s : ℕ) → 0 < j → j < length more → s < size table → (at_time (j + 1) s ≡ at_time j s) ⊎ ((at_time (j + 1) s ≡ j) × (at_time j s ≡ (split_at more j).parent))
        step j s p m l = go (cases_lt j (length splits))
          where
            late : length splits ≤ j → (new s < j) ⊎ (j ≤ new s) → (new s < j + 1) ⊎ (j + 1 ≤ new s) →
                (mid (j + 1) s ≡ mid j s) ⊎ ((mid (j + 1) s ≡ j) × (mid j s ≡ (split_at more j).parent))
            late q (inl n) r = inl (mid_new (j + 1) s (omega arith) ∙ sym (mid_new j s n))
            late q (inr n) (inl r) =
                let e : new s ≡ j = omega arith in
                inr (mid_new (j + 1) s r ∙ e, mid_old j s n ∙ old_left s l (omega arith) ∙ ap (λ (c : ℕ). (split_at more c).parent) e)
            late q (inr n) (inr r) = inl (mid_old (j + 1) s r ∙ sym (mid_old j s n))

            back : length splits ≤ j → (mid (j + 1) s ≡ mid j s) ⊎ ((mid (j + 1) s ≡ j) × (mid j s ≡ (split_at more j).parent)) →
                (at_time (j + 1) s ≡ at_time j s) ⊎ ((at_time (j + 1) s ≡ j) × (at_time j s ≡ (split_at more j).parent))
            back q (inl e) = inl (at_mid (j + 1) s (omega arith) l ∙ e ∙ sym (at_mid j s q l))
            back q (inr e) = inr (at_mid (j + 1) s (omega arith) l ∙ e.0, at_mid j s q l ∙ e.1)

            early : j < length splits → (h.at (j + 1) s ≡ h.at j s) ⊎ ((h.at (j + 1) s ≡ j) × (h.at j s ≡ (split_at splits j).parent)) →
                (at_time (j + 1) s ≡ at_time j s) ⊎ ((at_time (j + 1) s ≡ j) × (at_time j s ≡ (split_at more j).parent))
            early q (inl e) = inl (ap (λ (f : ℕ → ℕ). f s) (at_first (j + 1) (omega arith)) ∙ e ∙ sym (ap (λ (f : ℕ → ℕ). f s) (at_first j (omega arith))))
            early q (inr e) =
                inr (
                  ap (λ (f : ℕ → ℕ). f s) (at_first (j + 1) (omega arith)) ∙ e.0,
                  ap (λ (f : ℕ → ℕ). f s) (at_first j (omega arith)) ∙ e.1 ∙ ap (λ (c : Split). c.parent) (sym (x.continues.same j q)),
                )

            go : (j < length splits) ⊎ (length splits ≤ j) → (at_time (j + 1) s ≡ at_time j s) ⊎ ((at_time (j + 1) s ≡ j) × (at_time j s ≡ (split_at more j).parent))
            go (inl n) = early n (h.step j s p n l)
            go (inr n) = back n (late n (cases_lt (new s) j) (cases_lt (new s) (j + 1)))

        parted : (j s t : ℕ) → 0 < j → j < length more → s < size table → t < size table → at_time (j + 1) s ≡ j → at_time (j + 1) t ≡ (split_at more j).parent →
            ArePartedBy table (at_time j) (split_at more j).symbol s t
        parted j s t p m hs ht e q = go (cases_lt j (length splits))
          where
            early : j < length splits → ArePartedBy table (at_time j) (split_at more j).symbol s t
            early n =
                let same = x.continues.same j n in
                let e' : h.at (j + 1) s ≡ j = sym (ap (λ (f : ℕ → ℕ). f s) (at_first (j + 1) (omega arith))) ∙ e in
                let q' : h.at (j + 1) t ≡ (split_at splits j).parent = sym (ap (λ (f : ℕ → ℕ). f t) (at_first (j + 1) (omega arith))) ∙ q ∙ ap (λ (c : Split). c.parent) same in
                let a = h.parted j s t p n hs ht e' q' in
                let b : ArePartedBy table (h.at j) (split_at more j).symbol s t = subst (λ (c : Split). ArePartedBy table (h.at j) c.symbol s t) (sym same) a in
                subst (λ (f : ℕ → ℕ). ArePartedBy table f (split_at more j).symbol s t) (sym (at_first j (omega arith))) b

            late : length splits ≤ j → ArePartedBy table (at_time j) (split_at more j).symbol s t
            late n =
                let older = x.older j n m in
                let e' : mid (j + 1) s ≡ j = sym (at_mid (j + 1) s (omega arith) hs) ∙ e in
                let q' : mid (j + 1) t ≡ (split_at more j).parent = sym (at_mid (j + 1) t (omega arith) ht) ∙ q in
                let here = is_new e' (cases_lt (new s) (j + 1)) in
                let there = is_old q' older (cases_lt (new t) (j + 1)) in
                parted_finer table old (at_time j) (block_before more (length splits))
                (λ u hu. mid_before j u n hu old_within ∙ ap (block_before more (length splits)) (sym (at_mid j u n hu)))
                (split_at more j).symbol s t (x.parted j s t n m hs ht here there.0 there.1)
              where
                is_new : mid (j + 1) s ≡ j → (new s < j + 1) ⊎ (j + 1 ≤ new s) → new s ≡ j
                is_new e (inl l) = sym (mid_new (j + 1) s l) ∙ e
                is_new e (inr l) = let w = old_within s hs in let z = mid_old (j + 1) s l in absurd (omega arith)

                is_old : mid (j + 1) t ≡ (split_at more j).parent → (split_at more j).parent < length splits → (new t < j + 1) ⊎ (j + 1 ≤ new t) → (new t ≢ j) × (old t ≡ (split_at more j).parent)
                is_old q o (inl l) =
                    let z = mid_new (j + 1) t l in
                    let small : new t < length splits = omega arith in
                    (λ w. omega arith, old_stays t ht small ∙ sym z ∙ q)
                is_old q o (inr l) = (λ w. omega arith, sym (mid_old (j + 1) t l) ∙ q)

            go : (j < length splits) ⊎ (length splits ≤ j) → ArePartedBy table (at_time j) (split_at more j).symbol s t
            go (inl n) = early n
            go (inr n) = late n

-- blocks that are split stay sound
pub sound-extended : (table : Table) (splits more : List Split) (old new : ℕ → ℕ) → 0 < length splits → IsSound table splits old → IsExtension table splits more old new → IsSound table more new
sound-extended table splits more old new some h x = record {
  history = history-extended table splits more old new x h.history some;
  marks = λ s t hs ht e. h.marks s t hs ht (finer-extended table splits more old new x s t hs ht e);
}
