-- The blocks of a chunk: no byte of each, one byte more of one after another, and those that are
-- repaired.
use Rattle.std.proofs.Common.{◌≡◌, ℕ, ◌+◌, ◌*◌, ◌<◌, ◌≤◌, ◌⊎◌, inl, inr, List, length, slice_index, set, get_or-set_same, get_or-set_other, replicate, sym, ◌∙◌, ap, subst, arith}
use Rattle.std.proofs.lemmas.Simd.{get_or-replicate}
use Rattle.logos_scan.specs.walk.Walk.{IsRowStart, IsSameBeside, Walked, entry_at, row_start_of}
use Rattle.logos_scan.specs.walk.Blocks.{AreRowStarts, AreWalked, IsWalked}
use Rattle.logos_scan.proofs.walk.WalkLemmas.{walked_at, walked_step, walked_apart, walked_join, walked_out}

three : (a b : ℕ) → (a < b) ⊎ ((a ≡ b) ⊎ (b < a))
three a b = grind arith

-- a list with one element set
pub set_at : (xs after : List ℕ) (k r : ℕ) → k < length xs → after ≡ set xs k r → slice_index after k ≡ r
set_at xs after k r lt e = ap (λ l. slice_index l k) e ∙ get_or-set_same xs k r 0 lt

pub set_beside : (xs after : List ℕ) (k r b : ℕ) → (b < k) ⊎ (k < b) → after ≡ set xs k r → slice_index after b ≡ slice_index xs b
set_beside xs after k r b out e = ap (λ l. slice_index l b) e ∙ get_or-set_other xs k b r 0 (elim out [ inl l ↦ omega (arith, l) | inr g ↦ omega (arith, g) ])

pub row_starts_same : (rows : List ℕ) (first : ℕ) → IsRowStart rows first → AreRowStarts rows (replicate 6 first)
row_starts_same rows first is b h = subst (IsRowStart rows) (sym (get_or-replicate 6 b first 0 h)) is

pub row_starts_set : (rows row_starts after : List ℕ) (k r : ℕ) → k < length row_starts → after ≡ set row_starts k r → IsRowStart rows r → AreRowStarts rows row_starts → AreRowStarts rows after
row_starts_set rows row_starts after k r lt e is all b h = elim (three b k) [
  | inl l ↦ subst (IsRowStart rows) (sym (set_beside row_starts after k r b (inl l) e)) (all b h)
  | inr (inl s) ↦ subst (IsRowStart rows) (sym (ap (slice_index after) s ∙ set_at row_starts after k r lt e)) is
  | inr (inr g) ↦ subst (IsRowStart rows) (sym (set_beside row_starts after k r b (inr g) e)) (all b h)
]

pub blocks_none : (rows text from trace : List ℕ) → AreWalked rows text from trace 0 from
blocks_none rows text from trace b h = walked_at rows text (slice_index from b) trace (768 * b) (0 + 768 * b) (omega arith)

-- The blocks before the one are walked up to one byte more than the others.
pub record AreStepped (rows text from trace : List ℕ) (at block : ℕ) (to : List ℕ) : Type 0 where
  pub done : (b : ℕ) → b < block → b < 6 → IsWalked rows text from trace (at + 1) to b
  pub left : (b : ℕ) → block ≤ b → b < 6 → IsWalked rows text from trace at to b

pub stepped_none : (rows text from trace : List ℕ) (at : ℕ) (to : List ℕ) → AreWalked rows text from trace at to → AreStepped rows text from trace at 0 to
stepped_none rows text from trace at to w = record {
  done = λ b l h. absurd (omega (arith, l));
  left = λ b l h. w b h;
}

pub stepped_all : (rows text from trace : List ℕ) (at block : ℕ) (to : List ℕ) → 6 ≤ block → AreStepped rows text from trace at block to → AreWalked rows text from trace (at + 1) to
stepped_all rows text from trace at block to all s b h = s.done b (omega (arith, all, h)) h

pub stepped_on : (rows text from trace new : List ℕ) (at k r next : ℕ) (to after : List ℕ) → k < 6 → at < 768 → length trace ≡ 4608 → k < length to → next ≡ k + 1
    → new ≡ set trace (at + 768 * k) (entry_at rows text (at + 768 * k) (slice_index to k))
    → r ≡ row_start_of (entry_at rows text (at + 768 * k) (slice_index to k))
    → after ≡ set to k r
    → AreStepped rows text from trace at k to → AreStepped rows text from new at next after
stepped_on rows text from trace new at k r next to after few low long lt n e f g s =
    let entry = entry_at rows text (at + 768 * k) (slice_index to k) in
    record {
      done = λ b l h. elim (three b k) [
        | inl m ↦ subst (λ q. Walked rows text (slice_index from b) new (768 * b) (at + 1 + 768 * b) q) (sym (set_beside to after k r b (inl m) g))
            (walked_apart rows text (slice_index from b) trace new (768 * b) (at + 1 + 768 * b) (slice_index to b) (at + 768 * k) entry (inr (omega (arith, m, low))) e (s.done b m h))
        | inr (inl m) ↦ subst (λ c. IsWalked rows text from new (at + 1) after c) (sym m)
            (subst (λ q. Walked rows text (slice_index from k) new (768 * k) (at + 1 + 768 * k) q) (sym (set_at to after k r lt g))
            (walked_step rows text (slice_index from k) trace new (768 * k) (at + 768 * k) (at + 1 + 768 * k) (slice_index to k) r (omega arith) (omega (arith, few, low, long)) (omega arith) e f (s.left k (omega arith) few)))
        | inr (inr m) ↦ absurd (omega (arith, m, l, n))
      ];
      left = λ b l h.
          subst (λ q. Walked rows text (slice_index from b) new (768 * b) (at + 768 * b) q) (sym (set_beside to after k r b (inr (omega (arith, l, n))) g))
          (walked_apart rows text (slice_index from b) trace new (768 * b) (at + 768 * b) (slice_index to b) (at + 768 * k) entry (inl (omega (arith, l, n, low))) e (s.left b (omega (arith, l, n)) h));
    }

-- The blocks before the one are one walk, and the others are walks from guesses.
pub record AreRepaired (rows text from ends trace : List ℕ) (row_start block now : ℕ) : Type 0 where
  pub whole : Walked rows text row_start trace 0 (768 * block) now
  pub left : (b : ℕ) → block ≤ b → b < 6 → IsWalked rows text from trace 768 ends b

pub repaired_first : (rows text from ends trace : List ℕ) (row_start : ℕ) → slice_index from 0 ≡ row_start → AreWalked rows text from trace 768 ends → AreRepaired rows text from ends trace row_start 1 (slice_index ends 0)
repaired_first rows text from ends trace row_start e w = record {
  whole = subst (λ p. Walked rows text p trace 0 768 (slice_index ends 0)) e (w 0 (omega arith));
  left = λ b l h. w b h;
}

-- the walk of a block as a stretch
pub stretched : (rows text from ends trace : List ℕ) (row_start block now : ℕ) → block < 6 → AreRepaired rows text from ends trace row_start block now
    → Walked rows text (slice_index from block) trace (768 * block) (768 * block + 768) (slice_index ends block)
stretched rows text from ends trace row_start block now few m =
    subst (λ k. Walked rows text (slice_index from block) trace (768 * block) k (slice_index ends block)) (omega arith) (m.left block (omega arith) few)

pub repaired_on : (rows text from ends trace new : List ℕ) (row_start block now after next : ℕ) → next ≡ block + 1
    → Walked rows text now new (768 * block) (768 * block + 768) after → IsSameBeside (768 * block) (768 * block + 768) trace new
    → AreRepaired rows text from ends trace row_start block now → AreRepaired rows text from ends new row_start next after
repaired_on rows text from ends trace new row_start block now after next n w same m = record {
  whole = subst (λ k. Walked rows text row_start new 0 k after) (omega (arith, n))
      (walked_join rows text row_start new 0 (768 * block) (768 * block + 768) now after (omega arith) (omega arith)
      (walked_out rows text row_start trace new 0 (768 * block) now (768 * block) (768 * block + 768) (inr (omega arith)) same m.whole) w);
  left = λ b l h.
      walked_out rows text (slice_index from b) trace new (768 * b) (768 + 768 * b) (slice_index ends b) (768 * block) (768 * block + 768) (inl (omega (arith, l, n))) same (m.left b (omega (arith, l, n)) h);
}
