-- Walks: none, one byte more, beside other writes, two in a row, without the first byte.
use Rattle.std.proofs.Common.{◌≡◌, ℕ, ◌+◌, ◌<◌, ◌≤◌, ◌⊎◌, inl, inr, List, length, slice_index, set, get_or-set_same, get_or-set_other, refl, sym, ◌∙◌, ap, subst, arith}
use Rattle.logos_scan.specs.walk.Walk.{IsSameBeside, Walked, entry_at, row_start_of}

split_at : (a b : ℕ) → a ≤ b → (a < b) ⊎ (a ≡ b)
split_at a b h = grind arith

three_ways : (a b : ℕ) → (a < b) ⊎ ((a ≡ b) ⊎ (b < a))
three_ways a b = grind arith

pub walked_none : (rows text : List ℕ) (p : ℕ) (trace : List ℕ) (from : ℕ) → Walked rows text p trace from from p
walked_none rows text p trace from = record {
  first = λ h. absurd (omega (arith, h));
  later = λ j h k. absurd (omega (arith, h, k));
  none = λ _. refl;
  last = λ j h e. absurd (omega (arith, h, e));
}

-- the walk is where the trace is unchanged
pub walked_beside : (rows text : List ℕ) (p : ℕ) (old new : List ℕ) (from to q : ℕ)
    → ((j : ℕ) → from ≤ j → j < to → slice_index new j ≡ slice_index old j)
    → Walked rows text p old from to q → Walked rows text p new from to q
walked_beside rows text p old new from to q same w = record {
  first = λ h. same from (omega arith) h ∙ w.first h;
  later = λ j h k.
      same (j + 1) (omega (arith, h)) k ∙ w.later j h k
      ∙ ap (λ x. entry_at rows text (j + 1) (row_start_of x)) (sym (same j h (omega (arith, k))));
  none = w.none;
  last = λ j h e. w.last j h e ∙ ap row_start_of (sym (same j h (omega (arith, e))));
}

-- two walks in a row are one
pub walked_join : (rows text : List ℕ) (p : ℕ) (trace : List ℕ) (from mid to q r : ℕ) → from ≤ mid → mid ≤ to
    → Walked rows text p trace from mid q → Walked rows text q trace mid to r → Walked rows text p trace from to r
walked_join rows text p trace from mid to q r le le' a b = record {
  first = λ h. elim (split_at from mid le) [
    | inl l ↦ a.first l
    | inr e ↦ subst (λ m. slice_index trace m ≡ entry_at rows text m p) (sym e)
        (b.first (omega (arith, e, h)) ∙ ap (λ x. entry_at rows text mid x) (a.none e))
  ];
  later = λ j h k. elim (three_ways (j + 1) mid) [
    | inl l ↦ a.later j h l
    | inr (inl e) ↦ subst (λ m. slice_index trace m ≡ entry_at rows text m (row_start_of (slice_index trace j))) (sym e)
        (b.first (omega (arith, e, k)) ∙ ap (λ x. entry_at rows text mid x) (a.last j h e))
    | inr (inr g) ↦ b.later j (omega (arith, g)) k
  ];
  none = λ e. b.none (omega (arith, e)) ∙ a.none (omega (arith, e));
  last = λ j h e. elim (split_at mid to le') [
    | inl l ↦ b.last j (omega (arith, l, e)) e
    | inr m ↦ b.none m ∙ a.last j h (e ∙ sym m)
  ];
}

-- a walk without its first byte begins in the row offset that its entry names
pub walked_rest : (rows text : List ℕ) (p : ℕ) (trace : List ℕ) (from to q : ℕ) → from < to
    → Walked rows text p trace from to q
    → Walked rows text (row_start_of (slice_index trace from)) trace (from + 1) to q
walked_rest rows text p trace from to q lt w = record {
  first = λ h. w.later from (omega arith) h;
  later = λ j h k. w.later j (omega (arith, h)) k;
  none = λ e. w.last from (omega arith) e;
  last = λ j h e. w.last j (omega (arith, h)) e;
}

-- a write after the walk, of the entry of the next byte
pub walked_more : (rows text : List ℕ) (p : ℕ) (trace : List ℕ) (from at q : ℕ) → from ≤ at → at < length trace
    → Walked rows text p trace from at q
    → Walked rows text p (set trace at (entry_at rows text at q)) from (at + 1) (row_start_of (entry_at rows text at q))
walked_more rows text p trace from at q le lt w =
    let e = entry_at rows text at q in
    let new = set trace at e in
    let written : slice_index new at ≡ e = get_or-set_same trace at e 0 lt in
    walked_join rows text p new from at (at + 1) q (row_start_of e) le (omega arith)
    (walked_beside rows text p trace new from at q (λ j h k. get_or-set_other trace at j e 0 (omega (arith, k))) w)
    (record {
      first = λ _. written;
      later = λ j h k. absurd (omega (arith, h, k));
      none = λ n. absurd (omega (arith, n));
      last = λ j h n. ap row_start_of (sym written) ∙ ap (λ k. row_start_of (slice_index new k)) (omega (arith, h, n));
    })

-- a write beside the walk
pub walked_set : (rows text : List ℕ) (p : ℕ) (trace : List ℕ) (from to q at entry : ℕ) → (at < from) ⊎ (to ≤ at)
    → Walked rows text p trace from to q → Walked rows text p (set trace at entry) from to q
walked_set rows text p trace from to q at entry out w =
    walked_beside rows text p trace (set trace at entry) from to q
    (λ j h k. get_or-set_other trace at j entry 0 (elim out [ inl l ↦ omega (arith, l, h) | inr g ↦ omega (arith, g, k) ])) w

-- the lemma above, by equations, as a step leaves them
pub walked_step : (rows text : List ℕ) (p : ℕ) (trace new : List ℕ) (from at next q r : ℕ) → from ≤ at → at < length trace → next ≡ at + 1
    → new ≡ set trace at (entry_at rows text at q) → r ≡ row_start_of (entry_at rows text at q)
    → Walked rows text p trace from at q → Walked rows text p new from next r
walked_step rows text p trace new from at next q r le lt n e f w =
    subst (λ k. Walked rows text p new from k r) (sym n)
    (subst (λ t. Walked rows text p t from (at + 1) r) (sym e)
    (subst (λ k. Walked rows text p (set trace at (entry_at rows text at q)) from (at + 1) k) (sym f)
    (walked_more rows text p trace from at q le lt w)))

pub walked_apart : (rows text : List ℕ) (p : ℕ) (trace new : List ℕ) (from to q at entry : ℕ) → (at < from) ⊎ (to ≤ at)
    → new ≡ set trace at entry → Walked rows text p trace from to q → Walked rows text p new from to q
walked_apart rows text p trace new from to q at entry out e w =
    subst (λ t. Walked rows text p t from to q) (sym e) (walked_set rows text p trace from to q at entry out w)

-- no byte
pub walked_at : (rows text : List ℕ) (p : ℕ) (trace : List ℕ) (from to : ℕ) → to ≡ from → Walked rows text p trace from to p
walked_at rows text p trace from to e = subst (λ k. Walked rows text p trace from k p) (sym e) (walked_none rows text p trace from)

-- the entries that another walk wrote remain after a step that reaches the row that it names
pub walked_again : (rows text : List ℕ) (p guess : ℕ) (trace new : List ℕ) (from at to q r end : ℕ) → from ≤ at → at < to → at < length trace
    → new ≡ set trace at (entry_at rows text at q) → r ≡ row_start_of (entry_at rows text at q)
    → row_start_of (slice_index trace at) ≡ r
    → Walked rows text p trace from at q → Walked rows text guess trace at to end → Walked rows text p new from to end
walked_again rows text p guess trace new from at to q r end le lt within e f same done rest =
    walked_join rows text p new from (at + 1) to r end (omega arith) (omega arith)
    (walked_step rows text p trace new from at (at + 1) q r le within refl e f done)
    (walked_apart rows text r trace new (at + 1) to end at (entry_at rows text at q) (inl (omega arith)) e
    (subst (λ k. Walked rows text k trace (at + 1) to end) same (walked_rest rows text guess trace at to end lt rest)))

-- the row offsets beside a range that holds the row offset of a write
pub same_beside : (from at to : ℕ) (first old new : List ℕ) (entry : ℕ) → from ≤ at → at < to → new ≡ set old at entry
    → (mid : ℕ) → mid ≤ to → IsSameBeside from mid first old → IsSameBeside from to first new
same_beside from at to first old new entry le lt e mid ml same j out =
    ap (λ t. slice_index t j) e
    ∙ get_or-set_other old at j entry 0 (elim out [ inl l ↦ omega (arith, l) | inr g ↦ omega (arith, g) ])
    ∙ same j (elim out [ inl l ↦ inl l | inr g ↦ inr (omega (arith, g)) ])

-- a walk outside the row offsets that were written again
pub walked_out : (rows text : List ℕ) (p : ℕ) (old new : List ℕ) (from to q low high : ℕ) → (high ≤ from) ⊎ (to ≤ low)
    → IsSameBeside low high old new → Walked rows text p old from to q → Walked rows text p new from to q
walked_out rows text p old new from to q low high out same w =
    walked_beside rows text p old new from to q
    (λ j h k. same j (elim out [ inl l ↦ inr (omega (arith, l, h)) | inr g ↦ inl (omega (arith, g, k)) ])) w
