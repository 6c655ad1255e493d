-- A cursor at an entry, at the word after an empty one, and after a bit.
use Rattle.std.proofs.Common.{◌≡◌, ℕ, zero, ◌+◌, ◌-◌, ◌*◌, ◌%◌, ◌^◌, ◌<◌, ◌≤◌, ◌⊎◌, inl, inr, List, sym, ap, subst, ◌∙◌, refl, arith, bit_and, min, w64, suc}
use Rattle.std.proofs.Math.Nat.{pow-suc, pow-le-pow_right}
use Rattle.std.proofs.lemmas.Nat.{leading_top}
use Rattle.std.proofs.lemmas.Nat.Bits.{bit_at_and, bit_at-zero, bit_at-trailing_zeros, bit_at_clear_same, bit_at_clear_other, bit_at_ones, bit_at_ones_above, bit_at_mask_inside, bit_at_mask_below, bit_at_above, bit_at_cat_high, bit_at-lt}
use Rattle.std.proofs.lemmas.Grind.{one_shifted}
use Rattle.std.specs.Int.{bit_at, bit_not, trailing_zeros}
use Rattle.std.specs.Int.Count.{count_leading_zeros}
use Rattle.logos_scan.specs.walk.Masks.{MarksFrom}
use Rattle.logos_scan.specs.declared.walk.cursor.ChunkCursor.{ChunkCursor}
use Rattle.std.proofs.lemmas.Nat.{and_le_r}
use Rattle.logos_scan.specs.walk.Cursors.{Passes, IsAt, start_at, start_of}
use Rattle.logos_scan.specs.walk.Cursor.{token_bit, end_bit, NoToken, IsNext, IsLastEnd, StartsAt, IsLeft, IsUnder, start_by}

pub ways : (a b : ℕ) → (a < b) ⊎ (b ≤ a)
ways a b = grind arith

one_of : (b : ℕ) → b < 2 → min b 1 ≡ b
one_of b l = omega arith

none_of : (b : ℕ) → min b 0 ≡ 0
none_of b = omega arith

-- the number with this bit alone
pub one_bit : (k : ℕ) → k < 64 → (1 * 2 ^ k % 18446744073709551616 ≡ 2 ^ k) × (0 < 2 ^ k)
one_bit k l = one_shifted k 18446744073709551615 refl l

-- the bits from one on
pub high_bits : (k : ℕ) → k < 64 → 18446744073709551615 - (1 * 2 ^ k % 18446744073709551616 - 1) ≡ 2 ^ 64 - 2 ^ k
high_bits k l = let s = one_bit k l in omega (arith, s.0, s.1)

-- the bits of a word from an entry on
pub left_at : (flag : ℕ) (trace : List ℕ) (word bits from low mask : ℕ) → MarksFrom flag trace (64 * word) bits → low < 64 → from ≡ 64 * word + low → mask ≡ 2 ^ 64 - 2 ^ low
    → IsLeft flag trace word (bit_and bits mask) from
left_at flag trace word bits from low mask m small e is = record {
  earlier = λ i l b.
      bit_at_and bits mask i ∙ ap (λ k. min (bit_at bits i) k) (ap (λ k. bit_at k i) is ∙ bit_at_mask_below low 64 i (omega (arith, b, e))) ∙ none_of (bit_at bits i);
  ahead = λ i l a.
      bit_at_and bits mask i ∙ ap (λ k. min (bit_at bits i) k) (ap (λ k. bit_at k i) is ∙ bit_at_mask_inside low 64 i (omega (arith, a, e)) l)
      ∙ one_of (bit_at bits i) (bit_at-lt bits i) ∙ m i l;
}

-- all of the bits
pub left_whole : (flag : ℕ) (trace : List ℕ) (word bits : ℕ) → MarksFrom flag trace (64 * word) bits → IsLeft flag trace word bits (64 * word)
left_whole flag trace word bits m = record {
  earlier = λ i l b. absurd (omega (arith, b));
  ahead = λ i l a. m i l;
}

-- none of them
pub left_none : (flag : ℕ) (trace : List ℕ) (word from : ℕ) → 64 * word + 64 ≤ from → IsLeft flag trace word 0 from
left_none flag trace word from past = record {
  earlier = λ i l b. bit_at-zero i;
  ahead = λ i l a. absurd (omega (arith, l, a, past));
}

-- those after the lowest bit
pub left_after : (flag : ℕ) (trace : List ℕ) (word bits from bit : ℕ) → bit < 64 → from ≤ 64 * word + bit → ((i : ℕ) → i < bit → bit_at bits i ≡ 0) → IsLeft flag trace word bits from
    → IsLeft flag trace word (bit_and bits (bit_not w64 (1 * 2 ^ bit % 2 ^ 64))) (64 * word + bit + 1)
left_after flag trace word bits from bit small near low left =
    let later = bit_and bits (bit_not w64 (1 * 2 ^ bit % 2 ^ 64)) in
    let other : (i : ℕ) → i < 64 → (bit < i) ⊎ (i < bit) → bit_at later i ≡ bit_at bits i = λ i l d.
    bit_at_clear_other w64 bits bit small i l (elim d [ inl a ↦ omega (arith, a) | inr b ↦ omega (arith, b) ]) in
    let same : bit_at later bit ≡ 0 = bit_at_clear_same w64 bits bit small in
    record {
      earlier = λ i l b. elim (ways i bit) [
        | inl a ↦ other i l (inr a) ∙ low i a
        | inr g ↦ ap (bit_at later) (omega (arith, g, b)) ∙ same
      ];
      ahead = λ i l a. other i l (inl (omega (arith, a))) ∙ left.ahead i l (omega (arith, a, near));
    }

-- the ends of a word before an entry
pub under_at : (trace : List ℕ) (word bits from at : ℕ) → 64 * word ≤ from → 64 * word ≤ at → at ≤ 64 * word + 64 → IsLeft 31 trace word bits from
    → IsUnder trace word from at (bit_and bits (2 ^ (at - 64 * word) - 1))
under_at trace word bits from at near low far left =
    let k = at - 64 * word in
    let back : 64 * word + k ≡ at = omega (arith, low) in
    record {
      near = near;
      far = far;
      earlier = λ i l b. bit_at_and bits (2 ^ k - 1) i ∙ ap (λ n. min n (bit_at (2 ^ k - 1) i)) (left.earlier i l b) ∙ least (bit_at (2 ^ k - 1) i);
      below = λ i l f h.
          bit_at_and bits (2 ^ k - 1) i ∙ ap (λ n. min (bit_at bits i) n) (bit_at_ones k i (omega (arith, h, back)))
          ∙ one_of (bit_at bits i) (bit_at-lt bits i) ∙ left.ahead i l f;
      above = λ i l h. bit_at_and bits (2 ^ k - 1) i ∙ ap (λ n. min (bit_at bits i) n) (bit_at_ones_above k i (omega (arith, h, back))) ∙ none_of (bit_at bits i);
    }
  where
    least : (b : ℕ) → min 0 b ≡ 0
    least b = omega arith

-- all of them
pub under_whole : (trace : List ℕ) (word bits from : ℕ) → 64 * word ≤ from → IsLeft 31 trace word bits from → IsUnder trace word from (64 * word + 64) bits
under_whole trace word bits from near left = record {
  near = near;
  far = omega arith;
  earlier = left.earlier;
  below = λ i l f h. left.ahead i l f;
  above = λ i l h. absurd (omega (arith, l, h));
}

top_bit : (a j : ℕ) → 2 ^ j ≤ a → a < 2 ^ suc j → bit_at a j ≡ 1
top_bit a j le lt =
    let b = a - 2 ^ j in
    let whole : 1 * 2 ^ j + b ≡ a = omega (arith, le) in
    let small : b < 2 ^ j = omega (arith, le, lt, pow-suc 2 j) in
    ap (λ n. bit_at n j) (sym whole) ∙ bit_at_cat_high 1 j b j small (omega arith) ∙ ap (bit_at 1) (nothing j)
  where
    nothing : (n : ℕ) → n - n ≡ 0
    nothing n = omega arith

-- no end is there where there are no bits
pub starts_before : (base : ℕ) (trace : List ℕ) (word from start at bits : ℕ) → bits ≡ 0 → IsUnder trace word from at bits → StartsAt base trace from start at start
starts_before base trace word from start at bits none u = inl (
  refl,
  λ k f h.
      let near = u.near in
      let far = u.far in
      let i = k - 64 * word in
      let back : 64 * word + i ≡ k = omega (arith, near, f) in
      ap (end_bit trace) (sym back) ∙ sym (u.below i (omega (arith, back, h, far)) (omega (arith, back, f)) (omega (arith, back, h))) ∙ ap (λ b. bit_at b i) none ∙ bit_at-zero i,
)

-- the highest bit is the last end
pub starts_highest : (base : ℕ) (trace : List ℕ) (word from start at bits : ℕ) → 0 < bits → bits < 2 ^ 64 → IsUnder trace word from at bits
    → StartsAt base trace from start at (base + 64 * word + (63 - count_leading_zeros 64 bits))
starts_highest base trace word from start at bits pos fits u =
    let t = leading_top 64 bits pos fits in
    let j = t.0 in
    let k = 63 - count_leading_zeros 64 bits in
    let same : k ≡ j = omega (arith, t.1) in
    let small : k < 64 = omega arith in
    let top : bit_at bits k ≡ 1 = ap (bit_at bits) same ∙ top_bit bits j t.2 t.3 in
    let near = u.near in
    let far = u.far in
    let before : 64 * word + k < at = elim (ways (64 * word + k) at) [
      | inl l ↦ l
      | inr g ↦ absurd (omega (arith, top, u.above k small g))
    ] in
    let after : from ≤ 64 * word + k = elim (ways (64 * word + k) from) [
      | inl l ↦ absurd (omega (arith, top, u.earlier k small l))
      | inr g ↦ g
    ] in
    let last : IsLastEnd trace from at (64 * word + k) = record {
      after = after;
      before = before;
      ended = sym (u.below k small after before) ∙ top;
      none = λ m h l.
          let i = m - 64 * word in
          let back : 64 * word + i ≡ m = omega (arith, h) in
          ap (end_bit trace) (sym back) ∙ sym (u.below i (omega (arith, back, l, far)) (omega (arith, back, h, after)) (omega (arith, back, l)))
          ∙ bit_at_above bits (suc j) i t.3 (omega (arith, h, back, same));
    } in
    inr (64 * word + k, last, omega arith)

-- so it is by the bits
pub starts_by : (base : ℕ) (trace : List ℕ) (word from start at bits : ℕ) → bits < 2 ^ 64 → IsUnder trace word from at bits
    → StartsAt base trace from start at (start_by (base + 64 * word) start bits)
starts_by base trace word from start at zero fits u = starts_before base trace word from start at 0 refl u
starts_by base trace word from start at (suc bits) fits u = starts_highest base trace word from start at (suc bits) (omega arith) fits u

pub by_none : (here start bits : ℕ) → bits ≡ 0 → start_by here start bits ≡ start
by_none here start bits e = ap (start_by here start) e

pub by_some : (here start bits : ℕ) → 0 < bits → start_by here start bits ≡ here + (63 - count_leading_zeros 64 bits)
by_some here start zero h = absurd (omega (arith, h))
by_some here start (suc bits) h = refl

-- the attempt that is active before an entry begins at one point
pub starts_same : (base : ℕ) (trace : List ℕ) (from start at a b : ℕ) → StartsAt base trace from start at a → StartsAt base trace from start at b → a ≡ b
starts_same base trace from start at a b one other = elim one [
  | inl m ↦ elim other [
    | inl n ↦ m.0 ∙ sym n.0
    | inr n ↦ let l = n.1 in absurd (omega (arith, l.ended, m.1 n.0 l.after l.before))
  ]
  | inr m ↦ elim other [
    | inl n ↦ let l = m.1 in absurd (omega (arith, l.ended, n.1 m.0 l.after l.before))
    | inr n ↦ m.2 ∙ ap (λ k. base + k) (same m.0 n.0 m.1 n.1) ∙ sym n.2
  ]
]
  where
    three : (x y : ℕ) → (x < y) ⊎ ((x ≡ y) ⊎ (y < x))
    three x y = grind arith

    same : (x y : ℕ) → IsLastEnd trace from at x → IsLastEnd trace from at y → x ≡ y
    same x y p q = elim (three x y) [
      | inl l ↦ let e = q.ended in let b = q.before in absurd (omega (arith, e, p.none y (omega (arith, l)) b))
      | inr (inl e) ↦ e
      | inr (inr g) ↦ let e = p.ended in let b = p.before in absurd (omega (arith, e, q.none x (omega (arith, g)) b))
    ]

-- where it begins before a later entry, from where it began before this one
pub starts_on : (base : ℕ) (trace : List ℕ) (first start from mid at now : ℕ) → first ≤ from → from ≤ at → StartsAt base trace first start from mid → StartsAt base trace first start at now
    → StartsAt base trace from mid at now
starts_on base trace first start from mid at now le le' a b = elim b [
  | inl n ↦ inl (n.0 ∙ starts_same base trace first start from start mid (inl (refl, λ k f h. n.1 k f (omega (arith, h, le')))) a, λ k f h. n.1 k (omega (arith, f, le)) h)
  | inr n ↦
      let l = n.1 in
      elim (ways n.0 from) [
        | inr g ↦ inr (n.0, record { after = g; before = l.before; ended = l.ended; none = l.none }, n.2)
        | inl h ↦
            let before : StartsAt base trace first start from (base + n.0) = inr (n.0, record { after = l.after; before = h; ended = l.ended; none = λ k f g. l.none k f (omega (arith, g, le')) }, refl) in
            inl (n.2 ∙ starts_same base trace first start from (base + n.0) mid before a, λ k f g. l.none k (omega (arith, f, h)) g)
      ]
]

-- a mask of low bits fits a word
low_fits : (bits k : ℕ) → k ≤ 64 → bit_and bits (2 ^ k - 1) < 2 ^ 64
low_fits bits k small =
    let most : 2 ^ k ≤ 2 ^ 64 = pow-le-pow_right (omega arith) small in
    omega (arith, and_le_r bits (2 ^ k - 1), most)

-- where the attempt of a cursor begins, at each entry of its word
pub starts_at : (trace : List ℕ) (cursor : ChunkCursor) → (s : IsAt trace cursor) → (at : ℕ) → 64 * cursor.word ≤ at → at ≤ 64 * cursor.word + 64
    → StartsAt cursor.base trace s.first cursor.word_start at (start_at cursor at)
starts_at trace cursor s at low far =
    starts_by cursor.base trace cursor.word s.first cursor.word_start at _ (low_fits cursor.ends (at - 64 * cursor.word) (omega (arith, far)))
    (under_at trace cursor.word cursor.ends s.first at s.near low far s.ends_left)

-- and from its own entry on
pub starts_later : (trace : List ℕ) (cursor : ChunkCursor) → (s : IsAt trace cursor) → (at now : ℕ) → cursor.from ≤ at → StartsAt cursor.base trace s.first cursor.word_start at now
    → StartsAt cursor.base trace cursor.from (start_of cursor) at now
starts_later trace cursor s at now le there =
    starts_on cursor.base trace s.first cursor.word_start cursor.from (start_of cursor) at now s.order le
    (starts_at trace cursor s cursor.from (omega (arith, s.near, s.order)) s.far) there

-- at the end of its word
pub starts_whole : (trace : List ℕ) (cursor : ChunkCursor) → IsAt trace cursor → cursor.ends < 2 ^ 64
    → StartsAt cursor.base trace cursor.from (start_of cursor) (64 * cursor.word + 64) (start_by (cursor.base + 64 * cursor.word) cursor.word_start cursor.ends)
starts_whole trace cursor s fits =
    starts_later trace cursor s (64 * cursor.word + 64) _ s.far
    (starts_by cursor.base trace cursor.word s.first cursor.word_start (64 * cursor.word + 64) cursor.ends fits (under_whole trace cursor.word cursor.ends s.first s.near s.ends_left))

pub starts_eq : (base : ℕ) (trace : List ℕ) (from start at now at' now' : ℕ) → at ≡ at' → now ≡ now' → StartsAt base trace from start at now → StartsAt base trace from start at' now'
starts_eq base trace from start at now at' now' e e' s = subst (λ (k : ℕ). StartsAt base trace from start at' k) e' (subst (λ (k : ℕ). StartsAt base trace from start k now) e s)

-- before the first end of a word, no end of it begins the attempt
pub by_first : (trace : List ℕ) (word from bits here start : ℕ) → bits < 2 ^ 64 → IsUnder trace word from from bits → start_by here start bits ≡ start
by_first trace word from bits here start fits u = by_none here start bits (empty bits fits u)
  where
    empty : (bits : ℕ) → bits < 2 ^ 64 → IsUnder trace word from from bits → bits ≡ 0
    empty zero fits u = refl
    empty (suc bits) fits u =
        let t = leading_top 64 (suc bits) (omega arith) fits in
        let top : bit_at (suc bits) t.0 ≡ 1 = top_bit (suc bits) t.0 t.2 t.3 in
        let small : t.0 < 64 = omega (arith, t.1) in
        elim (ways (64 * word + t.0) from) [
          | inl l ↦ absurd (omega (arith, top, u.earlier t.0 small l))
          | inr g ↦ absurd (omega (arith, top, u.above t.0 small g))
        ]

-- no entry of a word without bits has something to do
pub none_left : (trace : List ℕ) (word bits from : ℕ) → bits ≡ 0 → 64 * word ≤ from → IsLeft 30 trace word bits from → NoToken trace from (64 * word + 64)
none_left trace word bits from none near left k f h =
    let i = k - 64 * word in
    let back : 64 * word + i ≡ k = omega (arith, near, f) in
    ap (token_bit trace) (sym back) ∙ sym (left.ahead i (omega (arith, back, h)) (omega (arith, back, f))) ∙ ap (λ b. bit_at b i) none ∙ bit_at-zero i

-- the lowest bit is the next one
pub next_lowest : (trace : List ℕ) (word bits from : ℕ) → word < 72 → 0 < bits → bits < 2 ^ 64 → 64 * word ≤ from → IsLeft 30 trace word bits from
    → IsNext trace from (64 * word + trailing_zeros w64 bits)
next_lowest trace word bits from within pos fits near left =
    let z = bit_at-trailing_zeros w64 bits pos fits in
    let k = trailing_zeros w64 bits in
    let at = 64 * word + k in
    let after : from ≤ at = elim (ways at from) [
      | inl l ↦ absurd (omega (arith, z.1, left.earlier k z.0 l))
      | inr g ↦ g
    ] in
    record {
      after = after;
      within = omega (arith, z.0, within);
      token = sym (left.ahead k z.0 after) ∙ z.1;
      first = λ j f h.
          let i = j - 64 * word in
          let back : 64 * word + i ≡ j = omega (arith, near, f) in
          ap (token_bit trace) (sym back) ∙ sym (left.ahead i (omega (arith, back, h, z.0)) (omega (arith, back, f))) ∙ z.2 i (omega (arith, back, h));
    }

-- no end, and then another one or none
pub starts_join : (base : ℕ) (trace : List ℕ) (from start mid now at then : ℕ) → from ≤ mid → mid ≤ at → StartsAt base trace from start mid now → StartsAt base trace mid now at then
    → StartsAt base trace from start at then
starts_join base trace from start mid now at then le le' a b = elim b [
  | inl n ↦ elim a [
    | inl m ↦ inl (n.0 ∙ m.0, λ k f h. elim (ways k mid) [ inl l ↦ m.1 k f l | inr g ↦ n.1 k g h ])
    | inr l ↦
        let last = l.1 in
        inr (
          l.0,
          record {
            after = last.after;
            before = (let b = last.before in omega (arith, b, le'));
            ended = last.ended;
            none = λ k f h. elim (ways k mid) [ inl s ↦ last.none k f s | inr g ↦ n.1 k g h ];
          },
          n.0 ∙ l.2,
        )
  ]
  | inr l ↦
      let last = l.1 in
      inr (
        l.0,
        record {
          after = (let f = last.after in omega (arith, f, le));
          before = last.before;
          ended = last.ended;
          none = last.none;
        },
        l.2,
      )
]

-- nothing to do, and then nothing again
pub none_later : (trace : List ℕ) (from mid to : ℕ) → NoToken trace from mid → NoToken trace mid to → NoToken trace from to
none_later trace from mid to a b k f h = elim (ways k mid) [ inl l ↦ a k f l | inr g ↦ b k g h ]

-- the next one after nothing to do
pub next_later : (trace : List ℕ) (from mid at : ℕ) → from ≤ mid → NoToken trace from mid → IsNext trace mid at → IsNext trace from at
next_later trace from mid at le none n = record {
  after = (let a = n.after in omega (arith, a, le));
  within = n.within;
  token = n.token;
  first = none_later trace from mid at none n.first;
}

-- the bases are equal
pub starts_from : (base other : ℕ) (trace : List ℕ) (from start at now : ℕ) → base ≡ other → StartsAt base trace from start at now → StartsAt other trace from start at now
starts_from base other trace from start at now e s = subst (λ b. StartsAt b trace from start at now) e s

-- so a cursor before its first end
pub start_first : (trace : List ℕ) (cursor : ChunkCursor) → (s : IsAt trace cursor) → cursor.from ≡ s.first → start_of cursor ≡ cursor.word_start
start_first trace cursor s e =
    let near : 64 * cursor.word ≤ cursor.from = omega (arith, s.near, e) in
    by_first trace cursor.word cursor.from _ (cursor.base + 64 * cursor.word) cursor.word_start (low_fits cursor.ends (cursor.from - 64 * cursor.word) (omega (arith, s.far)))
    (under_at trace cursor.word cursor.ends cursor.from cursor.from near near s.far (subst (λ (k : ℕ). IsLeft 31 trace cursor.word cursor.ends k) (sym e) s.ends_left))

-- after a match that ends at the entry that it has passed, the attempt begins there
pub start_ended : (trace : List ℕ) (cursor : ChunkCursor) → (s : IsAt trace cursor) → (at : ℕ) → s.first ≤ at → 64 * cursor.word ≤ at → cursor.from ≡ at + 1 → end_bit trace at ≡ 1
    → start_of cursor ≡ cursor.base + at
start_ended trace cursor s at le low e ended =
    starts_same cursor.base trace s.first cursor.word_start cursor.from (start_of cursor) (cursor.base + at)
    (starts_at trace cursor s cursor.from (omega (arith, low, e)) s.far)
    (inr (at, record { after = le; before = omega (arith, e); ended = ended; none = λ k f h. absurd (omega (arith, f, h, e)) }, refl))

-- a cursor after the lowest bit of its tokens
abbrev pub after_lowest : ChunkCursor → ChunkCursor
after_lowest cursor = record {
  base = cursor.base;
  from = 64 * cursor.word + trailing_zeros w64 cursor.tokens + 1;
  word_start = cursor.word_start;
  word = cursor.word;
  tokens = bit_and cursor.tokens (bit_not w64 (1 * 2 ^ trailing_zeros w64 cursor.tokens % 2 ^ 64));
  ends = cursor.ends;
}

abbrev pub is_at_after : (trace : List ℕ) (cursor : ChunkCursor) → 0 < cursor.tokens → cursor.tokens < 2 ^ 64 → IsAt trace cursor → IsAt trace (after_lowest cursor)
is_at_after trace cursor pos fits s =
    let z = bit_at-trailing_zeros w64 cursor.tokens pos fits in
    let bit = trailing_zeros w64 cursor.tokens in
    let next = next_lowest trace cursor.word cursor.tokens cursor.from s.within pos fits (omega (arith, s.near, s.order)) s.tokens_left in
    record {
      within = s.within;
      far = omega (arith, z.0);
      tokens_left = left_after 30 trace cursor.word cursor.tokens cursor.from bit z.0 next.after z.2 s.tokens_left;
      first = s.first;
      near = s.near;
      order = omega (arith, s.order, next.after);
      ends_left = s.ends_left;
    }

-- a cursor passes no entry, or some and then others
pub passes_none : (trace : List ℕ) (cursor : ChunkCursor) → Passes trace cursor cursor
passes_none trace cursor = record {
  base = refl;
  order = omega arith;
  none = λ k f h. absurd (omega (arith, f, h));
  starts = inl (refl, λ k f h. absurd (omega (arith, f, h)));
}

pub passes_on : (trace : List ℕ) (old mid new : ChunkCursor) → Passes trace old mid → Passes trace mid new → Passes trace old new
passes_on trace old mid new a b = record {
  base = b.base ∙ a.base;
  order = (let f = a.order in let g = b.order in omega (arith, f, g));
  none = none_later trace old.from mid.from new.from a.none b.none;
  starts = starts_join old.base trace old.from (start_of old) mid.from (start_of mid) new.from (start_of new) a.order b.order a.starts
      (starts_from mid.base old.base trace mid.from (start_of mid) new.from (start_of new) a.base b.starts);
}

-- a cursor that moves to the next word passes the rest of this one
pub passes_word : (trace : List ℕ) (old new : ChunkCursor) → IsAt trace old → (t : IsAt trace new) → old.ends < 2 ^ 64 → old.tokens ≡ 0 → new.base ≡ old.base → new.from ≡ t.first →
    new.from ≡ 64 * old.word + 64 → new.word_start ≡ start_by (old.base + 64 * old.word) old.word_start old.ends → Passes trace old new
passes_word trace old new s t fits none eb ef en es =
    let far : 64 * old.word + 64 ≡ new.from = sym en in
    record {
      base = eb;
      order = omega (arith, s.far, en);
      none = subst (λ (k : ℕ). NoToken trace old.from k) far (none_left trace old.word old.tokens old.from none (omega (arith, s.near, s.order)) s.tokens_left);
      starts = starts_eq old.base trace old.from (start_of old) (64 * old.word + 64) (start_by (old.base + 64 * old.word) old.word_start old.ends) new.from (start_of new) far
          (sym es ∙ sym (start_first trace new t ef)) (starts_whole trace old s fits);
    }
