-- A scan by the entries of a chunk: from one entry to a later one, and past the pending ones.
use Rattle.std.proofs.Common.{◌≡◌, ℕ, zero, suc, ◌+◌, ◌-◌, ◌*◌, ◌<◌, ◌≤◌, inl, inr, List, length, drop, get_or, slice_index, refl, sym, ap, subst, ◌∙◌, arith, get_or-drop}
use Rattle.std.specs.Int.{bit_at}
use Rattle.std.proofs.lemmas.Nat.Bits.{bit_at-lt, bit_at-zero}
use Rattle.logos_automaton.specs.Munch.{matched}
use Rattle.logos_code.specs.Code.{CodeValue}
use Rattle.logos_code.specs.Rows.{IsUse}
use Rattle.logos_code.specs.declared.code.rows.MatchUse.{MatchUse}
use Rattle.logos_code.specs.declared.code.rows.MatchUse.TheVariants.{Emits, Skips, CallsBack}
use Rattle.logos_scan.specs.fold.Folds.{AreFolded, IsFolded, EndsAs, HasUse, leaf_of}
use Rattle.logos_machine.specs.inside.Looks.{Attempted}
use Rattle.logos_scan.specs.Attempts.{ComesTo, SkipsTo, skips_none, skips_then}
use Rattle.logos_scan.proofs.AttemptLemmas.{is_at_begun, is_at_goes, attempted_ends}
use Rattle.logos_scan.specs.walk.Cursor.{token_bit, end_bit, NoToken, StartsAt}
use Rattle.logos_scan.specs.walk.Walk.{Walked, row_start_of}
use Rattle.logos_scan.proofs.walk.CursorLemmas.{ways, starts_join}
use Rattle.logos_scan.proofs.walk.WalkLemmas.{walked_rest}

module _ (code : CodeValue) (rows : List ℕ) (folded : AreFolded code rows) (input : List ℕ) (are : (k : ℕ) → get_or input k 0 < 256) (base count last : ℕ) (entries : List ℕ)
    (fits : base + count ≤ length input) where
  -- a match attempt is active before an entry, and the entries from there on are those of a walk
  pub record Holds (start at row_start : ℕ) : Type 0 where
    pub is_at : ComesTo code input start (base + at) row_start
    pub walked : Walked rows (drop base input) row_start entries at count last
    pub starts : start ≤ length input

  module _ (start at row_start : ℕ) (h : Holds start at row_start) (inside : at < count) where
    abbrev entry : ℕ
    entry = slice_index entries at

    abbrev state : ℕ
    state = h.is_at.state

    abbrev byte : ℕ
    byte = get_or input (base + at) 0

    -- the entry is that of its byte
    is_folded : IsFolded code state byte entry
    is_folded =
        let s = h.is_at in
        let w = h.walked in
        let is_at = s.comes.is_at in
        let same : slice_index (drop base input) at ≡ byte = get_or-drop base input at 0 in
        let row : slice_index (drop base input) at + row_start ≡ 272 * state + byte = omega (arith, same, s.is) in
        let is : entry ≡ slice_index rows (272 * state + byte) = w.first inside ∙ ap (slice_index rows) row in
        subst (IsFolded code state byte) (sym is) (folded.each state byte is_at.state (are (base + at)))

    within : base + at < length input
    within = omega (arith, inside, fits)

    rest : Walked rows (drop base input) (row_start_of entry) entries (at + 1) count last
    rest = walked_rest rows (drop base input) row_start entries at count last inside h.walked

    next_byte : (p : ℕ) → ComesTo code input start (base + at + 1) p → ComesTo code input start (base + (at + 1)) p
    next_byte p s = let e : base + at + 1 ≡ base + (at + 1) = omega arith in subst (λ (k : ℕ). ComesTo code input start k p) e s

    -- an entry without flags
    pub holds_on : end_bit entries at ≡ 0 → token_bit entries at ≡ 0 → Holds start (at + 1) (row_start_of entry)
    holds_on e t = record {
      is_at = next_byte (row_start_of entry) (is_at_goes code folded.sound input start h.starts (base + at) row_start h.is_at within (row_start_of entry) (let f = is_folded in f.goes e t));
      walked = rest;
      starts = h.starts;
    }

    -- one before whose byte a match ends
    pub ends_as : end_bit entries at ≡ 1 → EndsAs code state byte entry
    ends_as e = let f = is_folded in (f.ends e).0

    pub attempted : (e : end_bit entries at ≡ 1) → ((n : ℕ) × Attempted code input start (matched (leaf_of entry) (base + at)) n) × IsUse code (leaf_of entry) (ends_as e).used
    attempted e = attempted_ends code folded.sound input start h.starts (base + at) row_start h.is_at within entry (ends_as e)

    -- the next attempt begins there
    pub holds_next : end_bit entries at ≡ 1 → Holds (base + at) (at + 1) (row_start_of entry)
    holds_next e =
        let f = is_folded in
        let past : base + at ≤ length input = omega (arith, within) in
        let s = is_at_goes code folded.sound input (base + at) past (base + at) (272 * code.root) (is_at_begun code folded.sound input (base + at) past) within (row_start_of entry) (f.ends e).1 in
        record {
          is_at = (let e : base + at + 1 ≡ base + (at + 1) = omega arith in subst (λ (k : ℕ). ComesTo code input (base + at) k (row_start_of entry)) e s);
          walked = rest;
          starts = past;
        }

    -- it is skipped where there is nothing to do
    skips : (e : end_bit entries at ≡ 1) → token_bit entries at ≡ 0 → IsUse code (leaf_of entry) Skips
    skips e t = by_use (ends_as e).used ((ends_as e).has_use) (attempted e).1
      where
        by_use : (used : MatchUse) → HasUse entry used → IsUse code (leaf_of entry) used → IsUse code (leaf_of entry) Skips
        by_use Skips has is = is
        by_use Emits has is = absurd (let o = has.0 in omega (arith, o, t))
        by_use CallsBack has is = absurd (let o = has.0 in omega (arith, o, t))

  -- from the entry before which the one attempt is active, this attempt is active before a later
  -- entry, and those between are skipped
  pub record Later (from first at : ℕ) : Type 0 where
    pub start : ℕ
    pub row_start : ℕ
    pub holds : Holds start at row_start
    pub skipped : SkipsTo code input first start
    pub starts_at : StartsAt base entries from first at start

  one : (k at : ℕ) → at ≤ k → k < at + 1 → at ≡ k
  one k at f h = omega (arith, f, h)

  later_none : (at start row_start : ℕ) → Holds start at row_start → Later at start at
  later_none at start row_start h = record {
    start = start;
    row_start = row_start;
    holds = h;
    skipped = skips_none start;
    starts_at = inl (refl, λ k f l. absurd (omega (arith, f, l)));
  }

  later_more : (from first at : ℕ) → from ≤ at → at < count → token_bit entries at ≡ 0 → Later from first at → Later from first (at + 1)
  later_more from first at le inside t l = by (end_bit entries at) refl (bit_at-lt (slice_index entries at) 31)
    where
      by : (b : ℕ) → end_bit entries at ≡ b → b < 2 → Later from first (at + 1)
      by zero e s = record {
        start = l.start;
        row_start = row_start_of (slice_index entries at);
        holds = holds_on l.start at l.row_start l.holds inside e t;
        skipped = l.skipped;
        starts_at = starts_join base entries from first at l.start (at + 1) l.start le (omega arith) l.starts_at
            (inl (refl, λ k f h. ap (end_bit entries) (sym (one k at f h)) ∙ e));
      }
      by (suc zero) e s = record {
        start = base + at;
        row_start = row_start_of (slice_index entries at);
        holds = holds_next l.start at l.row_start l.holds inside e;
        skipped = skips_then first l.start (base + at) (leaf_of (slice_index entries at)) (attempted l.start at l.row_start l.holds inside e).0.0 l.skipped
            (attempted l.start at l.row_start l.holds inside e).0.1 (skips l.start at l.row_start l.holds inside e t);
        starts_at = inr (
          at,
          record {
            after = le;
            before = omega arith;
            ended = e;
            none = λ k f h. absurd (omega (arith, f, h));
          },
          refl,
        );
      }
      by (suc (suc b)) e s = absurd (omega (arith, s))

  later_up : (n from start row_start : ℕ) → from + n ≤ count → NoToken entries from (from + n) → Holds start from row_start → Later from start (from + n)
  later_up zero from start row_start le none h =
      let e : from ≡ from + zero = omega arith in
      subst (λ (k : ℕ). Later from start k) e (later_none from start row_start h)
  later_up (suc n) from start row_start le none h =
      let e : from + n + 1 ≡ from + suc n = omega arith in
      let before = later_up n from start row_start (omega (arith, le)) (λ k f l. none k f (omega (arith, l))) h in
      subst (λ (k : ℕ). Later from start k) e (later_more from start (from + n) (omega arith) (omega (arith, le)) (none (from + n) (omega arith) (omega arith)) before)

  -- the attempt that is active before a later entry
  pub later_at : (from to start row_start : ℕ) → from ≤ to → to ≤ count → NoToken entries from to → Holds start from row_start → Later from start to
  later_at from to start row_start le inside none h =
      let n = to - from in
      let e : from + n ≡ to = omega (arith, le) in
      subst (λ (k : ℕ). Later from start k) e (later_up n from start row_start (omega (arith, e, inside)) (λ k f l. none k f (omega (arith, l, e))) h)

  -- the end of the bytes, after which no flag is set
  pub starts_short : (from start now : ℕ) → count ≤ 4608 → ((k : ℕ) → count ≤ k → k < 4608 → slice_index entries k ≡ 0) → StartsAt base entries from start 4608 now →
      StartsAt base entries from start count now
  starts_short from start now few none s = elim s [
    | inl m ↦ inl (m.0, λ k f h. m.1 k f (omega (arith, h, few)))
    | inr m ↦
        let l = m.1 in
        let ended = l.ended in
        let lt : m.0 < count = elim (ways m.0 count) [
          | inl a ↦ a
          | inr g ↦ absurd (omega (arith, ended, ap (λ x. bit_at x 31) (none m.0 g l.before), bit_at-zero 31))
        ] in
        inr (m.0, record { after = l.after; before = lt; ended = ended; none = λ k f h. l.none k f (omega (arith, h, few)) }, m.2)
  ]
