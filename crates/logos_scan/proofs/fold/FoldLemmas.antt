-- The state of a match attempt after a byte, and the entries that represent it.
use Rattle.std.proofs.Common.{◌≡◌, ◌≢◌, ℕ, ◌+◌, ◌-◌, ◌*◌, ◌%◌, ◌<◌, ◌≤◌, ◌⊎◌, inl, inr, ⊎_elim, true, false, List, ◌++◌, length, length-append, set, get_or-set_same, get_or-set_other, get_or-append-add, replicate, Some, refl, sym, ap, subst, ◌∙◌, arith, slice_index}
use Rattle.std.proofs.lemmas.List.{get_or_append_left, get_or-replicate}
use Rattle.std.proofs.lemmas.Nat.{and_mask}
use Rattle.std.proofs.lemmas.Option.{slice_get-get_or}
use Rattle.logos_code.specs.Code.{CodeValue}
use Rattle.logos_code.specs.CodeView.{state_at, no_state}
use Rattle.logos_code.specs.Headline.{IsSound, NamesExisting}
use Rattle.logos_code.specs.Runs.{stays, target}
use Rattle.logos_code.specs.declared.code.rows.MatchUse.{MatchUse}
use Rattle.logos_code.specs.declared.code.rows.MatchUse.TheVariants.{Emits, Skips, CallsBack}
use Rattle.logos_code.proofs.TargetLemmas.{All-slice_get, target_there}
use Rattle.logos_scan.specs.walk.Walk.{row_start_of}
use Rattle.logos_scan.specs.fold.Folds.{Goes, IsEnded, IsFew, IsFolded, IsFoldedRow, IsWithin, flags_of}

-- a state is small
pub small : (code : CodeValue) (s : ℕ) → IsFew code → s < length code.states → 272 * s + 272 ≤ 1048576
small code s few there = omega (arith, few, there)

-- a byte that leads to a state
pub goes_target : (code : CodeValue) (s b next : ℕ) → IsSound code → s < length code.states → stays code (state_at code s).fast_loop b ≡ false →
    target code (state_at code s).fork b ≡ Some next → Goes code s b (272 * next)
goes_target code s b next sound there out leads =
    let names = All-slice_get (NamesExisting code) code.states s (state_at code s) sound.states (slice_get-get_or code.states s no_state there) in
    record {
      next = next;
      there = target_there code (state_at code s).fork b next names.fork leads;
      is = refl;
      takes = inr (out, leads);
    }

pub target_small : (code : CodeValue) (s b next : ℕ) → IsFew code → IsSound code → s < length code.states → target code (state_at code s).fork b ≡ Some next →
    272 * next + 272 ≤ 1048576
target_small code s b next few sound there leads =
    let names = All-slice_get (NamesExisting code) code.states s (state_at code s) sound.states (slice_get-get_or code.states s no_state there) in
    small code next few (target_there code (state_at code s).fork b next names.fork leads)

-- one that stays
pub goes_stays : (code : CodeValue) (s b : ℕ) → s < length code.states → stays code (state_at code s).fast_loop b ≡ true → Goes code s b (272 * s)
goes_stays code s b there on = record { next = s; there = there; is = refl; takes = inl (on, refl) }

-- the row offset in an entry
pub row_start_is : (entry : ℕ) → row_start_of entry ≡ entry % 1048576
row_start_is entry = and_mask entry 20

-- an entry without flags
pub folded_goes : (code : CodeValue) (s b row_start : ℕ) → IsFew code → Goes code s b row_start → IsFolded code s b row_start × IsWithin code (row_start_of row_start)
folded_goes code s b row_start few g =
    let there = g.there in
    let is = g.is in
    let small : row_start < 1048576 = omega (arith, few, there, is) in
    let same : row_start_of row_start ≡ row_start = row_start_is row_start ∙ omega (arith, small) in (
      record {
        goes = λ z w. subst (Goes code s b) (sym same) g;
        ends = λ o. absurd (omega (arith, o, small));
      },
      omega (arith, same, there, is),
    )

-- an entry that does not describe its step
pub folded_token : (code : CodeValue) (s b row_start : ℕ) → row_start < 1048576 → row_start + 255 < 272 * length code.states →
    IsFolded code s b (1073741824 + row_start) × IsWithin code (row_start_of (1073741824 + row_start))
folded_token code s b row_start small within =
    let same : row_start_of (1073741824 + row_start) ≡ row_start = row_start_is (1073741824 + row_start) ∙ omega (arith, small) in (
      record {
        goes = λ z w. absurd (omega (arith, w, small));
        ends = λ o. absurd (omega (arith, o, small));
      },
      omega (arith, same, within),
    )

-- the bits of an entry with flags
pub ended_is : (entry leaf : ℕ) (used : MatchUse) (row_start : ℕ) → leaf < 512 → row_start < 1048576 → entry ≡ flags_of used + 1048576 * leaf + row_start → IsEnded entry leaf used row_start
ended_is entry leaf Emits row_start l p e = record {
  ended = omega (arith, e, l, p);
  has_use = (omega (arith, e, l, p), omega (arith, e, l, p));
  is_leaf = omega (arith, e, l, p);
  is_row_start = row_start_is entry ∙ omega (arith, e, l, p);
}
ended_is entry leaf Skips row_start l p e = record {
  ended = omega (arith, e, l, p);
  has_use = omega (arith, e, l, p);
  is_leaf = omega (arith, e, l, p);
  is_row_start = row_start_is entry ∙ omega (arith, e, l, p);
}
ended_is entry leaf CallsBack row_start l p e = record {
  ended = omega (arith, e, l, p);
  has_use = (omega (arith, e, l, p), omega (arith, e, l, p));
  is_leaf = omega (arith, e, l, p);
  is_row_start = row_start_is entry ∙ omega (arith, e, l, p);
}

either : (a b : ℕ) → a < b + 1 → (a < b) ⊎ (b ≡ a)
either a b h = grind arith

-- a row without entries
pub blank : (code : CodeValue) (s k : ℕ) → s < length code.states → k < 272 → IsWithin code (row_start_of (slice_index (replicate 272 0) k))
blank code s k there h =
    let none : row_start_of (slice_index (replicate 272 0) k) ≡ 0 = ap row_start_of (get_or-replicate 272 k 0 0 h) ∙ row_start_is 0 in
    omega (arith, none, there)

module _ (code : CodeValue) (s : ℕ) (row : List ℕ) (b entry : ℕ) (long : length row ≡ 272) (within : b < 256) where
  -- the entries of the bytes so far
  pub row_each : IsFolded code s b entry → ((k : ℕ) → k < b → IsFolded code s k (slice_index row k)) → (k : ℕ) → k < b + 1 → IsFolded code s k (slice_index (set row b entry) k)
  row_each is each k h = ⊎_elim old now (either k b h)
    where
      old : k < b → IsFolded code s k (slice_index (set row b entry) k)
      old l = rw (get_or-set_other row b k entry 0 (λ e. omega (arith, e, l))) (each k l)

      now : b ≡ k → IsFolded code s k (slice_index (set row b entry) k)
      now e = subst (λ n. IsFolded code s n (slice_index (set row b entry) n)) e (rw (get_or-set_same row b entry 0 (omega (arith, within, long))) is)

  pub row_within : IsWithin code (row_start_of entry) → ((k : ℕ) → k < 272 → IsWithin code (row_start_of (slice_index row k))) → (k : ℕ) → k < 272 →
      IsWithin code (row_start_of (slice_index (set row b entry) k))
  row_within is each k h = ⊎_elim other same (apart k b)
    where
      apart : (x y : ℕ) → (x ≢ y) ⊎ (y ≡ x)
      apart x y = grind arith

      other : k ≢ b → IsWithin code (row_start_of (slice_index (set row b entry) k))
      other d = rw (get_or-set_other row b k entry 0 d) (each k h)

      same : b ≡ k → IsWithin code (row_start_of (slice_index (set row b entry) k))
      same e = subst (λ n. IsWithin code (row_start_of (slice_index (set row b entry) n))) e (rw (get_or-set_same row b entry 0 (omega (arith, within, long))) is)

-- the rows of one state more
module _ (code : CodeValue) (rows row : List ℕ) (s : ℕ) (count : length rows ≡ 272 * s) (long : length row ≡ 272) (is : IsFoldedRow code s row) where
  pub rows_count : length (rows ++ row) ≡ 272 * (s + 1)
  rows_count = omega (arith, count, long, length-append rows row)

  pub rows_each : ((k b : ℕ) → k < s → b < 256 → IsFolded code k b (slice_index rows (272 * k + b))) →
      (k b : ℕ) → k < s + 1 → b < 256 → IsFolded code k b (slice_index (rows ++ row) (272 * k + b))
  rows_each each k b h within = ⊎_elim old now (either k s h)
    where
      old : k < s → IsFolded code k b (slice_index (rows ++ row) (272 * k + b))
      old l = rw (get_or_append_left rows row 0 (272 * k + b) (omega (arith, l, count, within))) (each k b l within)

      added : slice_index (rows ++ row) (272 * s + b) ≡ slice_index row b
      added = rw (← count) (get_or-append-add rows row b 0)

      now : s ≡ k → IsFolded code k b (slice_index (rows ++ row) (272 * k + b))
      now e = subst (λ n. IsFolded code n b (slice_index (rows ++ row) (272 * n + b))) e (rw added (is.each b within))

  pub rows_within : ((k : ℕ) → k < 272 * s → IsWithin code (row_start_of (slice_index rows k))) → (k : ℕ) → k < 272 * (s + 1) → IsWithin code (row_start_of (slice_index (rows ++ row) k))
  rows_within each k h = ⊎_elim old now (ways k (272 * s))
    where
      ways : (x y : ℕ) → (x < y) ⊎ (y ≤ x)
      ways x y = grind arith

      old : k < 272 * s → IsWithin code (row_start_of (slice_index (rows ++ row) k))
      old l = rw (get_or_append_left rows row 0 k (omega (arith, l, count))) (each k l)

      now : 272 * s ≤ k → IsWithin code (row_start_of (slice_index (rows ++ row) k))
      now g =
          let b = k - 272 * s in
          let back : length rows + b ≡ k = omega (arith, g, count) in
          subst (λ n. IsWithin code (row_start_of (slice_index (rows ++ row) n))) back (rw (get_or-append-add rows row b 0) (is.within b (omega (arith, h, g))))
