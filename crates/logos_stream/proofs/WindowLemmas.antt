-- The bytes of a part, as a window moves in them and more are read.
use Rattle.std.proofs.Common.{◌≡◌, ◌∙◌, ◌⊎◌, inl, inr, ⊎_elim, ℕ, zero, suc, ◌+◌, ◌-◌, ◌<◌, ◌≤◌, ◌^◌, min, Bool, true, false, ◌||◌, IsTrue, IsFalse, List, [], ◌++◌, append-nil, length, take, drop, slice_range, Option, None, Some, IsUtf8, IsCharBoundary, refl, sym, ap, subst, arith}
use Rattle.std.specs.Io.KnownBytes.{Consumes, IsAtEnd}
use Rattle.std.proofs.Math.Seq.{take-add}
use Rattle.std.proofs.lemmas.List.{drop-append-le, drop-drop, drop-take, length-append, length-drop, length-take, take-append-drop, take-append-le, take-take, take_all}
use Rattle.std.proofs.lemmas.Str.{IsCharBoundary-start, IsUtf8-append, IsUtf8-drop, IsUtf8-nil}
use Rattle.logos_stream.specs.Moves.{IsTorn}
use Rattle.logos_stream.specs.Tails.{IsTail}
use Rattle.logos_stream.specs.WindowValue.{GoesPast, HasEnded, IsWindow, ReadsOn, WindowValue}
use Rattle.logos_stream.specs.declared.tail.Tail.{Tail}

module _ (part : List ℕ) (at ready : ℕ) (order : at ≤ ready) (within : ready ≤ length part) where
  pub lexed_length : length (slice_range part at ready) ≡ ready - at
  lexed_length = omega (arith, length-take (ready - at) (drop at part), length-drop at part)

  module _ (to : ℕ) (fits : to ≤ ready - at) where
    -- the rest after some bytes of a slice
    pub left_after : slice_range part (at + to) ready ≡ drop to (slice_range part at ready)
    left_after =
        let e : ready - at ≡ to + (ready - (at + to)) = omega arith in
        ap (take (ready - (at + to))) (sym (drop-drop to at part))
        ∙ sym (drop-take to (ready - (at + to)) (drop at part))
        ∙ ap (λ n. drop to (take n (drop at part))) (sym e)

    module _ (from : ℕ) (ordered : from ≤ to) where
      -- a slice of it
      pub slice_of : slice_range part (at + from) (at + to) ≡ slice_range (slice_range part at ready) from to
      slice_of =
          let e : (at + to) - (at + from) ≡ to - from = omega arith in
          let k : ready - at ≡ from + (ready - at - from) = omega arith in
          let short : to - from ≤ ready - at - from = omega arith in
          ap (λ n. take n (drop (at + from) part)) e
          ∙ ap (take (to - from)) (sym (drop-drop from at part))
          ∙ sym (take-take (to - from) (ready - at - from) (drop from (drop at part)) short)
          ∙ ap (take (to - from)) (sym (drop-take from (ready - at - from) (drop at part)) ∙ ap (λ n. drop from (take n (drop at part))) (sym k))

      -- the bytes before a slice, and the slice
      pub passed_are : slice_range part at (at + from) ++ slice_range part (at + from) (at + to) ≡ take to (slice_range part at ready)
      passed_are =
          let a : (at + from) - at ≡ from = omega arith in
          let b : (at + to) - (at + from) ≡ to - from = omega arith in
          let c : from + (to - from) ≡ to = omega arith in
          ap (λ n. take n (drop at part) ++ slice_range part (at + from) (at + to)) a
          ∙ ap (λ n. take from (drop at part) ++ take n (drop (at + from) part)) b
          ∙ ap (λ l. take from (drop at part) ++ take (to - from) l) (sym (drop-drop from at part))
          ∙ sym (take-add from (to - from) (drop at part))
          ∙ ap (λ n. take n (drop at part)) c
          ∙ sym (take-take to (ready - at) (drop at part) fits)

  -- the same after the bytes before it are gone
  pub lexed_moved : slice_range (drop at part) 0 (ready - at) ≡ slice_range part at ready
  lexed_moved = let e : ready - at - 0 ≡ ready - at = omega arith in ap (λ n. take n (drop at part)) e

  pub after_moved : drop (ready - at) (drop at part) ≡ drop ready part
  after_moved = let e : at + (ready - at) ≡ ready = omega arith in drop-drop (ready - at) at part ∙ ap (λ n. drop n part) e

-- the bytes from an offset up to the end
pub to_end : (part : List ℕ) (from : ℕ) → take (length part - from) (drop from part) ≡ drop from part
to_end part from = take_all (length part - from) (drop from part) (omega (arith, length-drop from part))

-- more bytes, of which some can be lexed
module _ (part added : List ℕ) (ready : ℕ) (within : ready ≤ length part) where
  pub unlexed_are : drop ready (part ++ added) ≡ drop ready part ++ added
  unlexed_are = drop-append-le ready part added within

  module _ (more : ℕ) where
    pub lexed_grown : slice_range (part ++ added) 0 (ready + more) ≡ slice_range part 0 ready ++ take more (drop ready part ++ added)
    lexed_grown =
        let e : ready + more - 0 ≡ ready + more = omega arith in
        let f : ready ≡ ready - 0 = omega arith in
        ap (λ n. take n (part ++ added)) e
        ∙ take-add ready more (part ++ added)
        ∙ ap (λ l. l ++ take more (drop ready (part ++ added))) (front ∙ ap (λ n. take n part) f)
        ∙ ap (λ l. slice_range part 0 ready ++ take more l) unlexed_are
      where
        front : take ready (part ++ added) ≡ take ready part
        front = take-append-le ready part added within

    pub after_grown : drop (ready + more) (part ++ added) ≡ drop more (drop ready part ++ added)
    after_grown = sym (drop-drop more ready (part ++ added)) ∙ ap (drop more) unlexed_are

    pub bytes_grown : slice_range (part ++ added) 0 (ready + more) ++ drop (ready + more) (part ++ added) ≡ (slice_range part 0 ready ++ drop ready part) ++ added
    bytes_grown =
        let e : ready + more - 0 ≡ ready + more = omega arith in
        let f : ready ≡ ready - 0 = omega arith in
        ap (λ n. take n (part ++ added) ++ drop (ready + more) (part ++ added)) e
        ∙ take-append-drop (ready + more) (part ++ added)
        ∙ ap (λ l. l ++ added) (sym (take-append-drop ready part) ∙ ap (λ n. take n part ++ drop ready part) f)

-- a text is cut at its start
cut_at : (bytes : List ℕ) (to : ℕ) → IsUtf8 bytes → (0 < to → IsCharBoundary bytes to) → IsCharBoundary bytes to
cut_at bytes zero u h = IsCharBoundary-start bytes u
cut_at bytes (suc n) u h = h (omega arith)

module _ (utf8 : Bool) (part : List ℕ) (most : ℕ) (over : Bool) (before first at ready : ℕ) (last : Bool) (limit least : ℕ)
    (is : IsWindow utf8 part most over before first at ready last limit least) (from to : ℕ) (ordered : from ≤ to) (fits : to ≤ length (slice_range part at ready)) where
  inside : to ≤ ready - at
  inside = omega (arith, fits, lexed_length part at ready is.order is.within)

  -- the invariant after a span was passed
  pub moved_window : (IsTrue utf8 → 0 < to → IsCharBoundary (slice_range part at ready) to) → IsWindow utf8 part most over at (at + from) (at + to) ready last limit least
  moved_window cut = record {
    skipped = omega arith;
    span = omega (arith, ordered);
    order = let o = is.order in omega (arith, inside, o);
    within = is.within;
    text = λ t.
        let u : IsUtf8 (slice_range part at ready) = is.text t in
        subst IsUtf8 (sym (left_after part at ready is.order is.within to inside)) (IsUtf8-drop (slice_range part at ready) to u (cut_at (slice_range part at ready) to u (cut t)));
    ended = is.ended;
    bound = is.bound;
    wanted = is.wanted;
  }

  -- and the part of it that callers see
  pub moved_past : {R : Type 0} (reader : R) (offset next bound wanted : ℕ) → next ≡ min (offset + to) (2 ^ 64 - 1) →
      GoesPast {R = R} to
      (record {
        reader = reader;
        utf8 = utf8;
        skipped = slice_range part before first;
        slice = slice_range part first at;
        lexed = slice_range part at ready;
        after = drop ready part;
        is_last = last;
        is_over = over;
        offset = offset;
        bound = bound;
        wanted = wanted;
      })
      (record {
        reader = reader;
        utf8 = utf8;
        skipped = slice_range part at (at + from);
        slice = slice_range part (at + from) (at + to);
        lexed = slice_range part (at + to) ready;
        after = drop ready part;
        is_last = last;
        is_over = over;
        offset = next;
        bound = bound;
        wanted = wanted;
      })
  moved_past reader offset next bound wanted sum = record {
    utf8 = refl;
    reader = refl;
    within = fits;
    passed = passed_are part at ready is.order is.within to inside from ordered;
    lexed = left_after part at ready is.order is.within to inside;
    after = refl;
    is_last = refl;
    is_over = refl;
    offset = λ small. omega (arith, sum, small);
    bound = refl;
  }

  pub moved_slice : slice_range part (at + from) (at + to) ≡ slice_range (slice_range part at ready) from to
  moved_slice = slice_of part at ready is.order is.within to inside from ordered

-- the event after the last bytes
pub torn_last : {R : Type 0} (window : WindowValue R) → HasEnded window.utf8 window.is_over window.after → 0 < length window.after → IsTorn window
torn_last window ended some = ⊎_elim
    (λ e. absurd (let n : length window.after ≡ 0 = ap length e.0 in omega (arith, some, n)))
    (λ t. record { at_fault = t.1.0; none = t.1.1; why = t.1.2 })
    ended

pub over_last : {R : Type 0} (window : WindowValue R) → HasEnded window.utf8 window.is_over window.after → length window.after ≤ 0 → (window.after ≡ []) × IsTrue window.is_over
over_last window ended none = ⊎_elim
    (λ e. e)
    (λ t. absurd (let s = t.1.1.none.short in omega (arith, none, s)))
    ended

-- ---- reading

either : (a b : Bool) → IsTrue (a || b) → IsTrue b ⊎ IsTrue a
either true b h = inr refl
either false b h = inl h

second : (a b : Bool) → IsTrue b → IsTrue (a || b)
second true b h = refl
second false b h = h

alone : (a b : Bool) → a ≡ false → IsTrue (a || b) → IsTrue b
alone true b e h = absurd (let f : false ≡ true = sym e in cc)
alone false b e h = h

module _ (utf8 : Bool) (part : List ℕ) (most : ℕ) (was : Bool) (before first at ready : ℕ) (last : Bool) (limit least : ℕ)
    (is : IsWindow utf8 part most was before first at ready last limit least)
    (added next : List ℕ) (grows : next ≡ drop at part ++ added) (tail : Tail) (is_tail : IsTail utf8 (drop (ready - at) next) tail) where
  kept : ready - at ≤ length (drop at part)
  kept = let o = is.order in let w = is.within in omega (arith, o, w, length-drop at part)

  new_bytes : drop (ready - at) next ≡ drop (ready - at) (drop at part) ++ added
  new_bytes = ap (drop (ready - at)) grows ∙ unlexed_are (drop at part) added (ready - at) kept

  lexed_now : slice_range next 0 (ready - at + tail.valid) ≡ slice_range part at ready ++ take tail.valid (drop (ready - at) next)
  lexed_now = ap (λ l. slice_range l 0 (ready - at + tail.valid)) grows
      ∙ lexed_grown (drop at part) added (ready - at) kept tail.valid
      ∙ ap (λ l. l ++ take tail.valid (drop (ready - at) (drop at part) ++ added)) (lexed_moved part at ready is.order is.within)
      ∙ ap (λ l. slice_range part at ready ++ take tail.valid l) (sym new_bytes)

  after_now : drop (ready - at + tail.valid) next ≡ drop tail.valid (drop (ready - at) next)
  after_now = sym (drop-drop tail.valid (ready - at) next)

  ends_now : (over : Bool) → IsTrue (tail.is_at_fault || over) → HasEnded utf8 over (drop (ready - at + tail.valid) next)
  ends_now over h = subst (HasEnded utf8 over) (sym after_now) (⊎_elim
      (λ e. inl (e.0, alone tail.is_at_fault over e.1 h))
      (λ t. inr (t.0, (tail.is_at_fault, t.1, either tail.is_at_fault over h)))
      is_tail.rest)

  pub read_window : (over : Bool) (bound : ℕ) → bound ≡ most → IsWindow utf8 next bound over 0 0 0 (ready - at + tail.valid) (tail.is_at_fault || over) limit least
  read_window over bound same = record {
    skipped = omega arith;
    span = omega arith;
    order = omega arith;
    within = let w = is_tail.within in let k = kept in omega (arith, w, k, length-drop (ready - at) next, ap length grows, length-append (drop at part) added);
    text = λ t. subst IsUtf8 (sym lexed_now) (IsUtf8-append (slice_range part at ready) (take tail.valid (drop (ready - at) next)) (is.text t) (is_tail.text t));
    ended = ends_now over;
    bound = same ∙ is.bound;
    wanted = is.wanted;
  }

  pub reads_on : {R : Type 0} (remaining : R → Option (List ℕ)) (reader new_reader : R) (offset bound wanted new_bound new_wanted : ℕ) (over : Bool) → IsFalse last → new_bound ≡ bound → new_wanted ≡ wanted →
      Consumes (remaining reader) (remaining new_reader) added → (IsFalse over → 0 < length added) → (IsTrue over → IsAtEnd (remaining new_reader)) →
      ReadsOn {R = R} remaining
      (record {
        reader = reader;
        utf8 = utf8;
        skipped = slice_range part before first;
        slice = slice_range part first at;
        lexed = slice_range part at ready;
        after = drop ready part;
        is_last = last;
        is_over = was;
        offset = offset;
        bound = bound;
        wanted = wanted;
      })
      (record {
        reader = new_reader;
        utf8 = utf8;
        skipped = slice_range next 0 0;
        slice = slice_range next 0 0;
        lexed = slice_range next 0 (ready - at + tail.valid);
        after = drop (ready - at + tail.valid) next;
        is_last = tail.is_at_fault || over;
        is_over = over;
        offset = offset;
        bound = new_bound;
        wanted = new_wanted;
      })
  reads_on remaining reader new_reader offset bound wanted new_bound new_wanted over begun same same_wanted consumed some end = record {
    utf8 = refl;
    offset = refl;
    bound = same;
    added = added;
    consumed = consumed;
    bytes =
        ap (λ l. slice_range l 0 (ready - at + tail.valid) ++ drop (ready - at + tail.valid) l) grows
        ∙ bytes_grown (drop at part) added (ready - at) kept tail.valid
        ∙ ap (λ l. (l ++ drop (ready - at) (drop at part)) ++ added) (lexed_moved part at ready is.order is.within)
        ∙ ap (λ l. (slice_range part at ready ++ l) ++ added) (after_moved part at ready is.order is.within);
    grown = take tail.valid (drop (ready - at) next);
    lexed = lexed_now;
    text = is_tail.text;
    last = λ h. absurd (let f : false ≡ true = sym begun ∙ h in cc);
    continues = λ h _. some h;
    over = λ h _. end h;
    ended = λ h. second tail.is_at_fault over h;
    wanted = same_wanted;
  }

nothing_consumed : (known : Option (List ℕ)) → Consumes known known []
nothing_consumed None = tt
nothing_consumed (Some bytes) = refl

-- after the last bytes nothing is read
pub reads_nothing : {R : Type 0} (remaining : R → Option (List ℕ)) (window : WindowValue R) → IsTrue window.is_last → ReadsOn {R = R} remaining window window
reads_nothing remaining window h = record {
  utf8 = refl;
  offset = refl;
  bound = refl;
  added = [];
  consumed = nothing_consumed (remaining window.reader);
  bytes = sym (append-nil (window.lexed ++ window.after));
  grown = [];
  lexed = sym (append-nil window.lexed);
  text = λ _. IsUtf8-nil;
  last = λ _. (refl, h);
  continues = λ _ f. absurd (let g : false ≡ true = sym f ∙ h in cc);
  over = λ _ f. absurd (let g : false ≡ true = sym f ∙ h in cc);
  ended = λ _. h;
  wanted = refl;
}
