-- All items that are left of a stream, from call to call.
use Rattle.std.proofs.Common.{◌≡◌, ◌∙◌, inl, inr, ℕ, ◌<◌, ◌^◌, Bool, true, false, IsTrue, IsFalse, List, [], ◌∷◌, ◌++◌, append_assoc, append-nil, length, drop, map, Option, None, Some, IfSome, refl, sym, ap, subst, arith}
use Rattle.std.specs.Io.KnownBytes.{Consumes}
use Rattle.std.proofs.KnownBytes.{Consumes-kept, Consumes-nil, Consumes-trans, Consumes-whole}
use Rattle.std.proofs.lemmas.List.{length-append, map-append, take-append-drop, take_all}
use Rattle.logos_code.specs.Code.{CodeValue}
use Rattle.logos_code.specs.Headline.{IsSound}
use Rattle.logos_code.specs.Items.{Callback, Item}
use Rattle.logos_code.specs.Runs.{Runs}
use Rattle.logos_stream.specs.Fronts.{end_of, item_with}
use Rattle.logos_stream.specs.Lefts.{AllAreOfTheWhole, AreLeft, Continues, MayRead, Steps, placed}
use Rattle.logos_stream.specs.Nexts.{YieldsNext, WaitsNext}
use Rattle.logos_stream.specs.Wholes.{AreFound, HasGiven}
use Rattle.logos_stream.specs.WindowValue.{GoesPast, WindowValue}
use Rattle.logos_stream.specs.declared.item.StreamItem.{StreamItem}
use Rattle.logos_stream.specs.declared.item.StreamItem.TheVariants.{Token, Error}
use Rattle.logos_stream.proofs.WholeLemmas.{streams_are_of_the_whole}

-- the span of an item with its bytes
placed_with : (item : StreamItem) (slice : List ℕ) → placed (item_with item slice) ≡ item
placed_with (Token leaf span) slice = refl
placed_with (Error None span) slice = refl
placed_with (Error (Some leaf) span) slice = refl

not_both : {P : Type 0} (b : Bool) → IsFalse b → IsTrue b → P
not_both true f t = absurd (cc)
not_both false f t = absurd (cc)

-- ---- the bytes that were read are all bytes of the reader

none_left : (first rest all : List ℕ) → length rest ≡ 0 → first ≡ all → first ++ rest ≡ all
none_left first [] all h e = append-nil first ∙ e
none_left first (b ∷ rest) all h e = absurd (omega (arith, h))

none_more : (a b c : Option (List ℕ)) (first second : List ℕ) → Consumes a b first → Consumes b c second → IfSome a (λ bytes. first ≡ bytes) → IfSome a (λ bytes. first ++ second ≡ bytes)
none_more None b c first second p q e = tt
none_more (Some x) None c first second p q e = absurd p
none_more (Some x) (Some y) None first second p q e = absurd q
none_more (Some x) (Some y) (Some z) first second p q e =
    let n : length y ≡ 0 = omega (arith, ap length p, ap length e, length-append first y) in
    let m : length second ≡ 0 = omega (arith, n, ap length q, length-append second z) in
    none_left first second x m e

all_more : (a b : Option (List ℕ)) (first second : List ℕ) → Consumes a b first → IfSome b (λ bytes. second ≡ bytes) → IfSome a (λ bytes. first ++ second ≡ bytes)
all_more None b first second p e = tt
all_more (Some x) None first second p e = absurd p
all_more (Some x) (Some y) first second p e = ap (λ l. first ++ l) e ∙ sym p

all_of_two : (a b c : Option (List ℕ)) (first second : List ℕ) (is_over : Bool) → Consumes a b first → Consumes b c second → (IsTrue is_over → IfSome a (λ bytes. first ≡ bytes)) →
    (IsFalse is_over → IfSome b (λ bytes. second ≡ bytes)) → IfSome a (λ bytes. first ++ second ≡ bytes)
all_of_two a b c first second true p q h k = none_more a b c first second p q (h refl)
all_of_two a b c first second false p q h k = all_more a b first second p (k refl)

-- ---- streams continue

module _ {R : Type 0} (remaining : R → Option (List ℕ)) (code : CodeValue) (callback : Callback) where
  abbrev On : WindowValue R → WindowValue R → List Item → Type 0
  On = Continues remaining code callback

  pub on_none : (window : WindowValue R) → On window window []
  on_none window = record {
    added = [];
    consumed = Consumes-nil (remaining window.reader);
    passed = [];
    bytes = append-nil (window.lexed ++ window.after);
    all = λ f t. not_both window.is_over f t;
    given = λ sound before items h.
        subst (λ (l : List ℕ). HasGiven code callback l window (items ++ [])) (sym (append-nil before))
        (subst (λ (l : List Item). HasGiven code callback before window l) (sym (append-nil items)) h);
  }

  pub on_then : (first middle last : WindowValue R) (found more : List Item) → On first middle found → On middle last more → On first last (found ++ more)
  on_then first middle last found more f g = record {
    added = f.added ++ g.added;
    consumed = Consumes-trans (remaining first.reader) (remaining middle.reader) (remaining last.reader) f.added g.added f.consumed g.consumed;
    passed = f.passed ++ g.passed;
    bytes = sym (append_assoc (first.lexed ++ first.after) f.added g.added) ∙ ap (λ l. l ++ g.added) f.bytes ∙ append_assoc f.passed (middle.lexed ++ middle.after) g.added
        ∙ ap (λ l. f.passed ++ l) g.bytes ∙ sym (append_assoc f.passed g.passed (last.lexed ++ last.after));
    all = λ is_not is. all_of_two (remaining first.reader) (remaining middle.reader) (remaining last.reader) f.added g.added middle.is_over f.consumed g.consumed (λ t. f.all is_not t) (λ n. g.all n is);
    given = λ sound before items h.
        subst (λ (l : List ℕ). HasGiven code callback l last (items ++ (found ++ more))) (append_assoc before f.passed g.passed)
        (subst (λ (l : List Item). HasGiven code callback ((before ++ f.passed) ++ g.passed) last l) (append_assoc items found more)
        (g.given sound (before ++ f.passed) (items ++ found) (f.given sound before items h)));
  }

  module _ (old new : WindowValue R) (to : ℕ) (past : GoesPast to old new) where
    moved : (old.lexed ++ old.after) ++ [] ≡ (new.skipped ++ new.slice) ++ (new.lexed ++ new.after)
    moved = append-nil (old.lexed ++ old.after) ∙ ap (λ l. l ++ old.after) (sym (take-append-drop to old.lexed) ∙ ap (λ l. l ++ drop to old.lexed) (sym past.passed) ∙ ap (λ l. (new.skipped ++ new.slice) ++ l) (sym past.lexed))
        ∙ append_assoc (new.skipped ++ new.slice) new.lexed old.after ∙ ap (λ l. (new.skipped ++ new.slice) ++ (new.lexed ++ l)) (sym past.after)

    pub on_past : (found : List Item) → (IsSound code → (before : List ℕ) (items : List Item) → HasGiven code callback before old items →
        HasGiven code callback (before ++ (new.skipped ++ new.slice)) new (items ++ found)) → On old new found
    on_past found h = record {
      added = [];
      consumed = subst (λ (r : R). Consumes (remaining old.reader) (remaining r) []) (sym past.reader) (Consumes-nil (remaining old.reader));
      passed = new.skipped ++ new.slice;
      bytes = moved;
      all = λ f t. not_both old.is_over f (subst IsTrue past.is_over t);
      given = h;
    }

  pub on_item : (old new : WindowValue R) (item : StreamItem) → YieldsNext code callback old new item → On old new (item_with item new.slice ∷ [])
  on_item old new item g = on_past old new (end_of g.found) g.shows.past (item_with item new.slice ∷ [])
      (λ sound before items h. (streams_are_of_the_whole remaining callback).yields code before old new items item sound h g)

  pub on_wait : (old new : WindowValue R) → WaitsNext code callback old new → On old new []
  on_wait old new w = on_past old new w.passed w.waits.past []
      (λ sound before items h. subst (λ (l : List Item). HasGiven code callback (before ++ (new.skipped ++ new.slice)) new l) (sym (append-nil items))
      ((streams_are_of_the_whole remaining callback).waits code before old new items sound h w))

  module _ (old new : WindowValue R) where
    as_before : (before : List ℕ) (items : List Item) → HasGiven code callback before new items → HasGiven code callback (before ++ []) new (items ++ [])
    as_before before items h = subst (λ (l : List ℕ). HasGiven code callback l new (items ++ [])) (sym (append-nil before))
        (subst (λ (l : List Item). HasGiven code callback before new l) (sym (append-nil items)) h)

    pub on_read : IsFalse old.is_last → MayRead remaining old new → On old new []
    on_read waits (inl r) = record {
      added = r.added;
      consumed = r.consumed;
      passed = [];
      bytes = sym r.bytes;
      all = λ f t. Consumes-whole (remaining old.reader) (remaining new.reader) r.added (λ bytes. r.added ≡ bytes) r.consumed (r.over t waits) refl;
      given = λ sound before items h. as_before before items ((streams_are_of_the_whole remaining callback).reads code before old new items h r);
    }
    on_read waits (inr s) = record {
      added = [];
      consumed = Consumes-kept (remaining old.reader) (remaining old.reader) (remaining new.reader) [] (Consumes-nil (remaining old.reader)) s.unread;
      passed = [];
      bytes = append-nil (old.lexed ++ old.after) ∙ ap (λ l. l ++ old.after) (sym s.lexed) ∙ ap (λ l. new.lexed ++ l) (sym s.after);
      all = λ f t. not_both old.is_over f (subst IsTrue s.is_over t);
      given = λ sound before items h. as_before before items (record {
        mode = s.utf8 ∙ h.mode;
        offset = λ small. s.offset ∙ h.offset small;
        found = λ small. subst (λ (b : Bool). AreFound b code callback (before ++ new.lexed) items (length before)) (sym s.is_last)
            (subst (λ (l : List ℕ). AreFound old.is_last code callback (before ++ l) items (length before)) (sym s.lexed) (h.found small));
      });
    }

  -- ---- steps

  pub step_item : (old new : WindowValue R) (item : StreamItem) (former items : List StreamItem) → YieldsNext code callback old new item → items ≡ former ++ item ∷ [] →
      Steps remaining code callback old new former items false
  step_item old new item former items g e =
      (item_with item new.slice ∷ [], on_item old new item g, e ∙ ap (λ i. former ++ i ∷ []) (sym (placed_with item new.slice)))

  pub step_read : (old middle new : WindowValue R) (items : List StreamItem) → WaitsNext code callback old middle → MayRead remaining middle new →
      Steps remaining code callback old new items items false
  step_read old middle new items w r =
      let waits : IsFalse middle.is_last = w.waits.past.is_last ∙ w.unsettled in
      ([], on_then old middle new [] [] (on_wait old middle w) (on_read middle new waits r), sym (append-nil items))

  abbrev pub Stepping : WindowValue R → WindowValue R → List StreamItem → Type 0
  Stepping old new items = (found : List Item) × On old new found × (items ≡ map placed found)

  pub stepping_first : (window : WindowValue R) (items : List StreamItem) → items ≡ [] → Stepping window window items
  stepping_first window items e = ([], on_none window, e)

  pub stepping_on : (first old new : WindowValue R) (former items : List StreamItem) → Stepping first old former → Steps remaining code callback old new former items false →
      Stepping first new items
  stepping_on first old new former items s t =
      (s.0 ++ t.0, on_then first old new s.0 t.0 s.1 t.1, t.2 ∙ ap (λ l. l ++ map placed t.0) s.2 ∙ sym (map-append placed s.0 t.0))

  pub stepping_over : (first old new : WindowValue R) (former items : List StreamItem) → Stepping first old former → Steps remaining code callback old new former items true →
      AreLeft remaining code callback first items
  stepping_over first old new former items s t =
      let on = s.1 in
      let ends = t.0 in
      let past = ends.past in
      let n = length old.lexed in
      let last : new.skipped ++ new.slice ≡ old.lexed = past.passed ∙ take_all n old.lexed (omega arith) in
      let none : old.after ≡ [] = sym past.after ∙ t.1 in
      let bytes : (first.lexed ++ first.after) ++ on.added ≡ on.passed ++ (new.skipped ++ new.slice) =
      on.bytes ∙ ap (λ l. on.passed ++ (old.lexed ++ l)) none ∙ ap (λ l. on.passed ++ l) (append-nil old.lexed ∙ sym last) in
      record {
        unread = on.added;
        all = λ f. on.all f (subst IsTrue past.is_over t.2);
        found = s.0;
        placed_are = t.3 ∙ s.2;
        run = λ sound before given h small.
            let whole : before ++ ((first.lexed ++ first.after) ++ on.added) ≡ (before ++ on.passed) ++ (new.skipped ++ new.slice) =
            ap (λ l. before ++ l) bytes ∙ sym (append_assoc before on.passed (new.skipped ++ new.slice)) in
            let near : length (before ++ on.passed) < 2 ^ 64 = omega (arith, small, ap length whole, length-append (before ++ on.passed) (new.skipped ++ new.slice)) in
            subst (λ (l : List ℕ). Runs code callback l 0 (given ++ s.0)) (sym whole)
            ((streams_are_of_the_whole remaining callback).ends code (before ++ on.passed) old new (given ++ s.0) sound near (on.given sound before given h) ends);
      }

-- ---- all items of a stream

pub all_are_of_the_whole : {R : Type 0} (remaining : R → Option (List ℕ)) (callback : Callback) → AllAreOfTheWhole remaining callback
all_are_of_the_whole remaining callback code reader bound items sound l = go (remaining reader) (l.all refl) where
  go : (known : Option (List ℕ)) → IfSome known (λ bytes. l.unread ≡ bytes) →
      IfSome known (λ bytes. length bytes < 2 ^ 64 → (found : List Item) × (items ≡ map placed found) × Runs code callback bytes 0 found)
  go None e = tt
  go (Some bytes) e = λ small. (
    l.found,
    l.placed_are,
    subst (λ (b : List ℕ). Runs code callback b 0 l.found) e
        (l.run sound [] [] ((streams_are_of_the_whole remaining callback).begins code reader bound) (subst (λ (b : List ℕ). length b < 2 ^ 64) (sym e) small)),
  )
