-- The first result of a lexer at the start of some bytes.
use denote.Param.Members.{Shared}
use denote.Ref.{Bor}
use Rattle.std.proofs.Common.{◌≡◌, ℕ, ◌≤◌, Bool, true, false, if◌then◌else◌, List, [], ◌∷◌, ◌++◌, length, Some, slice_range, refl, subst, sym, arith}
use Rattle.std.proofs.lemmas.List.{append-nil}
use Rattle.std.proofs.lemmas.Str.{IsUtf8-nil}
use Rattle.logos_automaton.specs.Munch.{Use}
use Rattle.logos_code.specs.Code.{CodeValue}
use Rattle.logos_code.specs.Items.{Callback, Search, Item, token, error, items_of, skips, NextItem, passes, yields, fails}
use Rattle.logos_code.specs.Runs.{CodeFinds, RunsOn}
use Rattle.logos_code.specs.declared.action.Action.{Action}
use Rattle.logos_code.specs.declared.action.Action.TheVariants.{Emit, Skip, Error}
use Rattle.logos_hir.specs.declared.leaf.LeafId.{LeafId}
use Rattle.logos_machine.specs.LexerValue.{LexerValue, HasSpan, Yields, answers_of, begun, item_of}
use Rattle.logos_machine.specs.Streams.{first_status, LooksPast, AttemptsWithin}
use Rattle.logos_machine.specs.Within.{DoesWithin, YieldsWithin, KeepsGiven}
use Rattle.logos_machine.specs.declared.machine.Item.{Item as TheItem}
use Rattle.logos_machine.specs.declared.machine.part.Within.{Within}
use Rattle.logos_machine.specs.declared.machine.part.Within.TheVariants.{Item as Given, More, End}
use Rattle.logos_stream.specs.declared.item.StreamItem.{StreamItem}
use Rattle.logos_stream.specs.declared.item.StreamItem.TheVariants as kinds
use Rattle.logos_stream.specs.Fronts.{IsFirst, IsOver, IsWaiting, IsWithout, end_of, item_in, item_with, start_of}

-- the bytes of an item are those at its span
abbrev HasSlice : List ℕ → Item → Type 0
HasSlice bytes (token leaf from to slice) = slice ≡ slice_range bytes from to
HasSlice bytes (error leaf from to slice) = slice ≡ slice_range bytes from to

given_slice : (uses : List Use) (callback : Callback) (bytes : List ℕ) (answer : Action) (leaf from to : ℕ) (item : Item) →
    items_of uses callback bytes answer leaf from to ≡ item ∷ [] → HasSlice bytes item
given_slice uses callback bytes Emit leaf from to item e = go (skips uses callback bytes leaf) e
  where
    go : (b : Bool) → (if b then [] else token leaf from to (slice_range bytes from to) ∷ []) ≡ item ∷ [] → HasSlice bytes item
    go true e = absurd (cc)
    go false e = let same : token leaf from to (slice_range bytes from to) ≡ item = cc in subst (HasSlice bytes) same refl
given_slice uses callback bytes Skip leaf from to item e = absurd (cc)
given_slice uses callback bytes Error leaf from to item e =
    let same : error (Some leaf) from to (slice_range bytes from to) ≡ item = cc in subst (HasSlice bytes) same refl

next_slice : (uses : List Use) (callback : Callback) (bytes : List ℕ) (search : Search) {from end : ℕ} {item : Item} →
    NextItem uses callback bytes search from item end → HasSlice bytes item
next_slice uses callback bytes search (passes from to leaf answer item end s m e x) = next_slice uses callback bytes search x
next_slice uses callback bytes search (yields from to leaf answer item s m e) = given_slice uses callback bytes answer leaf from to item e
next_slice uses callback bytes search (fails from to s) = refl

runs_slice : (code : CodeValue) (callback : Callback) (bytes : List ℕ) (from to : ℕ) (item : Item) → RunsOn code callback bytes from item to → HasSlice bytes item
runs_slice code callback bytes from to item r = next_slice code.leaves callback bytes (CodeFinds code bytes) r

-- the item without its bytes has the span of the lexer
with_slice : (bytes slice : List ℕ) (short : StreamItem) → HasSlice bytes (item_with short slice) → item_with short slice ≡ item_in short bytes
with_slice bytes slice short h = go short h
  where
    go : (s : StreamItem) → HasSlice bytes (item_with s slice) → item_with s slice ≡ item_in s bytes
    go (kinds.Token leaf span) h = cc
    go (kinds.Error leaf span) h = cc

span_is : {C : Type 0} (lexer : LexerValue C) (slice : List ℕ) (short : StreamItem) → HasSpan lexer (item_with short slice) → (lexer.from ≡ start_of short) × (lexer.to ≡ end_of short)
span_is lexer slice (kinds.Token leaf span) h = h
span_is lexer slice (kinds.Error leaf span) h = h

abbrev Sliced : Item → StreamItem → Type 0
Sliced item s = (slice : List ℕ) × (item ≡ item_with s slice)

sliced : (item : Item) (s : StreamItem) → IsWithout item s → Sliced item s
sliced (token leaf from to slice) (kinds.Token l span) is = let a = is.0 in let b = is.1 in let d = is.2 in (slice, cc)
sliced (error leaf from to slice) (kinds.Error l span) is = let a = is.0 in let b = is.1 in let d = is.2 in (slice, cc)
sliced (token leaf from to slice) (kinds.Error l span) is = absurd is
sliced (error leaf from to slice) (kinds.Token l span) is = absurd is

module _ {C : Type 0} (calls : Shared C (LeafId × (Bor (List ℕ) × Unit {0})) Action) (code : CodeValue) (bytes : List ℕ) (f : C) (new : LexerValue C) where
  abbrev from_start : LexerValue C
  from_start = begun code bytes f

  abbrev callback : Callback
  callback = answers_of calls f

  first_of_last : (item : Item) (s : StreamItem) → Sliced item s → KeepsGiven from_start new → Yields callback from_start new item → IsFirst code callback bytes true s
  first_of_last item s is k given =
      let g : Yields callback from_start new (item_with s is.0) = subst (λ (i : Item). Yields callback from_start new i) is.1 given in
      let r : RunsOn code callback bytes 0 (item_with s is.0) new.to = g.is in
      let p = span_is new is.0 s g.span in
      let e = with_slice bytes is.0 s (runs_slice code callback bytes 0 new.to (item_with s is.0) r) in
      let there : RunsOn code callback bytes 0 (item_with s is.0) (end_of s) = subst (λ (n : ℕ). RunsOn code callback bytes 0 (item_with s is.0) n) p.1 r in
      let some = g.nonempty in
      let fits : new.to ≤ length bytes = subst (λ (l : List ℕ). new.to ≤ length l) k.input g.within in
      record {
        finds = subst (λ (i : Item). RunsOn code callback bytes 0 i (end_of s)) e there;
        nonempty = omega (arith, some, p.0, p.1);
        within = omega (arith, fits, p.1);
      }

  first_of_part : (item : Item) (s : StreamItem) → Sliced item s → KeepsGiven from_start new → YieldsWithin callback from_start new item → IsFirst code callback bytes false s
  first_of_part item s is k given =
      let g : YieldsWithin callback from_start new (item_with s is.0) = subst (λ (i : Item). YieldsWithin callback from_start new i) is.1 given in
      let p = span_is new is.0 s g.span in
      let alone : RunsOn code callback bytes 0 (item_with s is.0) new.to =
      subst (λ (l : List ℕ). RunsOn code callback l 0 (item_with s is.0) new.to) (append-nil bytes) (g.is [] (λ _. IsUtf8-nil)) in
      let e = with_slice bytes is.0 s (runs_slice code callback bytes 0 new.to (item_with s is.0) alone) in
      let some = g.nonempty in
      let fits : new.to ≤ length bytes = subst (λ (l : List ℕ). new.to ≤ length l) k.input g.within in
      record {
        finds = λ more follows.
            let r : RunsOn code callback (bytes ++ more) 0 (item_with s is.0) new.to = g.is more follows in
            subst (λ (i : Item). RunsOn code callback (bytes ++ more) 0 i (end_of s)) e (subst (λ (n : ℕ). RunsOn code callback (bytes ++ more) 0 (item_with s is.0) n) p.1 r);
        nonempty = omega (arith, some, p.0, p.1);
        within = omega (arith, fits, p.1);
      }

  item_at_start : (is_last : Bool) (item : TheItem) (s : StreamItem) → IsWithout (item_of item) s → KeepsGiven from_start new →
      DoesWithin is_last callback from_start new (Given item) → IsFirst code callback bytes is_last s
  item_at_start true item s is k d = first_of_last (item_of item) s (sliced (item_of item) s is) k d
  item_at_start false item s is k d = first_of_part (item_of item) s (sliced (item_of item) s is) k d

  waits_at_start : (is_last : Bool) → KeepsGiven from_start new → DoesWithin is_last callback from_start new More → IsWaiting code callback bytes is_last new.to
  waits_at_start true k d = absurd d
  waits_at_start false k d = record {
    unsettled = refl;
    within = subst (λ (l : List ℕ). new.to ≤ length l) k.input d.within;
    passed = d.passed;
    looks = subst (λ (l : List ℕ). LooksPast code l new.to (first_status code new.to)) k.input (subst (λ (c : CodeValue). LooksPast c new.input new.to (first_status c new.to)) k.code d.looks);
    undecided = λ found n t. d.undecided found n (subst (λ (l : List ℕ). AttemptsWithin new.code l new.to (length l) found n) (sym k.input) (subst (λ (c : CodeValue). AttemptsWithin c bytes new.to (length bytes) found n) (sym k.code) t));
  }

  over_at_start : (is_last : Bool) → DoesWithin is_last callback from_start new End → IsOver code callback bytes is_last
  over_at_start true d = record { last = refl; over = d.over }
  over_at_start false d = absurd d

  module _ (old : LexerValue C) (begins : old ≡ begun code bytes f) (k : KeepsGiven old new) (is_last : Bool) where
    kept : KeepsGiven from_start new
    kept = subst (λ (l : LexerValue C). KeepsGiven l new) begins k

    does : (w : Within) → DoesWithin is_last (answers_of calls old.callback) old new w → DoesWithin is_last callback from_start new w
    does w d = subst (λ (l : LexerValue C). DoesWithin is_last (answers_of calls l.callback) l new w) begins d

    pub item_first : (item : TheItem) (s : StreamItem) → IsWithout (item_of item) s → DoesWithin is_last (answers_of calls old.callback) old new (Given item) → IsFirst code callback bytes is_last s
    item_first item s is d = item_at_start is_last item s is kept (does (Given item) d)

    pub waits_first : (to : ℕ) → new.to ≡ to → DoesWithin is_last (answers_of calls old.callback) old new More → IsWaiting code callback bytes is_last to
    waits_first to e d = subst (λ (n : ℕ). IsWaiting code callback bytes is_last n) e (waits_at_start is_last kept (does More d))

    pub over_first : DoesWithin is_last (answers_of calls old.callback) old new End → IsOver code callback bytes is_last
    over_first d = over_at_start is_last (does End d)
