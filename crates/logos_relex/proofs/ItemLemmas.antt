-- Items that are found in a part regardless of the bytes after it, as they are stored.
use Rattle.std.proofs.Common.{◌≡◌, ◌∙◌, ℕ, ◌<◌, ◌≤◌, Bool, true, false, if◌then◌else◌, List, [], ◌∷◌, ◌++◌, length, map, Some, slice_range, option_map, refl, sym, ap, subst, arith}
use Rattle.std.proofs.lemmas.List.{append_assoc, append-nil, map-append}
use Rattle.std.proofs.lemmas.Str.{IsUtf8-nil}
use Rattle.logos_automaton.specs.Munch.{Use}
use Rattle.logos_code.specs.Code.{CodeValue}
use Rattle.logos_code.specs.Items.{Callback, Search, Item, token, error, items_of, skips, NextItem, passes, yields, fails, Lexes, over, match, fault}
use Rattle.logos_code.specs.Runs.{CodeFinds, Runs, RunsOn}
use Rattle.logos_code.specs.declared.action.Action.{Action}
use Rattle.logos_code.specs.declared.action.Action.TheVariants.{Emit, Skip, Error as Refuse}
use Rattle.logos_machine.specs.LexerValue.{LexerValue, HasSpan, item_of}
use Rattle.logos_machine.specs.Loops.{AnswersAmong}
use Rattle.logos_machine.specs.Streams.{AreBegun, MayFollow, RunsOver}
use Rattle.logos_machine.specs.Within.{DoesWithin, YieldsWithin}
use Rattle.logos_machine.specs.declared.machine.Item.{Item as TheItem}
use Rattle.logos_machine.specs.declared.machine.Item.TheVariants as found
use Rattle.logos_machine.specs.declared.machine.part.Within.{Within}
use Rattle.logos_machine.specs.declared.machine.part.Within.TheVariants.{Item as Given, More, End}
use Rattle.logos_machine.proofs.ItemsLemmas.{lexes_by}
use Rattle.logos_machine.proofs.PartLemmas.{next_first, over_first}
use Rattle.logos_relex.specs.Chunks.{EndBy, item_at, offset_of, from_of, to_of}
use Rattle.logos_relex.specs.declared.chunk.ItemAt.{ItemAt}

-- ---- a result for the rest completes to a result for the whole

module _ (code : CodeValue) (callback : Callback) (part : List ℕ) where
  pub begun_item : (items : List Item) (from to : ℕ) (item : Item) → AreBegun code callback part items from → ((rest : List ℕ) → MayFollow code rest → RunsOn code callback (part ++ rest) from item to) →
      AreBegun code callback part (items ++ item ∷ []) to
  begun_item items from to item h next rest follows later r =
      let whole : List ℕ = part ++ rest in
      subst (λ (all : List Item). Runs code callback whole 0 all) (sym (append_assoc items (item ∷ []) later))
      (h rest follows (item ∷ later) (next_first code.leaves callback whole (CodeFinds code whole) (next rest follows) later r))

  pub begun_over : (items : List Item) (from to : ℕ) → AreBegun code callback part items from → ((rest : List ℕ) → MayFollow code rest → RunsOver code callback (part ++ rest) from to) →
      AreBegun code callback part items to
  begun_over items from to h passed rest follows later r =
      let whole : List ℕ = part ++ rest in
      h rest follows later (over_first code.leaves callback whole (CodeFinds code whole) (passed rest follows) later r)

-- by a callback with the same answers
pub begun_by : (code : CodeValue) (callback other : Callback) (part : List ℕ) (items : List Item) (to : ℕ) → AnswersAmong callback other → AnswersAmong other callback →
    AreBegun code callback part items to → AreBegun code other part items to
begun_by code callback other part items to there back h rest follows later r =
    let whole : List ℕ = part ++ rest in
    lexes_by code.leaves whole (CodeFinds code whole) callback other there (h rest follows later (lexes_by code.leaves whole (CodeFinds code whole) other callback back r))

-- ---- an item has the bytes of its span

abbrev pub HasSlice : List ℕ → Item → Type 0
HasSlice bytes (token leaf from to slice) = slice ≡ slice_range bytes from to
HasSlice bytes (error leaf from to slice) = slice ≡ slice_range bytes from to

module _ (uses : List Use) (callback : Callback) (bytes : List ℕ) where
  token_slice : (leaf from to : ℕ) (item : Item) → token leaf from to (slice_range bytes from to) ∷ [] ≡ item ∷ [] → HasSlice bytes item
  token_slice leaf from to item e = let same : token leaf from to (slice_range bytes from to) ≡ item = cc in subst (HasSlice bytes) same refl

  error_slice : (leaf from to : ℕ) (item : Item) → error (Some leaf) from to (slice_range bytes from to) ∷ [] ≡ item ∷ [] → HasSlice bytes item
  error_slice leaf from to item e = let same : error (Some leaf) from to (slice_range bytes from to) ≡ item = cc in subst (HasSlice bytes) same refl

  match_slice : (answer : Action) (leaf from to : ℕ) (item : Item) → items_of uses callback bytes answer leaf from to ≡ item ∷ [] → HasSlice bytes item
  match_slice Emit leaf from to item e = go (skips uses callback bytes leaf) e
    where
      go : (b : Bool) → (if b then [] else token leaf from to (slice_range bytes from to) ∷ []) ≡ item ∷ [] → HasSlice bytes item
      go true e = absurd (cc)
      go false e = token_slice leaf from to item e
  match_slice Skip leaf from to item e = absurd (cc)
  match_slice Refuse leaf from to item e = error_slice leaf from to item e

  pub next_slice : {search : Search} {from end : ℕ} {item : Item} → NextItem uses callback bytes search from item end → HasSlice bytes item
  next_slice (passes from to leaf answer item end s m e x) = next_slice x
  next_slice (yields from to leaf answer item s m e) = match_slice answer leaf from to item e
  next_slice (fails from to s) = refl

  -- all items of a run have the bytes of their spans
  abbrev pub HaveSlices : List Item → Type 0
  HaveSlices [] = Unit {0}
  HaveSlices (item ∷ items) = HasSlice bytes item × HaveSlices items

  match_slices : (answer : Action) (leaf from to : ℕ) (rest : List Item) → HaveSlices rest → HaveSlices (items_of uses callback bytes answer leaf from to ++ rest)
  match_slices Emit leaf from to rest h = go (skips uses callback bytes leaf)
    where
      go : (b : Bool) → HaveSlices ((if b then [] else token leaf from to (slice_range bytes from to) ∷ []) ++ rest)
      go true = h
      go false = (refl, h)
  match_slices Skip leaf from to rest h = h
  match_slices Refuse leaf from to rest h = (refl, h)

  pub run_slices : {search : Search} {from : ℕ} {items : List Item} → Lexes uses callback bytes search from items → HaveSlices items
  run_slices (over from s) = tt
  run_slices (match from to leaf answer rest s m l) = match_slices answer leaf from to rest (run_slices l)
  run_slices (fault from to rest s l) = (refl, run_slices l)

-- the stored form of an item determines the item
pub stored : (bytes : List ℕ) (item : TheItem) → HasSlice bytes (item_of item) → item_at bytes (offset_of item) ≡ item_of item
stored bytes (found.Token leaf span slice) h = ap (λ s. token leaf.0 span.from span.to s) (sym h)
stored bytes (found.Error leaf span slice) h = ap (λ s. error (option_map (λ l. l.0) leaf) span.from span.to s) (sym h)

pub all_stored : (uses : List Use) (callback : Callback) (bytes : List ℕ) (items : List TheItem) → HaveSlices uses callback bytes (map item_of items) →
    map (item_at bytes) (map offset_of items) ≡ map item_of items
all_stored uses callback bytes [] h = refl
all_stored uses callback bytes (item ∷ items) h = λ i. stored bytes item h.0 i ∷ all_stored uses callback bytes items h.1 i

-- ---- spans

offset_from : {C : Type 0} (lexer : LexerValue C) (item : TheItem) → HasSpan lexer (item_of item) → (lexer.from ≡ from_of (offset_of item)) × (lexer.to ≡ to_of (offset_of item))
offset_from lexer (found.Token leaf span slice) h = h
offset_from lexer (found.Error leaf span slice) h = h

pub end_later : (items : List ItemAt) (end later : ℕ) → end ≤ later → EndBy end items → EndBy later items
end_later [] end later le h = tt
end_later (item ∷ items) end later le h = let ends = h.1 in (h.0, omega (arith, le, ends), end_later items end later le h.2)

pub end_with : (items : List ItemAt) (item : ItemAt) (end : ℕ) → EndBy end items → from_of item < to_of item → to_of item ≤ end → EndBy end (items ++ item ∷ [])
end_with [] item end h some within = (some, within, tt)
end_with (first ∷ items) item end h some within = (h.0, h.1, end_with items item end h.2 some within)

-- ---- a lexer on a part

-- its items so far were found regardless of the bytes after the part
pub record Settling (code : CodeValue) (callback : Callback) (part : List ℕ) (items : List ItemAt) (to : ℕ) : Type 0 where
  pub within : to ≤ length part
  pub spans : EndBy to items
  pub begun : AreBegun code callback part (map (item_at part) items) to

module _ {C : Type 0} (code : CodeValue) (callback : Callback) (input : List ℕ) (old new : LexerValue C) (same_code : old.code ≡ code) (same_input : old.input ≡ input) (new_input : new.input ≡ input) where
  pub settling_with : (items : List ItemAt) (item : TheItem) → Settling code callback input items old.to → YieldsWithin callback old new (item_of item) →
      Settling code callback input (items ++ offset_of item ∷ []) new.to
  settling_with items item s g =
      let span = offset_from new item g.span in
      let after = g.after in
      let some = g.nonempty in
      let fits : new.to ≤ length input = subst (λ (l : List ℕ). new.to ≤ length l) new_input g.within in
      let next : (rest : List ℕ) → MayFollow code rest → RunsOn code callback (input ++ rest) old.to (item_of item) new.to = rw (same_code, same_input) at g.is in
      let first : RunsOn code callback input old.to (item_of item) new.to = subst (λ (l : List ℕ). RunsOn code callback l old.to (item_of item) new.to) (append-nil input) (next [] (λ _. IsUtf8-nil)) in
      let is = stored input item (next_slice code.leaves callback input first) in
      let more = begun_item code callback input (map (item_at input) items) old.to new.to (item_of item) s.begun next in
      record {
        within = fits;
        spans = end_with items (offset_of item) new.to (end_later items old.to new.to (omega (arith, after, some)) s.spans) (omega (arith, some, span.0, span.1)) (omega (arith, span.1));
        begun = subst (λ (all : List Item). AreBegun code callback input all new.to)
            (ap (λ x. map (item_at input) items ++ x ∷ []) (sym is) ∙ sym (map-append (item_at input) items (offset_of item ∷ []))) more;
      }

  -- the loop over `next_within` ends at a result that waits
  pub settling_over : (items : List ItemAt) (result : Within) → Settling code callback input items old.to → DoesWithin false callback old new result → ((item : TheItem) → result ≡ Given item → ⊥) →
      Settling code callback input items new.to
  settling_over items (Given item) s d other = absurd (other item refl)
  settling_over items More s w other =
      let after = w.after in
      record {
        within = subst (λ (l : List ℕ). new.to ≤ length l) new_input w.within;
        spans = end_later items old.to new.to (omega (arith, after)) s.spans;
        begun = begun_over code callback input (map (item_at input) items) old.to new.to s.begun (rw (same_code, same_input) at w.passed);
      }
  settling_over items End s d other = absurd d
