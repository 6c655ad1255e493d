-- Items by the results that a scan takes.
use Rattle.std.proofs.Common.{◌≡◌, ℕ, ◌<◌, ◌≤◌, List, [], ◌∷◌, length, None, refl, slice_range, arith}
use Rattle.logos_automaton.specs.Munch.{matched, failed, ended}
use Rattle.logos_code.specs.declared.action.Action.{Action}
use Rattle.logos_code.specs.Items.{Callback, Item, token, error, MayAnswer, items_of}
use Rattle.logos_code.specs.Rows.{IsUse}
use Rattle.logos_code.specs.declared.code.rows.MatchUse.TheVariants.{Emits}
use Rattle.logos_machine.specs.inside.Looks.{Attempted}
use Rattle.logos_machine.specs.inside.IsAt.{IsMatch, StaysWithin}
use Rattle.logos_machine.specs.LexerValue.{LexerValue, HasSpan, Yields, Ends}
use Rattle.logos_machine.proofs.LexerLemmas.{Continues, goes_past, goes_past_skip, yields_item, yields_token, yields_error, ends_run, moved}
use Rattle.logos_scan.specs.Attempts.{SkipsTo, skips_none, skips_then}
use Rattle.logos_code.specs.Code.{CodeValue}
use Rattle.logos_scan.specs.Runs.{IsRun, IsTaken, WithChunk}
use Rattle.logos_scan.specs.declared.attempts.Taken.{Taken}
use Rattle.logos_scan.specs.declared.attempts.Taken.TheVariants.{Emits as TakenEmits, CallsBack as TakenCallsBack, Fails as TakenFails, Ends as TakenEnds}

module _ {C : Type 0} (callback : Callback) (old : LexerValue C) where
  -- a continuation continues after the skipped matches
  pub goes_skips : (from to : ℕ) → Continues callback old from → SkipsTo old.code old.input from to → Continues callback old to
  goes_skips from to g (skips_none at) = g
  goes_skips from to g (skips_then first mid end leaf steps s attempted is) = goes_past_skip callback old mid end leaf steps (goes_skips first mid g s) attempted is

  -- it continues from where it begins
  pub goes_first : old.to ≤ length old.input → Continues callback old old.to
  goes_first within = record {
    after = omega arith;
    within = within;
    continues = λ items r. r;
    passed = λ item end r. r;
  }

  -- the number of states that a match attempt entered does not matter
  same_span : (from to n : ℕ) (item : Item) → HasSpan (moved old from to n) item → HasSpan (moved old from to 0) item
  same_span from to n (token leaf a b slice) h = h
  same_span from to n (error leaf a b slice) h = h

  uncounted : (from to n : ℕ) (item : Item) → Yields callback old (moved old from to n) item → Yields callback old (moved old from to 0) item
  uncounted from to n item g = record {
    span = same_span from to n item g.span;
    after = g.after;
    nonempty = g.nonempty;
    within = g.within;
    is = g.is;
    next = g.next;
  }

  module _ (start from to n : ℕ) (on : Continues callback old start) (skips : SkipsTo old.code old.input start from) where
    -- the token of a match
    pub item_emits : (leaf : ℕ) (item : Item) → Attempted old.code old.input from (matched leaf to) n → IsUse old.code leaf Emits → item ≡ token leaf from to (slice_range old.input from to) →
        Yields callback old (moved old from to 0) item
    item_emits leaf item t emits is =
        uncounted from to n item (yields_token callback old from to n (moved old from to n) refl leaf item (goes_skips start from on skips) t emits is)

    -- the item of a match that may be up to a callback
    pub item_calls_back : (leaf : ℕ) (answer : Action) (item : Item) → Attempted old.code old.input from (matched leaf to) n →
        MayAnswer old.code.leaves callback old.input leaf (slice_range old.input from to) answer → items_of old.code.leaves callback old.input answer leaf from to ≡ item ∷ [] →
        Yields callback old (moved old from to 0) item
    item_calls_back leaf answer item t may is =
        uncounted from to n item (yields_item callback old from to n (moved old from to n) refl leaf answer item (goes_skips start from on skips) t may is)

    -- it has none
    pub goes_calls_back : (leaf : ℕ) (answer : Action) → Attempted old.code old.input from (matched leaf to) n →
        MayAnswer old.code.leaves callback old.input leaf (slice_range old.input from to) answer → items_of old.code.leaves callback old.input answer leaf from to ≡ [] → Continues callback old to
    goes_calls_back leaf answer t may is = goes_past callback old from to leaf n answer (goes_skips start from on skips) t may is

    -- an error
    pub item_fails : (item : Item) → Attempted old.code old.input from (failed to) n → item ≡ error None from to (slice_range old.input from to) → Yields callback old (moved old from to 0) item
    item_fails item t is = uncounted from to n item (yields_error callback old from to n (moved old from to n) refl item (goes_skips start from on skips) t is)

  -- the end of the input
  pub items_end : (start to n : ℕ) → Continues callback old start → SkipsTo old.code old.input start to → Attempted old.code old.input to ended n → Ends callback old (moved old to to 0)
  items_end start to n on skips t =
      let e = ends_run callback old to n (moved old to to n) refl (goes_skips start to on skips) t in
      record { from = e.from; to = e.to; over = e.over }

-- a run's match attempt begins in the input
pub start_within : (code : CodeValue) (rows input : List ℕ) (run : WithChunk) (start at : ℕ) → IsRun code rows input run start at → start ≤ length input
start_within code rows input run start at r =
    let s = r.is_at in
    let past = s.past in
    let comes = s.comes in
    let is_at = comes.is_at in
    let begun = is_at.begun in
    let near = r.near in
    let c = r.in_chunk in
    let within = c.within in
    omega (arith, past, begun, near, within)

-- the skipped matches lie after
pub skips_le : (code : CodeValue) (bytes : List ℕ) (from to : ℕ) → SkipsTo code bytes from to → from ≤ to
skips_le code bytes from to (skips_none at) = omega arith
skips_le code bytes from to (skips_then first mid end leaf steps s attempted is) =
    let fits : IsMatch code bytes mid leaf end = attempted.within in
    omega (arith, skips_le code bytes first mid s, fits.1)

-- and ends in the input
skips_within : (code : CodeValue) (bytes : List ℕ) (from to : ℕ) → from ≤ length bytes → SkipsTo code bytes from to → to ≤ length bytes
skips_within code bytes from to h (skips_none at) = h
skips_within code bytes from to h (skips_then first mid end leaf steps s attempted is) =
    let fits : IsMatch code bytes mid leaf end = attempted.within in
    fits.2

-- the match that is taken ends in the input and after the start of its search, or at the end
pub taken_past : (code : CodeValue) (bytes : List ℕ) (from : ℕ) (taken : Taken) (next : ℕ) → from ≤ length bytes → IsTaken code bytes from taken next →
    (next ≤ length bytes) × (from < length bytes → from < next)
taken_past code bytes from (TakenEmits leaf span) next h t =
    let attempted = t.1.1 in
    let fits : IsMatch code bytes span.from leaf.0 span.to = attempted.within in
    let le = skips_le code bytes from span.from t.0 in
    (omega (arith, fits.2, t.3), λ l. omega (arith, fits.1, t.3, le))
taken_past code bytes from (TakenCallsBack leaf span) next h t =
    let attempted = t.1.1 in
    let fits : IsMatch code bytes span.from leaf.0 span.to = attempted.within in
    let le = skips_le code bytes from span.from t.0 in
    (omega (arith, fits.2, t.2), λ l. omega (arith, fits.1, t.2, le))
taken_past code bytes from (TakenFails span) next h t =
    let attempted = t.1.1 in
    let fits : StaysWithin code bytes span.from (failed span.to) = attempted.within in
    let le = skips_le code bytes from span.from t.0 in
    (omega (arith, fits.1, t.2), λ l. omega (arith, fits.0, t.2, le))
taken_past code bytes from TakenEnds next h t =
    let attempted = t.1.1 in
    let over : length bytes ≤ next = attempted.within in
    (skips_within code bytes from next h t.0, λ l. omega (arith, over, l))
