-- Steps of a lexer.
use Rattle.std.proofs.Common.{◌≡◌, ◌∙◌, ℕ, ◌<◌, ◌≤◌, Bool, true, false, if◌then◌else◌, List, [], ◌∷◌, ◌++◌, length, Option, Some, None, slice_get, slice_range, refl, sym, ap, subst, arith}
use Rattle.logos_automaton.specs.Munch.{Use, Found, ended, matched, failed}
use Rattle.logos_code.specs.declared.action.Action.{Action}
use Rattle.logos_code.specs.declared.action.Action.TheVariants.{Emit, Skip, Error}
use Rattle.logos_code.specs.Items.{Callback, Item, token, error, items_of, skips, MayAnswer, over, match, fault, passes, yields, fails}
use Rattle.logos_code.specs.Code.{CodeValue}
use Rattle.logos_code.specs.Runs.{Runs, RunsOn, Attempts, CodeFinds}
use Rattle.logos_machine.specs.inside.Looks.{Attempted}
use Rattle.logos_machine.specs.inside.IsAt.{IsMatch}
use Rattle.logos_machine.specs.LexerValue.{LexerValue, HasSpan, Yields, Ends, Keeps}

module _ {C : Type 0} (lexer : LexerValue C) (from to : ℕ) (starts : lexer.from ≡ from) (ends : lexer.to ≡ to) where
  token_span : (leaf : ℕ) (slice : List ℕ) (item : Item) → token leaf from to slice ∷ [] ≡ item ∷ [] → HasSpan lexer item
  token_span leaf slice item e = let same : token leaf from to slice ≡ item = cc in subst (HasSpan lexer) same (starts, ends)

  error_span : (leaf : Option ℕ) (slice : List ℕ) (item : Item) → error leaf from to slice ∷ [] ≡ item ∷ [] → HasSpan lexer item
  error_span leaf slice item e = let same : error leaf from to slice ≡ item = cc in subst (HasSpan lexer) same (starts, ends)

  -- the item of a match has its span
  pub item_span : (uses : List Use) (callback : Callback) (bytes : List ℕ) (answer : Action) (leaf : ℕ) (item : Item) →
      items_of uses callback bytes answer leaf from to ≡ item ∷ [] → HasSpan lexer item
  item_span uses callback bytes Emit leaf item e = go (skips uses callback bytes leaf) e
    where
      go : (b : Bool) → (if b then [] else token leaf from to (slice_range bytes from to) ∷ []) ≡ item ∷ [] → HasSpan lexer item
      go true e = absurd (cc)
      go false e = token_span leaf _ item e
  item_span uses callback bytes Skip leaf item e = absurd (cc)
  item_span uses callback bytes Error leaf item e = error_span (Some leaf) _ item e

-- an element that does not exist is `None`
pub none_of : {A : Type 0} (o : Option A) → ((x : A) → o ≡ Some x → ⊥) → o ≡ None
none_of None h = cc
none_of (Some x) h = absurd (h x (cc))

module _ (code : CodeValue) (callback : Callback) (bytes : List ℕ) (from : ℕ) where
  -- a run that begins with a match
  pub match_runs : (to leaf n : ℕ) (answer : Action) (items rest : List Item) → Attempts code bytes from (matched leaf to) n →
      MayAnswer code.leaves callback bytes leaf (slice_range bytes from to) answer → items_of code.leaves callback bytes answer leaf from to ≡ items →
      Runs code callback bytes to rest → Runs code callback bytes from (items ++ rest)
  match_runs to leaf n answer items rest attempts may is r = rw is at (match_run (n, attempts))
    where
      match_run : CodeFinds code bytes from (matched leaf to) → Runs code callback bytes from (items_of code.leaves callback bytes answer leaf from to ++ rest)
      match_run finds = match from to leaf answer rest finds may r

  -- with an error
  pub fault_runs : (to n : ℕ) (rest : List Item) → Attempts code bytes from (failed to) n → Runs code callback bytes to rest →
      Runs code callback bytes from (error None from to (slice_range bytes from to) ∷ rest)
  fault_runs to n rest attempts r = let finds : CodeFinds code bytes from (failed to) = (n, attempts) in fault from to rest finds r

  -- or at the end of the input
  pub over_runs : (n : ℕ) → Attempts code bytes from ended n → Runs code callback bytes from []
  over_runs n attempts = let finds : CodeFinds code bytes from ended = (n, attempts) in over from finds

  -- a leaf without a callback emits its matches
  pub may_emit : (leaf : ℕ) (slice : List ℕ) (b : Bool) → slice_get code.leaves leaf ≡ Some (record { skips = b; calls_back = false }) → MayAnswer code.leaves callback bytes leaf slice Emit
  may_emit leaf slice b is = rw is refl

  -- the matches of a skip have no item
  pub skipped_items : (to leaf : ℕ) → slice_get code.leaves leaf ≡ Some (record { skips = true; calls_back = false }) → items_of code.leaves callback bytes Emit leaf from to ≡ []
  skipped_items to leaf is = rw is refl

  -- and the others a token
  pub token_items : (to leaf : ℕ) → slice_get code.leaves leaf ≡ Some (record { skips = false; calls_back = false }) →
      items_of code.leaves callback bytes Emit leaf from to ≡ token leaf from to (slice_range bytes from to) ∷ []
  token_items to leaf is = rw is refl

  -- the next item is that of a match
  pub match_next : (to leaf n : ℕ) (answer : Action) (item : Item) → Attempts code bytes from (matched leaf to) n → MayAnswer code.leaves callback bytes leaf (slice_range bytes from to) answer →
      items_of code.leaves callback bytes answer leaf from to ≡ item ∷ [] → RunsOn code callback bytes from item to
  match_next to leaf n answer item attempts may is = let finds : CodeFinds code bytes from (matched leaf to) = (n, attempts) in yields from to leaf answer item finds may is

  -- the lexer is after a match without an item
  pub pass_next : (to leaf n : ℕ) (answer : Action) (item : Item) (end : ℕ) → Attempts code bytes from (matched leaf to) n → MayAnswer code.leaves callback bytes leaf (slice_range bytes from to) answer →
      items_of code.leaves callback bytes answer leaf from to ≡ [] → RunsOn code callback bytes to item end → RunsOn code callback bytes from item end
  pass_next to leaf n answer item end attempts may is next =
      let finds : CodeFinds code bytes from (matched leaf to) = (n, attempts) in passes from to leaf answer item end finds may is next

  -- or it is an error
  pub fault_next : (to n : ℕ) → Attempts code bytes from (failed to) n → RunsOn code callback bytes from (error None from to (slice_range bytes from to)) to
  fault_next to n attempts = let finds : CodeFinds code bytes from (failed to) = (n, attempts) in fails from to finds

-- the lexer after an item
abbrev pub moved : {C : Type 0} → LexerValue C → (from to steps : ℕ) → LexerValue C
moved lexer from to steps = record { code = lexer.code; input = lexer.input; callback = lexer.callback; from = from; to = to; steps = steps }

module _ {C : Type 0} (callback : Callback) (old : LexerValue C) where
  -- a continuation from here, after skipped matches, continues after the last item
  pub record Continues (from : ℕ) : Type 0 where
    pub after : old.to ≤ from
    pub within : from ≤ length old.input
    pub continues : (items : List Item) → Runs old.code callback old.input from items → Runs old.code callback old.input old.to items
    pub passed : (item : Item) (end : ℕ) → RunsOn old.code callback old.input from item end → RunsOn old.code callback old.input old.to item end

  -- past a match without an item
  pub goes_past : (from to leaf steps : ℕ) (answer : Action) → Continues from → Attempted old.code old.input from (matched leaf to) steps →
      MayAnswer old.code.leaves callback old.input leaf (slice_range old.input from to) answer → items_of old.code.leaves callback old.input answer leaf from to ≡ [] → Continues to
  goes_past from to leaf steps answer i t may is =
      let after = i.after in
      let fits : IsMatch old.code old.input from leaf to = t.within in
      record {
        after = omega (arith, after, fits.1);
        within = fits.2;
        continues = λ items r. i.continues items (match_runs old.code callback old.input from to leaf steps answer [] items t.attempts may is r);
        passed = λ item end r. i.passed item end (pass_next old.code callback old.input from to leaf steps answer item end t.attempts may is r);
      }

  -- past one of a leaf that skips without a callback
  pub goes_past_skip : (from to leaf steps : ℕ) → Continues from → Attempted old.code old.input from (matched leaf to) steps →
      slice_get old.code.leaves leaf ≡ Some (record { skips = true; calls_back = false }) → Continues to
  goes_past_skip from to leaf steps i t skips =
      goes_past from to leaf steps Emit i t (may_emit old.code callback old.input from leaf (slice_range old.input from to) true skips) (skipped_items old.code callback old.input from to leaf skips)

  module _ (from to steps : ℕ) (new : LexerValue C) (is_new : new ≡ moved old from to steps) where
    pub keeps : (found : Found) → Attempted old.code old.input from found steps → Keeps old new
    keeps found t =
        let made : Keeps old (moved old from to steps) = record { code = refl; input = refl; callback = refl; steps = (found, t.attempts); few = t.few } in
        subst (λ (l : LexerValue C). Keeps old l) (sym is_new) made

    -- the item of a match
    pub yields_item : (leaf : ℕ) (answer : Action) (item : Item) → Continues from → Attempted old.code old.input from (matched leaf to) steps →
        MayAnswer old.code.leaves callback old.input leaf (slice_range old.input from to) answer → items_of old.code.leaves callback old.input answer leaf from to ≡ item ∷ [] →
        Yields callback old new item
    yields_item leaf answer item i t may is =
        let fits : IsMatch old.code old.input from leaf to = t.within in
        let made : Yields callback old (moved old from to steps) item = record {
          span = item_span (moved old from to steps) from to refl refl old.code.leaves callback old.input answer leaf item is;
          after = i.after;
          nonempty = fits.1;
          within = fits.2;
          is = i.passed item to (match_next old.code callback old.input from to leaf steps answer item t.attempts may is);
          next = λ rest r. i.continues (item ∷ rest) (match_runs old.code callback old.input from to leaf steps answer (item ∷ []) rest t.attempts may is r);
        } in
        subst (λ (l : LexerValue C). Yields callback old l item) (sym is_new) made

    -- that of a leaf without a callback
    pub yields_token : (leaf : ℕ) (item : Item) → Continues from → Attempted old.code old.input from (matched leaf to) steps →
        slice_get old.code.leaves leaf ≡ Some (record { skips = false; calls_back = false }) → item ≡ token leaf from to (slice_range old.input from to) → Yields callback old new item
    yields_token leaf item i t emits is =
        yields_item leaf Emit item i t (may_emit old.code callback old.input from leaf (slice_range old.input from to) false emits)
        (token_items old.code callback old.input from to leaf emits ∙ ap (λ x. x ∷ []) (sym is))

    -- an error
    pub yields_error : (item : Item) → Continues from → Attempted old.code old.input from (failed to) steps → item ≡ error None from to (slice_range old.input from to) → Yields callback old new item
    yields_error item i t is =
        let span : (from < to) × (to ≤ length old.input) = t.within in
        let made : Yields callback old (moved old from to steps) (error None from to (slice_range old.input from to)) = record {
          span = (refl {a = from}, refl {a = to});
          after = i.after;
          nonempty = span.0;
          within = span.1;
          is = i.passed _ _ (fault_next old.code callback old.input from to steps t.attempts);
          next = λ rest r. i.continues _ (fault_runs old.code callback old.input from to steps rest t.attempts r);
        } in
        subst (λ (l : LexerValue C). Yields callback old l item) (sym is_new) (subst (λ (x : Item). Yields callback old (moved old from to steps) x) (sym is) made)

  -- the end of the input
  pub ends_run : (from steps : ℕ) (new : LexerValue C) → new ≡ moved old from from steps → Continues from → Attempted old.code old.input from ended steps → Ends callback old new
  ends_run from steps new is_new i t =
      let within = i.within in
      let past : length old.input ≤ from = t.within in
      let made : Ends callback old (moved old from from steps) = record {
        from = omega (arith, within, past);
        to = omega (arith, within, past);
        over = i.continues [] (over_runs old.code callback old.input from steps t.attempts);
      } in
      subst (λ (l : LexerValue C). Ends callback old l) (sym is_new) made
