-- Steps of a lexer on a part of an input.
use Rattle.std.proofs.Common.{◌≡◌, ◌∙◌, ℕ, ◌-◌, ◌<◌, ◌≤◌, Bool, true, false, if◌then◌else◌, List, [], ◌∷◌, ◌++◌, length, take, drop, Some, None, slice_range, refl, sym, ap, subst, arith}
use Rattle.std.proofs.lemmas.List.{drop-append-le, take-append-le, length-drop}
use Rattle.logos_automaton.specs.Munch.{Use, Found, matched, failed}
use Rattle.logos_code.specs.declared.action.Action.{Action}
use Rattle.logos_code.specs.declared.action.Action.TheVariants.{Emit, Skip, Error}
use Rattle.logos_code.specs.Items.{Callback, Item, token, error, items_of, skips, MayAnswer, passes, yields, fails}
use Rattle.logos_code.specs.Runs.{RunsOn, CodeFinds}
use Rattle.logos_machine.specs.LexerValue.{LexerValue}
use Rattle.logos_machine.specs.Streams.{first_status, LooksPast, MayFollow, passes_none, passes_match, RunsOver}
use Rattle.logos_machine.specs.Within.{YieldsWithin, KeepsGiven, Waits}
use Rattle.logos_machine.specs.inside.Parts.{AttemptedWithin}
use Rattle.logos_machine.specs.inside.IsAt.{IsMatch}
use Rattle.logos_machine.proofs.AgreeLemmas.{open_attempts, attempts_whatever_follows}
use Rattle.logos_machine.proofs.LexerLemmas.{moved, item_span}

-- a span of the part holds the same bytes, regardless of the bytes that follow
range_front : (part rest : List ℕ) (from to : ℕ) → from ≤ to → to ≤ length part → slice_range (part ++ rest) from to ≡ slice_range part from to
range_front part rest from to order fits =
    ap (λ l. take (to - from) l) (drop-append-le from part rest (omega (arith, order, fits)))
    ∙ take-append-le (to - from) (drop from part) rest (omega (arith, order, fits, length-drop from part))

module _ (uses : List Use) (callback : Callback) (part rest : List ℕ) (from to : ℕ) (order : from ≤ to) (fits : to ≤ length part) where
  items_front : (answer : Action) (leaf : ℕ) → items_of uses callback (part ++ rest) answer leaf from to ≡ items_of uses callback part answer leaf from to
  items_front Emit leaf = go (skips uses callback part leaf)
    where
      go : (b : Bool) → (if b then [] else token leaf from to (slice_range (part ++ rest) from to) ∷ []) ≡ (if b then [] else token leaf from to (slice_range part from to) ∷ [])
      go true = refl
      go false = ap (λ l. token leaf from to l ∷ []) (range_front part rest from to order fits)
  items_front Skip leaf = refl
  items_front Error leaf = ap (λ l. error (Some leaf) from to l ∷ []) (range_front part rest from to order fits)

  may_front : (leaf : ℕ) (answer : Action) → MayAnswer uses callback part leaf (slice_range part from to) answer → MayAnswer uses callback (part ++ rest) leaf (slice_range (part ++ rest) from to) answer
  may_front leaf answer m = subst (λ (l : List ℕ). MayAnswer uses callback part leaf l answer) (sym (range_front part rest from to order fits)) m

module _ {C : Type 0} (callback : Callback) (old : LexerValue C) where
  -- a continuation from here, after matches without an item, continues after the last item,
  -- regardless of the bytes after the part
  pub record ContinuesWithin (from : ℕ) : Type 0 where
    pub after : old.to ≤ from
    pub within : from ≤ length old.input
    pub over : (rest : List ℕ) → MayFollow old.code rest → (end : ℕ) → RunsOver old.code callback (old.input ++ rest) from end → RunsOver old.code callback (old.input ++ rest) old.to end
    pub next : (rest : List ℕ) → MayFollow old.code rest → (item : Item) (end : ℕ) → RunsOn old.code callback (old.input ++ rest) from item end → RunsOn old.code callback (old.input ++ rest) old.to item end

  module _ (from to steps : ℕ) (found : Found) (t : AttemptedWithin old.code old.input from found steps) where
    finds_within : (rest : List ℕ) → MayFollow old.code rest → CodeFinds old.code (old.input ++ rest) from found
    finds_within rest follows = (steps, attempts_whatever_follows old.code old.input rest from steps found follows t.attempts)

  -- past a match without an item
  pub passes_within : (from to leaf steps : ℕ) (answer : Action) → ContinuesWithin from → AttemptedWithin old.code old.input from (matched leaf to) steps →
      MayAnswer old.code.leaves callback old.input leaf (slice_range old.input from to) answer → items_of old.code.leaves callback old.input answer leaf from to ≡ [] → ContinuesWithin to
  passes_within from to leaf steps answer i t may is =
      let after = i.after in
      let fits : IsMatch old.code old.input from leaf to = t.within in
      let order : from ≤ to = (let f = fits.1 in omega (arith, f)) in
      record {
        after = (let f = fits.1 in omega (arith, after, f));
        within = fits.2;
        over = λ rest f end r. i.over rest f end (passes_match from to leaf answer end (finds_within from to steps (matched leaf to) t rest f)
            (may_front old.code.leaves callback old.input rest from to order fits.2 leaf answer may)
            (items_front old.code.leaves callback old.input rest from to order fits.2 answer leaf ∙ is) r);
        next = λ rest f item end r. i.next rest f item end (passes from to leaf answer item end (finds_within from to steps (matched leaf to) t rest f)
            (may_front old.code.leaves callback old.input rest from to order fits.2 leaf answer may)
            (items_front old.code.leaves callback old.input rest from to order fits.2 answer leaf ∙ is) r);
      }

  module _ (from to steps : ℕ) (new : LexerValue C) (is_new : new ≡ moved old from to steps) where
    pub keeps_given : KeepsGiven old new
    keeps_given =
        let made : KeepsGiven old (moved old from to steps) = record { code = refl; input = refl; callback = refl } in
        subst (λ (l : LexerValue C). KeepsGiven old l) (sym is_new) made

    -- the item of a match
    pub yields_within : (leaf : ℕ) (answer : Action) (item : Item) → ContinuesWithin from → AttemptedWithin old.code old.input from (matched leaf to) steps →
        MayAnswer old.code.leaves callback old.input leaf (slice_range old.input from to) answer → items_of old.code.leaves callback old.input answer leaf from to ≡ item ∷ [] →
        YieldsWithin callback old new item
    yields_within leaf answer item i t may is =
        let fits : IsMatch old.code old.input from leaf to = t.within in
        let order : from ≤ to = (let f = fits.1 in omega (arith, f)) in
        let made : YieldsWithin callback old (moved old from to steps) item = record {
          span = item_span (moved old from to steps) from to refl refl old.code.leaves callback old.input answer leaf item is;
          after = i.after;
          nonempty = fits.1;
          within = fits.2;
          is = λ rest f. i.next rest f item to (yields from to leaf answer item (finds_within from to steps (matched leaf to) t rest f)
              (may_front old.code.leaves callback old.input rest from to order fits.2 leaf answer may)
              (items_front old.code.leaves callback old.input rest from to order fits.2 answer leaf ∙ is));
          attempts = (matched leaf to, t.attempts);
        } in
        subst (λ (l : LexerValue C). YieldsWithin callback old l item) (sym is_new) made

    -- an error
    pub yields_error_within : (item : Item) → ContinuesWithin from → AttemptedWithin old.code old.input from (failed to) steps → item ≡ error None from to (slice_range old.input from to) → YieldsWithin callback old new item
    yields_error_within item i t is =
        let span : (from < to) × (to ≤ length old.input) = t.within in
        let order : from ≤ to = (let f = span.0 in omega (arith, f)) in
        let made : YieldsWithin callback old (moved old from to steps) (error None from to (slice_range old.input from to)) = record {
          span = (refl {a = from}, refl {a = to});
          after = i.after;
          nonempty = span.0;
          within = span.1;
          is = λ rest f. i.next rest f (error None from to (slice_range old.input from to)) to
              (subst (λ (l : List ℕ). RunsOn old.code callback (old.input ++ rest) from (error None from to l) to) (range_front old.input rest from to order span.1)
              (fails from to (finds_within from to steps (failed to) t rest f)));
          attempts = (failed to, t.attempts);
        } in
        subst (λ (l : LexerValue C). YieldsWithin callback old l item) (sym is_new) (subst (λ i. YieldsWithin callback old (moved old from to steps) i) (sym is) made)

  -- the next item depends on the bytes after the part
  pub waits_within : (from : ℕ) (new : LexerValue C) → new ≡ moved old from from old.steps → ContinuesWithin from → LooksPast old.code old.input from (first_status old.code from) → Waits callback old new
  waits_within from new is_new i looks =
      let made : Waits callback old (moved old from from old.steps) = record {
        from = refl;
        after = i.after;
        within = i.within;
        steps = refl;
        passed = λ rest f. i.over rest f from (passes_none from);
        looks = looks;
        undecided = λ found n t. open_attempts old.code old.input from looks t;
      } in
      subst (λ (l : LexerValue C). Waits callback old l) (sym is_new) made
