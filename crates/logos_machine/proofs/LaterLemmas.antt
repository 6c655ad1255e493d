-- Runs do not depend on the bytes before them.
use Rattle.std.proofs.Common.{◌≡◌, ◌≢◌, ◌∙◌, ℕ, suc, ◌+◌, ◌-◌, ◌<◌, ◌≤◌, Bool, true, false, ◌&&◌, ◌==◌, IsTrue, IfSome, IsCharBoundary, List, [], ◌∷◌, ◌++◌, length, drop, take, map, Option, Some, None, option_map, slice_get, slice_range, refl, sym, ap, subst, arith, if◌then◌else◌}
use Rattle.std.proofs.Math.Seq.{drop-append-add}
use Rattle.std.proofs.lemmas.List.{length-append, get_or-append-add, map-append}
use Rattle.logos_automaton.specs.Munch.{Use, Found, ended, matched, failed}
use Rattle.logos_code.specs.Code.{CodeValue, CodeState, Mark}
use Rattle.logos_code.specs.Headline.{IsSound}
use Rattle.logos_code.specs.Items.{Callback, Search, Item, token, error, MayAnswer, items_of, skips, Lexes, over, match, fault, NextItem, passes, yields, fails}
use Rattle.logos_code.specs.Runs.{Status, Turn, enters, acts, returns, looped, marked, led, forked, target, turn, Does, EndsError, Acts, AttemptsFrom, continues, is_over, acts_on, Attempts, CodeFinds}
use Rattle.logos_code.specs.declared.action.Action.{Action}
use Rattle.logos_code.specs.declared.action.Action.TheVariants.{Emit, Skip, Error}
use Rattle.logos_machine.specs.Streams.{first_status, stop_at, found_later, item_later, PassesOver, passes_none, passes_match, RunsGoLater}
use Rattle.logos_machine.proofs.StatusLemmas.{unmarked_root}

abbrev context_later : ℕ → Option (ℕ × ℕ) → Option (ℕ × ℕ)
context_later far = option_map (λ c. (c.0, far + c.1))

abbrev status_later : ℕ → Status → Status
status_later far at = record { state = at.state; offset = far + at.offset; context = context_later far at.context }

abbrev turn_later : ℕ → Turn → Turn
turn_later far (enters next) = enters (status_later far next)
turn_later far (acts context offset) = acts (context_later far context) (far + offset)
turn_later far returns = returns

-- ---- lists with more in front

slice_later : (front bytes : List ℕ) (i : ℕ) → slice_get (front ++ bytes) (length front + i) ≡ slice_get bytes i
slice_later [] bytes i = let e : length {A = ℕ} [] + i ≡ i = omega arith in ap (λ n. slice_get bytes n) e
slice_later (x ∷ xs) bytes i =
    let e : length (x ∷ xs) + i ≡ suc (length xs + i) = omega arith in
    ap (λ n. slice_get (x ∷ xs ++ bytes) n) e ∙ slice_later xs bytes i

range_later : (front bytes : List ℕ) (from to : ℕ) → slice_range (front ++ bytes) (length front + from) (length front + to) ≡ slice_range bytes from to
range_later front bytes from to =
    let e : length front + to - (length front + from) ≡ to - from = omega arith in
    ap (λ l. take (length front + to - (length front + from)) l) (drop-append-add front bytes from) ∙ ap (λ n. take n (drop from bytes)) e

boundary_later : (front bytes : List ℕ) (i : ℕ) → IsCharBoundary bytes i → IsCharBoundary (front ++ bytes) (length front + i)
boundary_later front bytes i b = let fits = b.0 in (
  omega (arith, fits, length-append front bytes),
  λ l a.
      let here = get_or-append-add front bytes i 0 in
      let least = b.1 (omega (arith, l, length-append front bytes)) (omega (arith, a, here)) in
      omega (arith, least, here),
)

boundary_earlier : (front bytes : List ℕ) (i : ℕ) → IsCharBoundary (front ++ bytes) (length front + i) → IsCharBoundary bytes i
boundary_earlier front bytes i b = let fits = b.0 in (
  omega (arith, fits, length-append front bytes),
  λ l a.
      let here = get_or-append-add front bytes i 0 in
      let least = b.1 (omega (arith, l, length-append front bytes)) (omega (arith, a, here)) in
      omega (arith, least, here),
)

same_test : (far a b : ℕ) → (far + a == far + b) ≡ (a == b)
same_test far a b = grind arith

-- ---- one state

marked_later : (far : ℕ) (mark : Option Mark) (offset : ℕ) (context : Option (ℕ × ℕ)) → IfSome mark (λ m. IsTrue m.late → 0 < offset) →
    marked mark (far + offset) (context_later far context) ≡ context_later far (marked mark offset context)
marked_later far None offset context h = refl
marked_later far (Some mark) offset context h = go mark.late h
  where
    go : (late : Bool) → (IsTrue late → 0 < offset) →
        ◌≡◌ {A = Option (ℕ × ℕ)} (Some (mark.leaf, if late then far + offset - 1 else far + offset)) (Some (mark.leaf, far + (if late then offset - 1 else offset)))
    go true h =
        let pos = h refl in
        let e : far + offset - 1 ≡ far + (offset - 1) = omega (arith, pos) in
        ap (λ n. Some (mark.leaf, n)) e
    go false h = refl

led_later : (far : ℕ) (to : Option ℕ) (offset : ℕ) (context : Option (ℕ × ℕ)) → led to (far + offset) (context_later far context) ≡ turn_later far (led to offset context)
led_later far None offset context = refl
led_later far (Some t) offset context =
    let e : far + offset + 1 ≡ far + (offset + 1) = omega arith in
    ap (λ n. enters (record { state = t; offset = n; context = context_later far context })) e

forked_later : (code : CodeValue) (far : ℕ) (state : CodeState) (byte : Option ℕ) (fresh : Bool) (offset : ℕ) (context : Option (ℕ × ℕ)) →
    forked code state byte fresh (far + offset) (context_later far context) ≡ turn_later far (forked code state byte fresh offset context)
forked_later code far state (Some b) fresh offset context = led_later far (target code state.fork b) offset context
forked_later code far state None true offset context = refl
forked_later code far state None false offset context = led_later far state.at_end offset context

enters_same : (s t : Status) → enters s ≡ enters t → s ≡ t
enters_same s t e = cc

-- a state that is entered has a byte before it
led_past : (to : Option ℕ) (offset : ℕ) (context : Option (ℕ × ℕ)) (next : Status) → led to offset context ≡ enters next → 0 < next.offset
led_past None offset context next e = absurd cc
led_past (Some t) offset context next e =
    let same : Path Status (record { state = t; offset = offset + 1; context = context }) next = enters_same _ next e in
    subst (λ (s : Status). 0 < s.offset) same (omega arith)

forked_past : (code : CodeValue) (state : CodeState) (byte : Option ℕ) (fresh : Bool) (offset : ℕ) (context : Option (ℕ × ℕ)) (next : Status) →
    forked code state byte fresh offset context ≡ enters next → 0 < next.offset
forked_past code state (Some b) fresh offset context next e = led_past (target code state.fork b) offset context next e
forked_past code state None true offset context next e = absurd cc
forked_past code state None false offset context next e = led_past state.at_end offset context next e

module _ (code : CodeValue) (sound : IsSound code) (front bytes : List ℕ) (start : ℕ) where
  abbrev far : ℕ
  far = length front

  -- only the first state may be entered before the first byte, and it has no mark
  abbrev IsPast : Status → Type 0
  IsPast at = at.state ≢ code.root → 0 < at.offset

  late_past : (at : Status) (state : CodeState) (offset : ℕ) → IsPast at → at.offset ≤ offset → slice_get code.states at.state ≡ Some state → (mark : Option Mark) → state.mark ≡ mark →
      IfSome mark (λ m. IsTrue m.late → 0 < offset)
  late_past at state offset past on is None marks = tt
  late_past at state offset past on is (Some mark) marks = λ late.
      let pos = past (λ same. unmarked_root code sound bytes at.state state same is marks) in
      omega (arith, pos, on)

  loop_later : (loop : Option ℕ) (offset : ℕ) → looped code loop (drop (far + offset) (front ++ bytes)) ≡ looped code loop (drop offset bytes)
  loop_later loop offset = ap (looped code loop) (drop-append-add front bytes offset)

  turn_later_is : (at : Status) (state : CodeState) → IsPast at → slice_get code.states at.state ≡ Some state →
      turn code (front ++ bytes) (far + start) state (status_later far at) ≡ turn_later far (turn code bytes start state at)
  turn_later_is at state past is =
      let offset = stop_at code bytes state at.offset in
      let stops : far + at.offset + looped code state.fast_loop (drop (far + at.offset) (front ++ bytes)) ≡ far + offset = omega (arith, loop_later state.fast_loop at.offset) in
      let context = marked state.mark offset at.context in
      ap (λ o. forked code state (slice_get (front ++ bytes) o) (at.state == code.root && o == far + start) o (marked state.mark o (context_later far at.context))) stops
      ∙ ap (λ s. forked code state s (at.state == code.root && far + offset == far + start) (far + offset) (marked state.mark (far + offset) (context_later far at.context))) (slice_later front bytes offset)
      ∙ ap (λ f. forked code state (slice_get bytes offset) (at.state == code.root && f) (far + offset) (marked state.mark (far + offset) (context_later far at.context))) (same_test far offset start)
      ∙ ap (λ c. forked code state (slice_get bytes offset) (at.state == code.root && offset == start) (far + offset) c) (marked_later far state.mark offset at.context (late_past at state offset past (omega arith) is state.mark refl))
      ∙ forked_later code far state (slice_get bytes offset) (at.state == code.root && offset == start) offset context

  does_later : (at : Status) (what : Turn) → IsPast at → Does code bytes start at what → Does code (front ++ bytes) (far + start) (status_later far at) (turn_later far what)
  does_later at what past d = (d.0, d.1, turn_later_is at d.0 past d.1 ∙ ap (turn_later far) d.2)

  ends_later : (offset to : ℕ) → EndsError code bytes start offset to → EndsError code (front ++ bytes) (far + start) (far + offset) (far + to)
  ends_later offset to e = record {
    past = let p = e.past in omega (arith, p);
    boundary = λ utf8. boundary_later front bytes to (e.boundary utf8);
    least = λ other past cut.
        let is : far + (other - far) ≡ other = omega (arith, past) in
        let least = e.least (other - far) (omega (arith, past)) (λ utf8. boundary_earlier front bytes (other - far) (subst (λ n. IsCharBoundary (front ++ bytes) n) (sym is) (cut utf8))) in
        omega (arith, least, past);
  }

  acts_later : (context : Option (ℕ × ℕ)) (offset : ℕ) (found : Found) → Acts code bytes start context offset found →
      Acts code (front ++ bytes) (far + start) (context_later far context) (far + offset) (found_later far found)
  acts_later (Some context) offset found a = ap (found_later far) a
  acts_later None offset ended a = absurd a
  acts_later None offset (matched leaf to) a = absurd a
  acts_later None offset (failed to) a = ends_later offset to a

  next_past : (at next : Status) → Does code bytes start at (enters next) → IsPast next
  next_past at next d = λ other. forked_past code d.0 (slice_get bytes (stop_at code bytes d.0 at.offset)) (at.state == code.root && stop_at code bytes d.0 at.offset == start)
      (stop_at code bytes d.0 at.offset) (marked d.0.mark (stop_at code bytes d.0 at.offset) at.context) next d.2

  goes_later : {at : Status} {found : Found} {n : ℕ} → IsPast at → AttemptsFrom code bytes start at found n → AttemptsFrom code (front ++ bytes) (far + start) (status_later far at) (found_later far found) n
  goes_later past (continues at next found n d g) =
      continues (status_later far at) (status_later far next) (found_later far found) n (does_later at (enters next) past d) (goes_later (next_past at next d) g)
  goes_later past (is_over at d) = is_over (status_later far at) (does_later at returns past d)
  goes_later past (acts_on at context offset found d a) =
      acts_on (status_later far at) (context_later far context) (far + offset) (found_later far found) (does_later at (acts context offset) past d) (acts_later context offset found a)

  pub attempts_later : (found : Found) (n : ℕ) → Attempts code bytes start found n → Attempts code (front ++ bytes) (far + start) (found_later far found) n
  attempts_later found n t = goes_later {at = first_status code start} (λ other. absurd (other refl)) t

pub finds_later : (code : CodeValue) → IsSound code → (front bytes : List ℕ) (from : ℕ) (found : Found) → CodeFinds code bytes from found →
    CodeFinds code (front ++ bytes) (length front + from) (found_later (length front) found)
finds_later code sound front bytes from found t = (t.0, attempts_later code sound front bytes from found t.0 t.1)

-- ---- items

module _ (uses : List Use) (callback : Callback) (front bytes : List ℕ) (search later : Search) (finds : (from : ℕ) (found : Found) → search from found → later (length front + from) (found_later (length front) found)) where
  abbrev off : ℕ
  off = length front

  items_later : (answer : Action) (leaf from to : ℕ) → items_of uses callback (front ++ bytes) answer leaf (off + from) (off + to) ≡ map (item_later off) (items_of uses callback bytes answer leaf from to)
  items_later Emit leaf from to = go (skips uses callback bytes leaf)
    where
      go : (b : Bool) → (if b then [] else token leaf (off + from) (off + to) (slice_range (front ++ bytes) (off + from) (off + to)) ∷ []) ≡
          map (item_later off) (if b then [] else token leaf from to (slice_range bytes from to) ∷ [])
      go true = refl
      go false = ap (λ l. token leaf (off + from) (off + to) l ∷ []) (range_later front bytes from to)
  items_later Skip leaf from to = refl
  items_later Error leaf from to = ap (λ l. error (Some leaf) (off + from) (off + to) l ∷ []) (range_later front bytes from to)

  may_later : (leaf from to : ℕ) (answer : Action) → MayAnswer uses callback bytes leaf (slice_range bytes from to) answer →
      MayAnswer uses callback (front ++ bytes) leaf (slice_range (front ++ bytes) (off + from) (off + to)) answer
  may_later leaf from to answer m = subst (λ (l : List ℕ). MayAnswer uses callback bytes leaf l answer) (sym (range_later front bytes from to)) m

  match_later : (from to leaf : ℕ) (answer : Action) (rest : List Item) → later (off + from) (matched leaf (off + to)) →
      MayAnswer uses callback (front ++ bytes) leaf (slice_range (front ++ bytes) (off + from) (off + to)) answer →
      Lexes uses callback (front ++ bytes) later (off + to) (map (item_later off) rest) →
      Lexes uses callback (front ++ bytes) later (off + from) (map (item_later off) (items_of uses callback bytes answer leaf from to ++ rest))
  match_later from to leaf answer rest s m l =
      subst (λ (items : List Item). Lexes uses callback (front ++ bytes) later (off + from) items)
      (ap (λ l. l ++ map (item_later off) rest) (items_later answer leaf from to) ∙ sym (map-append (item_later off) (items_of uses callback bytes answer leaf from to) rest))
      (match (off + from) (off + to) leaf answer (map (item_later off) rest) s m l)

  fault_later : (from to : ℕ) (rest : List Item) → later (off + from) (failed (off + to)) → Lexes uses callback (front ++ bytes) later (off + to) (map (item_later off) rest) →
      Lexes uses callback (front ++ bytes) later (off + from) (error None (off + from) (off + to) (slice_range bytes from to) ∷ map (item_later off) rest)
  fault_later from to rest s l =
      subst (λ (slice : List ℕ). Lexes uses callback (front ++ bytes) later (off + from) (error None (off + from) (off + to) slice ∷ map (item_later off) rest)) (range_later front bytes from to)
      (fault (off + from) (off + to) (map (item_later off) rest) s l)

  pub lexes_later : {from : ℕ} {items : List Item} → Lexes uses callback bytes search from items → Lexes uses callback (front ++ bytes) later (off + from) (map (item_later off) items)
  lexes_later (over from s) = over (off + from) (finds from ended s)
  lexes_later (match from to leaf answer rest s m l) = match_later from to leaf answer rest (finds from (matched leaf to) s) (may_later leaf from to answer m) (lexes_later l)
  lexes_later (fault from to rest s l) = fault_later from to rest (finds from (failed to) s) (lexes_later l)

  none_later : (answer : Action) (leaf from to : ℕ) → items_of uses callback bytes answer leaf from to ≡ [] → items_of uses callback (front ++ bytes) answer leaf (off + from) (off + to) ≡ []
  none_later answer leaf from to e = items_later answer leaf from to ∙ ap (map (item_later off)) e

  pub next_later : {from end : ℕ} {item : Item} → NextItem uses callback bytes search from item end → NextItem uses callback (front ++ bytes) later (off + from) (item_later off item) (off + end)
  next_later (passes from to leaf answer item end s m e x) =
      passes (off + from) (off + to) leaf answer (item_later off item) (off + end) (finds from (matched leaf to) s) (may_later leaf from to answer m) (none_later answer leaf from to e) (next_later x)
  next_later (yields from to leaf answer item s m e) =
      yields (off + from) (off + to) leaf answer (item_later off item) (finds from (matched leaf to) s) (may_later leaf from to answer m) (items_later answer leaf from to ∙ ap (map (item_later off)) e)
  next_later (fails from to s) =
      subst (λ (slice : List ℕ). NextItem uses callback (front ++ bytes) later (off + from) (error None (off + from) (off + to) slice) (off + to)) (range_later front bytes from to)
      (fails (off + from) (off + to) (finds from (failed to) s))

  pub over_later : {from end : ℕ} → PassesOver uses callback bytes search from end → PassesOver uses callback (front ++ bytes) later (off + from) (off + end)
  over_later (passes_none at) = passes_none (off + at)
  over_later (passes_match from to leaf answer end s m e x) =
      passes_match (off + from) (off + to) leaf answer (off + end) (finds from (matched leaf to) s) (may_later leaf from to answer m) (none_later answer leaf from to e) (over_later x)

pub runs_go_later : (callback : Callback) → RunsGoLater callback
runs_go_later callback = record {
  attempts = λ code front bytes start n found sound t. attempts_later code sound front bytes start found n t;
  runs = λ code front bytes from items sound r. lexes_later code.leaves callback front bytes (CodeFinds code bytes) (CodeFinds code (front ++ bytes)) (finds_later code sound front bytes) r;
  next = λ code front bytes from end item sound r. next_later code.leaves callback front bytes (CodeFinds code bytes) (CodeFinds code (front ++ bytes)) (finds_later code sound front bytes) r;
  over = λ code front bytes from end sound r. over_later code.leaves callback front bytes (CodeFinds code bytes) (CodeFinds code (front ++ bytes)) (finds_later code sound front bytes) r;
}
