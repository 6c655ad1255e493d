-- A match attempt that examines only the first bytes has the same result in each input that begins
-- with them.
use Rattle.std.proofs.Common.{◌≡◌, ◌∙◌, ℕ, zero, suc, ◌+◌, ◌<◌, ◌≤◌, ◌⊎◌, inl, inr, ⊎_elim, Bool, true, false, cond, eqb, ◌&&◌, ◌==◌, IsSome, IsTrue, IsCharBoundary, List, [], ◌∷◌, ◌++◌, length, take, drop, Option, Some, None, slice_get, refl, sym, ap, subst, arith}
use Rattle.std.proofs.lemmas.List.{append-nil, take-append-drop, drop-append-le, length-append, length-take-le, length-drop, get_or_append_left}
use Rattle.std.proofs.lemmas.List.Folds.{length-prefix_len, prefix_len-append}
use Rattle.std.proofs.lemmas.Bool.{cases_lt}
use Rattle.std.proofs.lemmas.Str.{IsCharBoundary-at_seam}
use Rattle.std.specs.List.{prefix_len}
use Rattle.logos_automaton.specs.Munch.{Found, ended, matched, failed}
use Rattle.logos_code.specs.Bytes.{passes_test}
use Rattle.logos_code.specs.Code.{CodeValue, CodeState, Fork, by_conditions, by_table}
use Rattle.logos_code.specs.Runs.{Status, Turn, enters, acts, looped, marked, forked, turn, Does, EndsError, Acts, AttemptsFrom, continues, acts_on, Attempts}
use Rattle.logos_machine.specs.Streams.{stop_at, HasBranches, IsClosed, IsOpen, LooksPast, MayFollow, NoBranches, StopsWithin, looks_here, looks_later, EndsWithin, AttemptsFromWithin, leads_within, acts_within, AttemptsWithin, AttemptsAgree}
use Rattle.logos_machine.proofs.StepLemmas.{closed_turn}

-- ---- lists with the same front

module _ (front one other : List ℕ) where
  -- a run of bytes that ends in the front ends at the same byte
  pub prefix_agrees : (p : ℕ → Bool) → prefix_len p (front ++ one) < length front → prefix_len p (front ++ other) ≡ prefix_len p (front ++ one)
  prefix_agrees p h = go (eqb (prefix_len p front) (length front)) (prefix_len-append p front one) (prefix_len-append p front other)
    where
      go : (b : Bool) → prefix_len p (front ++ one) ≡ cond b (length front + prefix_len p one) (prefix_len p front) →
          prefix_len p (front ++ other) ≡ cond b (length front + prefix_len p other) (prefix_len p front) → prefix_len p (front ++ other) ≡ prefix_len p (front ++ one)
      go true e f = absurd (omega (arith, h, e))
      go false e f = f ∙ sym e

slice_front : (front one other : List ℕ) (i : ℕ) → i < length front → slice_get (front ++ one) i ≡ slice_get (front ++ other) i
slice_front [] one other i h = absurd (omega (arith, h))
slice_front (x ∷ xs) one other zero h = refl
slice_front (x ∷ xs) one other (suc i) h = slice_front xs one other i (omega (arith, h))

boundary_front : (front one other : List ℕ) (i : ℕ) → i < length front → IsCharBoundary (front ++ one) i → IsCharBoundary (front ++ other) i
boundary_front front one other i h b = (
  omega (arith, h, length-append front other),
  λ l a.
      let here = get_or_append_left front one 0 i h in
      let there = get_or_append_left front other 0 i h in
      let least = b.1 (omega (arith, h, length-append front one)) (omega (arith, a, here, there)) in
      omega (arith, least, here, there),
)

some_not_none : {A : Type 0} (o : Option A) → IsSome o → o ≡ None → ⊥
some_not_none None some none = cc
some_not_none (Some a) some none = cc

one_fork : (fork : Fork) → NoBranches fork → HasBranches fork → ⊥
one_fork (by_conditions []) none some = some
one_fork (by_conditions (branch ∷ branches)) none some = none
one_fork (by_table entries) none some = none

acts_enters : (context : Option (ℕ × ℕ)) (offset : ℕ) (next : Status) → acts context offset ≡ enters next → ⊥
acts_enters context offset next same = cc

same_state : (o : Option CodeState) (a b : CodeState) → o ≡ Some a → o ≡ Some b → a ≡ b
same_state o a b e f = cc

module _ (code : CodeValue) (front one other : List ℕ) (start : ℕ) where
  loop_agrees : (loop : Option ℕ) (offset : ℕ) → offset + looped code loop (drop offset (front ++ one)) < length front →
      looped code loop (drop offset (front ++ other)) ≡ looped code loop (drop offset (front ++ one))
  loop_agrees None offset h = refl
  loop_agrees (Some k) offset h =
      let p = passes_test code.bit_tables k in
      let fits : offset ≤ length front = omega (arith, h) in
      let is_one : drop offset (front ++ one) ≡ drop offset front ++ one = drop-append-le offset front one fits in
      let is_other : drop offset (front ++ other) ≡ drop offset front ++ other = drop-append-le offset front other fits in
      let long = length-prefix_len p (drop offset (front ++ one)) in
      let within : prefix_len p (drop offset front ++ one) < length (drop offset front) = omega (arith, h, long, ap (prefix_len p) is_one, length-drop offset front) in
      length-prefix_len p (drop offset (front ++ other)) ∙ ap (prefix_len p) is_other ∙ prefix_agrees (drop offset front) one other p within
      ∙ sym (ap (prefix_len p) is_one) ∙ sym long

  turn_agrees : (state : CodeState) (at : Status) → stop_at code (front ++ one) state at.offset < length front → turn code (front ++ other) start state at ≡ turn code (front ++ one) start state at
  turn_agrees state at h =
      let same : stop_at code (front ++ other) state at.offset ≡ stop_at code (front ++ one) state at.offset = ap (λ n. at.offset + n) (loop_agrees state.fast_loop at.offset h) in
      ap (λ o. forked code state (slice_get (front ++ other) o) (at.state == code.root && o == start) o (marked state.mark o at.context)) same
      ∙ ap (λ s. forked code state s (at.state == code.root && stop_at code (front ++ one) state at.offset == start) (stop_at code (front ++ one) state at.offset) (marked state.mark (stop_at code (front ++ one) state at.offset) at.context))
      (slice_front front other one (stop_at code (front ++ one) state at.offset) h)

  stops_agree : (seen : ℕ) (at : Status) → seen ≤ length front → StopsWithin code (front ++ one) start seen at → StopsWithin code (front ++ other) start seen at
  stops_agree seen at fits s =
      (s.0, s.1, ⊎_elim (λ stops. inl (omega (arith, stops, loop_agrees s.0.fast_loop at.offset (omega (arith, stops, fits))))) (λ closed. inr closed) s.2)

  does_agrees : (seen : ℕ) (at : Status) (what : Turn) → seen ≤ length front → StopsWithin code (front ++ one) start seen at → Does code (front ++ one) start at what → Does code (front ++ other) start at what
  does_agrees seen at what fits s d =
      let same = same_state (slice_get code.states at.state) s.0 d.0 s.1 d.1 in
      ⊎_elim
      (λ stops. (d.0, d.1, turn_agrees d.0 at (subst (λ (state : CodeState). stop_at code (front ++ one) state at.offset < length front) same (omega (arith, stops, fits))) ∙ d.2))
      (λ closed.
      let is_closed : IsClosed d.0 = subst (λ (state : CodeState). IsClosed state) same closed.0 in
      (d.0, d.1, closed_turn code (front ++ other) start at d.0 is_closed closed.1 ∙ sym (closed_turn code (front ++ one) start at d.0 is_closed closed.1) ∙ d.2))
      s.2

  -- no character of the other list goes over the end of the bytes that are seen
  abbrev IsCutAt : ℕ → Type 0
  IsCutAt seen = IsTrue code.utf8 → IsCharBoundary (front ++ other) seen

  ends_agree : (seen offset to : ℕ) → seen ≤ length front → IsCutAt seen → (IsTrue code.utf8 → to ≤ seen) → EndsError code (front ++ one) start offset to → EndsError code (front ++ other) start offset to
  ends_agree seen offset to fits whole within e = record {
    past = e.past;
    boundary = λ utf8. elim (cases_lt to seen) [
      | inl less ↦ boundary_front front one other to (omega (arith, less, fits)) (e.boundary utf8)
      | inr more ↦ let same : seen ≡ to = (let w = within utf8 in omega (arith, more, w)) in subst (λ (n : ℕ). IsCharBoundary (front ++ other) n) same (whole utf8)
    ];
    least = λ end past cut. elim (cases_lt end to) [
      | inl less ↦ e.least end past (λ utf8. let w = within utf8 in boundary_front front other one end (omega (arith, less, w, fits)) (cut utf8))
      | inr more ↦ more
    ];
  }

  acts_agree : (seen : ℕ) (context : Option (ℕ × ℕ)) (offset : ℕ) (found : Found) → seen ≤ length front → IsCutAt seen → EndsWithin code (front ++ one) start seen found →
      Acts code (front ++ one) start context offset found → Acts code (front ++ other) start context offset found
  acts_agree seen (Some context) offset found fits whole within a = a
  acts_agree seen None offset ended fits whole within a = a
  acts_agree seen None offset (matched leaf to) fits whole within a = a
  acts_agree seen None offset (failed to) fits whole within a = ends_agree seen offset to fits whole within a

  ends_within : (seen : ℕ) (found : Found) → EndsWithin code (front ++ one) start seen found → EndsWithin code (front ++ other) start seen found
  ends_within seen ended w = w
  ends_within seen (matched leaf to) w = w
  ends_within seen (failed to) w = w

  goes_agree : (seen : ℕ) → seen ≤ length front → IsCutAt seen → {at : Status} {found : Found} {n : ℕ} → AttemptsFromWithin code (front ++ one) start seen at found n → AttemptsFromWithin code (front ++ other) start seen at found n
  goes_agree seen fits whole (leads_within at next found n s d g) =
      leads_within at next found n (stops_agree seen at fits s) (does_agrees seen at (enters next) fits s d) (goes_agree seen fits whole g)
  goes_agree seen fits whole (acts_within at context offset found s d a w) =
      acts_within at context offset found (stops_agree seen at fits s) (does_agrees seen at (acts context offset) fits s d) (acts_agree seen context offset found fits whole w a) (ends_within seen found w)

-- such a match attempt is a match attempt
pub goes_within : (code : CodeValue) (bytes : List ℕ) (start seen : ℕ) {at : Status} {found : Found} {n : ℕ} → AttemptsFromWithin code bytes start seen at found n → AttemptsFrom code bytes start at found n
goes_within code bytes start seen (leads_within at next found n s d g) = continues at next found n d (goes_within code bytes start seen g)
goes_within code bytes start seen (acts_within at context offset found s d a w) = acts_on at context offset found d a

pub attempts_agree : AttemptsAgree
attempts_agree code bytes others start seen n found fits same whole t =
    let front = take seen bytes in
    let long : length front ≡ seen = length-take-le seen bytes fits in
    let is_one : front ++ drop seen bytes ≡ bytes = take-append-drop seen bytes in
    let is_other : front ++ drop seen others ≡ others = ap (λ l. l ++ drop seen others) same ∙ take-append-drop seen others in
    let one : AttemptsWithin code (front ++ drop seen bytes) start seen found n = subst (λ (l : List ℕ). AttemptsWithin code l start seen found n) (sym is_one) t in
    let cut : IsTrue code.utf8 → IsCharBoundary (front ++ drop seen others) seen = λ utf8. subst (λ (l : List ℕ). IsCharBoundary l seen) (sym is_other) (whole utf8) in
    let other : AttemptsWithin code others start seen found n = subst (λ (l : List ℕ). AttemptsWithin code l start seen found n) is_other (goes_agree code front (drop seen bytes) (drop seen others) start seen (omega (arith, long)) cut one) in
    (other, goes_within code others start seen other)

-- a result that depends only on a part is found there, regardless of the bytes after it
pub attempts_whatever_follows : (code : CodeValue) (part rest : List ℕ) (start n : ℕ) (found : Found) → MayFollow code rest → AttemptsWithin code part start (length part) found n → Attempts code (part ++ rest) start found n
attempts_whatever_follows code part rest start n found follows t =
    let one : AttemptsWithin code (part ++ []) start (length part) found n = subst (λ (l : List ℕ). AttemptsWithin code l start (length part) found n) (sym (append-nil part)) t in
    let cut : IsTrue code.utf8 → IsCharBoundary (part ++ rest) (length part) = λ utf8. IsCharBoundary-at_seam (part ++ rest) part rest refl (follows utf8) in
    goes_within code (part ++ rest) start (length part) (goes_agree code part [] rest start (length part) (omega arith) cut one)

-- ---- a match attempt that is open at the end of the bytes does not depend on them alone

closed_open : (state : CodeState) → IsClosed state → IsOpen state → ⊥
closed_open state closed (inl loops) = some_not_none state.fast_loop loops closed.fast_loop
closed_open state closed (inr (inl branches)) = one_fork state.fork closed.fork branches
closed_open state closed (inr (inr ends)) = some_not_none state.at_end ends closed.at_end

module _ (code : CodeValue) (bytes : List ℕ) (start : ℕ) where
  same_turn : (at : Status) (one other : Turn) → Does code bytes start at one → Does code bytes start at other → one ≡ other
  same_turn at one other d e =
      let same = same_state (slice_get code.states at.state) d.0 e.0 d.1 e.1 in
      sym d.2 ∙ ap (λ (state : CodeState). turn code bytes start state at) same ∙ e.2

  stops_here : {at : Status} {found : Found} {n : ℕ} → AttemptsFromWithin code bytes start (length bytes) at found n → StopsWithin code bytes start (length bytes) at
  stops_here (leads_within at next found n s d g) = s
  stops_here (acts_within at context offset found s d a w) = s

  goes_next : {at : Status} {found : Found} {n : ℕ} → AttemptsFromWithin code bytes start (length bytes) at found n → (next : Status) → Does code bytes start at (enters next) →
      (more : Found) × (m : ℕ) × AttemptsFromWithin code bytes start (length bytes) next more m
  goes_next (leads_within at other found n s d g) next e =
      let same : enters other ≡ enters next = same_turn at (enters other) (enters next) d e in
      let there : other ≡ next = cc in
      (found, n, subst (λ (s : Status). AttemptsFromWithin code bytes start (length bytes) s found n) there g)
  goes_next (acts_within at context offset found s d a w) next e =
      let same : acts context offset ≡ enters next = same_turn at (acts context offset) (enters next) d e in
      absurd (acts_enters context offset next same)

  open_here : (at : Status) (state : CodeState) → slice_get code.states at.state ≡ Some state → length bytes ≤ stop_at code bytes state at.offset → (at.offset ≤ start) ⊎ IsOpen state →
      StopsWithin code bytes start (length bytes) at → ⊥
  open_here at state is past why s =
      let same = same_state (slice_get code.states at.state) s.0 state s.1 is in
      ⊎_elim
      (λ stops. let less : stop_at code bytes state at.offset < length bytes = subst (λ (t : CodeState). stop_at code bytes t at.offset < length bytes) same stops in omega (arith, less, past))
      (λ closed. ⊎_elim
      (λ first. let later = closed.1 in omega (arith, first, later))
      (λ opens. closed_open state (subst (λ (t : CodeState). IsClosed t) same closed.0) opens)
      why)
      s.2

  pub open_attempts : {at : Status} {found : Found} {n : ℕ} → LooksPast code bytes start at → AttemptsFromWithin code bytes start (length bytes) at found n → ⊥
  open_attempts (looks_here at state is past why) g = open_here at state is past why (stops_here g)
  open_attempts (looks_later at next does l) g = let more = goes_next g next does in open_attempts l more.2
