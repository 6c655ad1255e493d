-- A code value that is made from a graph runs as the graph does.
use Rattle.std.proofs.Common.{◌≡◌, ℕ, zero, suc, ◌+◌, ◌-◌, ◌<◌, ◌≤◌, ◌↔◌, ◌⊎◌, inl, inr, ⊎_elim, Bool, true, ◌==◌, List, [], length, drop, Option, Some, None, slice_get, refl, sym, ap, ◌∙◌, subst, arith}
use Rattle.std.proofs.lemmas.List.{drop_all}
use Rattle.std.proofs.lemmas.Option.{slice_get_past}
use Rattle.std.proofs.lemmas.Bool.Decides.{eqb_tells}
use Rattle.logos_hir.specs.Text.{IsBytes}
use Rattle.logos_automaton.specs.Munch.{Found, ended, matched, failed}
use Rattle.logos_code.specs.Code.{CodeValue, CodeState}
use Rattle.logos_code.specs.Runs.{Status, Turn, enters, acts, returns, looped, turn, Does, Acts, AttemptsFrom, continues, is_over, acts_on, Attempts, CodeFinds}
use Rattle.logos_graph.specs.Graph.{GraphState}
use Rattle.logos_graph.specs.Found.{GraphFinds}
use Rattle.logos_generator.specs.Runs.{RunsAs}
use Rattle.logos_generator.specs.Makes.{Makes, IsMade}
use Rattle.logos_generator.proofs.ScanLemmas.{mark_at, last_of, reach}
use Rattle.logos_generator.proofs.FoundLemmas.{found_iff}
use Rattle.logos_generator.proofs.TurnLemmas.{Bound, Turns, turns}

-- an action by another offset, which counts only where there is no context
acts_by : (code : CodeValue) (bytes : List ℕ) (start : ℕ) (context other : Option (ℕ × ℕ)) (offset row_start : ℕ) (found : Found) →
    context ≡ other → (other ≡ None → offset ≡ row_start) → Acts code bytes start context offset found → Acts code bytes start other row_start found
acts_by code bytes start context None offset row_start found same row_starts a =
    subst (λ o. Acts code bytes start None o found) (row_starts refl) (subst (λ c. Acts code bytes start c offset found) same a)
acts_by code bytes start context (Some p) offset row_start found same row_starts a =
    subst (λ c. Acts code bytes start c offset found) same a

enters_acts : (s : Status) (c : Option (ℕ × ℕ)) (o : ℕ) → enters s ≡ acts c o → ⊥
enters_acts s c o e = cc

enters_returns : (s : Status) → returns ≡ enters s → ⊥
enters_returns s e = cc

acts_returns : (c : Option (ℕ × ℕ)) (o : ℕ) → returns ≡ acts c o → ⊥
acts_returns c o e = cc

enters_same : (s t : Status) → enters s ≡ enters t → s ≡ t
enters_same s t e = cc

acts_same : (c d : Option (ℕ × ℕ)) (o p : ℕ) → acts c o ≡ acts d p → (c ≡ d) × (o ≡ p)
acts_same c d o p e = (cc, cc)

module _ (graph : List GraphState) (utf8 : Bool) (code : CodeValue) (is_made : IsMade graph utf8 code) (bytes : List ℕ) (are : IsBytes bytes) where
  module _ (start : ℕ) (starts : start < length bytes) where
    -- the result from a status on
    abbrev Finds : Status → Found → Type 0
    Finds at found = Acts code bytes start (last_of graph at.state (drop at.offset bytes) at.offset at.context) (at.offset + reach graph at.state (drop at.offset bytes)) found

    abbrev IsAt : Status → Type 0
    IsAt at = (state : GraphState) × (slice_get graph at.state ≡ Some state) × Bound code graph bytes are start starts state at.offset

    -- the turn of a state of the code that is entered there
    does : (at : Status) → IsAt at → (what : Turn) → Does code bytes start at what → Turns code graph bytes are start starts at what
    does at s what d =
        let m = is_made.states at.state s.0 s.1 in
        let same : m.0 ≡ d.0 = cc in
        subst (Turns code graph bytes are start starts at) (ap (λ c. turn code bytes start c at) same ∙ d.2)
        (turns code graph bytes are start starts at s.0 m.0 s.1 m.2 (is_made.closed at.state s.0 s.1) s.2)

    early : (at : Status) → IsAt at → at.offset ≤ length bytes + 1
    early at s = ⊎_elim (λ h. omega (arith, h)) (λ h. omega (arith, h.0)) s.2

    pub goes_finds : {at : Status} {found : Found} {n : ℕ} → AttemptsFrom code bytes start at found n → IsAt at → Finds at found × (n + at.offset ≤ length bytes + 2)
    goes_finds (continues at next found n d g) s = go (goes_finds g) (does at s (enters next) d)
      where
        go : (IsAt next → Finds next found × (n + next.offset ≤ length bytes + 2)) → Turns code graph bytes are start starts at (enters next) → Finds at found × (suc n + at.offset ≤ length bytes + 2)
        go later (inl v) =
            let same : v.next ≡ next = sym (enters_same next v.next v.is) in
            let f = subst (λ t. IsAt t → Finds t found × (n + t.offset ≤ length bytes + 2)) (sym same) later (v.state, v.has, v.bound) in
            let moves = v.moves in
            (acts_by code bytes start _ _ _ _ found (sym v.last) (λ e. sym (v.reached (sym v.last ∙ e))) f.0, omega (arith, f.1))
        go later (inr v) = absurd (enters_acts next _ v.offset v.is)
    goes_finds (is_over at d) s = ⊎_elim
        (λ v. absurd (enters_returns v.next v.is))
        (λ v. absurd (acts_returns _ v.offset v.is))
        (does at s returns d)
    goes_finds (acts_on at context offset found d a) s = ⊎_elim
        (λ v. absurd (enters_acts v.next context offset (sym v.is)))
        (λ v. let e = acts_same context _ offset v.offset v.is in let f = early at s in
        (acts_by code bytes start _ _ _ _ found e.0 (λ n. e.1 ∙ sym v.reached) a, omega (arith, f)))
        (does at s (acts context offset) d)

    pub finds_goes : (fuel : ℕ) (at : Status) (found : Found) → IsAt at → length bytes + 2 ≤ at.offset + fuel → Finds at found → (n : ℕ) × AttemptsFrom code bytes start at found n
    finds_goes zero at found s h f = absurd (let k = early at s in omega (arith, k, h))
    finds_goes (suc fuel) at found s h f = go (finds_goes fuel) (turns code graph bytes are start starts at s.0 m.0 s.1 m.2 (is_made.closed at.state s.0 s.1) s.2)
      where
        m : (made : CodeState) × (slice_get code.states at.state ≡ Some made) × Makes code at.state s.0 made
        m = is_made.states at.state s.0 s.1

        go : ((at : Status) (found : Found) → IsAt at → length bytes + 2 ≤ at.offset + fuel → Finds at found → (n : ℕ) × AttemptsFrom code bytes start at found n) →
            Turns code graph bytes are start starts at (turn code bytes start m.0 at) → (n : ℕ) × AttemptsFrom code bytes start at found n
        go later (inl v) =
            let moves = v.moves in
            let g = later v.next found (v.state, v.has, v.bound) (omega (arith, h, moves)) (acts_by code bytes start _ _ _ _ found v.last v.reached f) in
            (suc g.0, continues at v.next found g.0 (m.0, m.1, v.is) g.1)
        go later (inr v) = (1, acts_on at _ v.offset found (m.0, m.1, v.is) (subst (λ o. Acts code bytes start _ o found) v.reached f))

  -- at the end of the input
  at_end : (from : ℕ) → length bytes ≤ from → (made : CodeState) → turn code bytes from made (record { state = code.root; offset = from; context = None }) ≡ returns
  at_end from past made =
      let e : drop from bytes ≡ [] = drop_all from bytes past in
      let l : looped code made.fast_loop [] ≡ 0 = no_loop made.fast_loop in
      let k : from + 0 ≡ from = omega arith in
      let g : slice_get bytes from ≡ None = slice_get_past bytes from past in
      rw (e, l, k, g, same_is code.root, same_is from) refl
    where
      no_loop : (loop : Option ℕ) → looped code loop [] ≡ 0
      no_loop None = refl
      no_loop (Some k) = refl

      same_is : (n : ℕ) → (n == n) ≡ true
      same_is n = ⊎_elim (λ h. h.0) (λ h. absurd (h.1 refl)) (eqb_tells n n)

  abbrev begin : ℕ → Status
  begin from = record { state = code.root; offset = from; context = None }

  over : (from : ℕ) → length bytes ≤ from → (at : Status) → at ≡ begin from → (what : Turn) → Does code bytes from at what → what ≡ returns
  over from past at is what d = sym d.2 ∙ ap (λ t. turn code bytes from d.0 t) is ∙ at_end from past d.0

  returns_only : (from : ℕ) → length bytes ≤ from → {at : Status} {found : Found} {n : ℕ} → at ≡ begin from → AttemptsFrom code bytes from at found n → (found ≡ ended) × (n ≡ 1)
  returns_only from past is (continues at next found n d g) = absurd (enters_returns next (sym (over from past at is _ d)))
  returns_only from past is (is_over at d) = (refl, refl)
  returns_only from past is (acts_on at context offset found d a) = absurd (acts_returns context offset (sym (over from past at is _ d)))

  -- the first status, by state 0
  first : (from : ℕ) (starts : from < length bytes) → IsAt from starts (record { state = 0; offset = from; context = None })
  first from starts = (is_made.first, is_made.has_first, inl (omega arith))

  inside : (from : ℕ) → from < length bytes → (found : Found) → CodeFinds code bytes from found ↔ GraphFinds graph utf8 bytes from found
  inside from starts found = subst (λ r. ((n : ℕ) × AttemptsFrom code bytes from (record { state = r; offset = from; context = None }) found n) ↔ GraphFinds graph utf8 bytes from found) (sym is_made.root) (
    λ g. iff.1 (goes_finds from starts g.1 (first from starts)).0,
    λ f. finds_goes from starts (length bytes + 2) _ found (first from starts) (omega arith) (iff.0 f),
  )
    where
      unmarked : mark_at graph 0 ≡ None
      unmarked = rw is_made.has_first is_made.unmarked

      iff : GraphFinds graph utf8 bytes from found ↔ Acts code bytes from (last_of graph 0 (drop from bytes) from None) (from + reach graph 0 (drop from bytes)) found
      iff = found_iff code graph utf8 bytes from is_made.mode starts unmarked found

  outside : (from : ℕ) → length bytes ≤ from → (found : Found) → CodeFinds code bytes from found ↔ GraphFinds graph utf8 bytes from found
  outside from past found = (λ g. subst (GraphFinds graph utf8 bytes from) (sym (returns_only from past refl g.1).0) past, back found)
    where
      back : (found : Found) → GraphFinds graph utf8 bytes from found → CodeFinds code bytes from found
      back ended f =
          let m = is_made.states code.root is_made.first (rw is_made.root is_made.has_first) in
          (1, is_over (begin from) (m.0, m.1, at_end from past m.0))
      back (matched leaf to) f = absurd (omega (arith, f.0, past))
      back (failed to) f = absurd (let s = f.starts in omega (arith, s, past))

  either : (a b : ℕ) → (a < b) ⊎ (b ≤ a)
  either a b = grind arith

  pub same_found : (from : ℕ) (found : Found) → CodeFinds code bytes from found ↔ GraphFinds graph utf8 bytes from found
  same_found from found = ⊎_elim (λ h. inside from h found) (λ h. outside from h found) (either from (length bytes))

  pub few_steps : (from n : ℕ) (found : Found) → from ≤ length bytes → Attempts code bytes from found n → n ≤ (length bytes - from) + 2
  few_steps from n found fits g = ⊎_elim
      (λ h. let b = (goes_finds from h (subst (λ r. AttemptsFrom code bytes from (record { state = r; offset = from; context = None }) found n) is_made.root g) (first from h)).1 in omega (arith, b, fits))
      (λ h. let e = (returns_only from h refl g).1 in omega (arith, e))
      (either from (length bytes))

-- a code value that is made from a graph runs as the graph does
pub runs_as : (graph : List GraphState) (utf8 : Bool) (code : CodeValue) → IsMade graph utf8 code → RunsAs graph utf8 code
runs_as graph utf8 code is_made = record {
  same = λ bytes from found are. same_found graph utf8 code is_made bytes are from found;
  steps = λ bytes from n found are fits g. few_steps graph utf8 code is_made bytes are from n found fits g;
}
