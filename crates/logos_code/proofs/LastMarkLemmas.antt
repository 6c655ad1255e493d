-- The last marks of a code, from the conditions that are checked of them.
use Rattle.std.proofs.Common.{◌≡◌, ℕ, ◌+◌, ◌-◌, ◌<◌, ◌≤◌, ◌⊎◌, ⊎_elim, Bool, true, false, ◌&&◌, ◌==◌, IsTrue, IfSome, IsSomeAnd, All, List, [], length, drop, find, get_or, slice_index, Option, Some, None, option_map, slice_get, refl, sym, ap, subst, ◌∙◌, arith, if◌then◌else◌}
use Rattle.std.proofs.lemmas.List.{length-map, get_or-map}
use Rattle.std.proofs.lemmas.Option.{slice_get-get_or, get_or_from_slice_get}
use Rattle.std.proofs.Math.ListN.{get_or-eq_default}
use Rattle.logos_code.specs.Code.{CodeValue, CodeState, Condition, Mark, by_conditions, by_table}
use Rattle.logos_code.specs.CodeView.{state_at, no_state, state_of, code_of, mark_of, fork_of, jumps_of, entry_of}
use Rattle.logos_code.specs.Headline.{IsSound, IsRoot, IsEnd, IsLate, NamesExisting}
use Rattle.logos_code.specs.LastMarks.{IsOfAttempt, first_status, next_status, Holds, AreLastMarks, last_mark_at}
use Rattle.logos_code.specs.Runs.{Status, Turn, enters, acts, returns, led, forked, turn, Does, passes, target, looped, marked}
use Rattle.logos_code.specs.inside.LastMarks.{IsOwn, Follows, BeginsUnmarked, FollowsAt, ForkAgrees, StateAgrees, Agree}
use Rattle.logos_code.specs.declared.code.last_marks.LastMark.{LastMark}
use Rattle.logos_code.specs.declared.code.last_marks.LastMark.TheVariants.{Unseen, Varies, Never, Back}
use Rattle.logos_code.specs.declared.code.CodeParts.{CodeParts}
use Rattle.logos_code.specs.declared.code.CodeState.{CodeState as TheState}
use Rattle.logos_code.proofs.CodeLemmas.{root_there}
use Rattle.logos_code.proofs.RowLemmas.{state_there}
use Rattle.logos_code.proofs.TargetLemmas.{All-slice_get, All-find, target_there}

some_pair : (a b c d : ℕ) → a ≡ b → c ≡ d → Path (Option (ℕ × ℕ)) (Some (a, c)) (Some (b, d))
some_pair a b c d e f = cc

acts_same : (c d : Option (ℕ × ℕ)) (o p : ℕ) → acts c o ≡ acts d p → (c ≡ d) × (o ≡ p)
acts_same c d o p e = (cc, cc)

enters_same : (s t : Status) → enters s ≡ enters t → s ≡ t
enters_same s t e = cc

-- where a state has a mark of its own
holds_own : (mark : Mark) (last : LastMark) (stop : ℕ) (context : Option (ℕ × ℕ)) → IsOwn last (Some mark) → Holds last (marked (Some mark) stop context) stop
holds_own mark Unseen stop context own = tt
holds_own mark Varies stop context own = tt
holds_own mark Never stop context own = absurd (cc)
holds_own mark (Back leaf bytes) stop context own = go mark.late own.1
  where
    go : (l : Bool) → bytes ≡ (if l then 1 else 0) → Path (Option (ℕ × ℕ)) (Some (mark.leaf, if l then stop - 1 else stop)) (Some (leaf.0, stop - bytes))
    go true e = some_pair mark.leaf leaf.0 (stop - 1) (stop - bytes) (sym own.0) (omega (arith, e))
    go false e = some_pair mark.leaf leaf.0 stop (stop - bytes) (sym own.0) (omega (arith, e))

-- where it has none
holds_next : (code : CodeValue) (last from : LastMark) (loop : Option ℕ) (bytes : List ℕ) (passed : Option (ℕ × ℕ)) (stop : ℕ) → Follows last from loop → Holds from passed stop →
    Holds last passed (stop + 1 + looped code loop (drop (stop + 1) bytes))
holds_next code Unseen from loop bytes passed stop f h = tt
holds_next code Varies from loop bytes passed stop f h = tt
holds_next code Never from loop bytes passed stop f h = subst (λ (m : LastMark). Holds m passed stop) f h
holds_next code (Back leaf n) Unseen loop bytes passed stop f h = absurd f.1
holds_next code (Back leaf n) Varies loop bytes passed stop f h = absurd f.1
holds_next code (Back leaf n) Never loop bytes passed stop f h = absurd f.1
holds_next code (Back leaf n) (Back last before) loop bytes passed stop f h =
    let none : looped code loop (drop (stop + 1) bytes) ≡ 0 = rw f.0 refl in
    h ∙ some_pair last.0 leaf.0 (stop - before) (stop + 1 + looped code loop (drop (stop + 1) bytes) - n) f.1.0 (omega (arith, none, f.1.1))

-- a state with a late mark has a mark
late_mark : (code : CodeValue) (t : ℕ) → IsLate code t → (state_at code t).mark ≡ None → ⊥
late_mark code t late none = go (slice_get code.states t) refl late
  where
    go : (o : Option CodeState) → slice_get code.states t ≡ o → IsSomeAnd o (λ state. IsSomeAnd state.mark (λ mark. IsTrue mark.late)) → ⊥
    go None e h = h
    go (Some state) e h =
        let same : state_at code t ≡ state = get_or_from_slice_get code.states t state no_state e in
        let n : state.mark ≡ None = ap (λ (s : CodeState). s.mark) (sym same) ∙ none in
        rw n at h

-- the root has none
root_mark : (code : CodeValue) → IsSound code → (state_at code code.root).mark ≡ None
root_mark code sound = go (slice_get code.states code.root) refl sound.root
  where
    go : (o : Option CodeState) → slice_get code.states code.root ≡ o → IsSomeAnd o (IsRoot code) → (state_at code code.root).mark ≡ None
    go None e h = absurd h
    go (Some state) e h =
        let same : state_at code code.root ≡ state = get_or_from_slice_get code.states code.root state no_state e in
        ap (λ (s : CodeState). s.mark) same ∙ h.mark

module _ (code : CodeValue) (sound : IsSound code) (marks : List LastMark) (agree : Agree code marks) (bytes : List ℕ) (start : ℕ) where
  -- the end of the fast loop of a status's state
  abbrev stop_of : Status → ℕ
  stop_of at = at.offset + looped code (state_at code at.state).fast_loop (drop at.offset bytes)

  abbrev passed_of : Status → Option (ℕ × ℕ)
  passed_of at = marked (state_at code at.state).mark (stop_of at) at.context

  record Knows (at : Status) : Type 0 where
    pub there : at.state < length code.states
    pub holds : Holds (last_mark_at marks at.state) (passed_of at) (stop_of at)

  abbrev first : Status
  first = record { state = code.root; offset = start; context = None }

  knows_first : Knows first
  knows_first = record { there = root_there code sound; holds = unmarked (last_mark_at marks code.root) agree.root }
    where
      passed : passed_of first ≡ None
      passed = ap (λ (m : Option Mark). marked m (stop_of first) None) (root_mark code sound)

      unmarked : (m : LastMark) → BeginsUnmarked m → Holds m (passed_of first) (stop_of first)
      unmarked Unseen b = tt
      unmarked Varies b = tt
      unmarked Never b = passed
      unmarked (Back leaf n) b = absurd b

  module _ (at : Status) (k : Knows at) where
    abbrev state : CodeState
    state = state_at code at.state

    got : slice_get code.states at.state ≡ Some state
    got = slice_get-get_or code.states at.state no_state k.there

    names : NamesExisting code state
    names = All-slice_get (NamesExisting code) code.states at.state state sound.states got

    -- the turn of the state
    turns : (what : Turn) → Does code bytes start at what → turn code bytes start state at ≡ what
    turns what d =
        let same : state ≡ d.0 = get_or_from_slice_get code.states at.state d.0 no_state d.1 in
        subst (λ (s : CodeState). turn code bytes start s at ≡ what) (sym same) d.2

    abbrev fresh : Bool
    fresh = at.state == code.root && stop_of at == start

    -- the status after a byte, or after the end
    abbrev after : ℕ → Status
    after t = record { state = t; offset = stop_of at + 1; context = passed_of at }

    knows_after : (t : ℕ) → t < length code.states → FollowsAt code marks (last_mark_at marks at.state) t → Knows (after t)
    knows_after t there follows = record { there = there; holds = by_mark (state_at code t).mark refl }
      where
        by_mark : (m : Option Mark) → (state_at code t).mark ≡ m → Holds (last_mark_at marks t) (marked m (stop_of (after t)) (passed_of at)) (stop_of (after t))
        by_mark None e = holds_next code (last_mark_at marks t) (last_mark_at marks at.state) (state_at code t).fast_loop bytes (passed_of at) (stop_of at) (follows e) k.holds
        by_mark (Some mark) e =
            let s = agree.each t there in
            let own : IsOwn (last_mark_at marks t) (Some mark) = rw e at s.own in
            holds_own mark (last_mark_at marks t) (stop_of (after t)) (passed_of at) own

    module _ (next : Status) where
      entered : (t : ℕ) → t < length code.states → FollowsAt code marks (last_mark_at marks at.state) t → enters (after t) ≡ enters next → Knows next
      entered t there follows e =
          let same : Path Status (after t) next = enters_same (after t) next e in
          subst (λ (n : Status). Knows n) same (knows_after t there follows)

      by_byte : (b : ℕ) (o : Option ℕ) → target code state.fork b ≡ o → led o (stop_of at) (passed_of at) ≡ enters next → Knows next
      by_byte b None leads e = absurd (cc)
      by_byte b (Some t) leads e =
          let s = agree.each at.state k.there in
          entered t (target_there code state.fork b t names.fork leads) (s.edges b t leads) e

      at_end : (o : Option ℕ) → state.at_end ≡ o → led o (stop_of at) (passed_of at) ≡ enters next → Knows next
      at_end None leads e = absurd (cc)
      at_end (Some t) leads e =
          let all : IsEnd code state.at_end = All-slice_get (λ (s : CodeState). IsEnd code s.at_end) code.states at.state state sound.ends got in
          let ends : IsEnd code (Some t) = rw leads at all in
          let named : IfSome state.at_end (λ s. s < length code.states) = names.at_end in
          let there : t < length code.states = rw leads at named in
          entered t there (λ none. absurd (late_mark code t ends.0 none)) e

      by_end : (f : Bool) → (if f then returns else led state.at_end (stop_of at) (passed_of at)) ≡ enters next → Knows next
      by_end true e = absurd (cc)
      by_end false e = at_end state.at_end refl e

      knows_next : Does code bytes start at (enters next) → Knows next
      knows_next d = go (slice_get bytes (stop_of at)) (turns (enters next) d)
        where
          go : (o : Option ℕ) → forked code state o fresh (stop_of at) (passed_of at) ≡ enters next → Knows next
          go (Some b) e = by_byte b (target code state.fork b) refl e
          go None e = by_end fresh e

    -- the mark that a match attempt passed that ends here
    module _ (passed : Option (ℕ × ℕ)) (offset : ℕ) where
      acted : acts (passed_of at) (stop_of at) ≡ acts passed offset → Holds (last_mark_at marks at.state) passed offset
      acted e =
          let same = acts_same (passed_of at) passed (stop_of at) offset e in
          subst (λ (p : Option (ℕ × ℕ)). Holds (last_mark_at marks at.state) p offset) same.0
          (subst (λ (o : ℕ). Holds (last_mark_at marks at.state) (passed_of at) o) same.1 k.holds)

      by_lead : (o : Option ℕ) → led o (stop_of at) (passed_of at) ≡ acts passed offset → Holds (last_mark_at marks at.state) passed offset
      by_lead None e = acted e
      by_lead (Some t) e = absurd (cc)

      by_over : (f : Bool) → (if f then returns else led state.at_end (stop_of at) (passed_of at)) ≡ acts passed offset → Holds (last_mark_at marks at.state) passed offset
      by_over true e = absurd (cc)
      by_over false e = by_lead state.at_end e

      holds_there : Does code bytes start at (acts passed offset) → Holds (last_mark_at marks at.state) passed offset
      holds_there d = go (slice_get bytes (stop_of at)) (turns (acts passed offset) d)
        where
          go : (o : Option ℕ) → forked code state o fresh (stop_of at) (passed_of at) ≡ acts passed offset → Holds (last_mark_at marks at.state) passed offset
          go (Some b) e = by_lead (target code state.fork b) e
          go None e = by_over fresh e

  knows : {at : Status} → IsOfAttempt code bytes start at → Knows at
  knows first_status = knows_first
  knows (next_status at next s d) = knows_next at (knows s) next d

-- last marks that agree are right
pub are_last_marks : (code : CodeValue) → IsSound code → (marks : List LastMark) → Agree code marks → AreLastMarks code marks
are_last_marks code sound marks agree s bytes start at passed offset are of_attempt e d =
    subst (λ (n : ℕ). Holds (last_mark_at marks n) passed offset) e
    (holds_there code sound marks agree bytes start at (knows code sound marks agree bytes start of_attempt) passed offset d)

-- none are right
pub no_last_marks : (code : CodeValue) → AreLastMarks code []
no_last_marks code s bytes start at passed offset are of_attempt e d =
    let none : last_mark_at [] s ≡ Unseen = get_or-eq_default [] Unseen {n = s} (omega arith) in
    subst (λ (m : LastMark). Holds m passed offset) (sym none) tt

-- a property of each element so far, and of one more
pub one_more : {A : Type 0} (P : A → Type 0) (xs : List A) (i : ℕ) (x : A) → i < length xs → x ≡ get_or xs i x → P x → ((j : ℕ) (d : A) → j < i → P (get_or xs j d)) →
    (j : ℕ) (d : A) → j < i + 1 → P (get_or xs j d)
one_more P xs i x h is holds before j d l = ⊎_elim (before j d) now (either j i l)
  where
    either : (a b : ℕ) → a < b + 1 → (a < b) ⊎ (b ≡ a)
    either a b h = grind arith

    got : slice_get xs i ≡ Some x
    got = slice_get-get_or xs i x h ∙ ap Some (sym is)

    here : P (get_or xs i d)
    here = subst P (sym (get_or_from_slice_get xs i x d got)) holds

    now : i ≡ j → P (get_or xs j d)
    now e = subst (λ (n : ℕ). P (get_or xs n d)) e here

-- where branches lead, a property of all of their targets holds
pub branches_follow : (code : CodeValue) (marks : List LastMark) (from : LastMark) (edges : List (Condition × ℕ)) → All (λ edge. FollowsAt code marks from edge.1) edges →
    ForkAgrees code marks from (by_conditions edges)
branches_follow code marks from edges all b t leads =
    go (find (λ edge. passes code edge.0 b) edges) leads (All-find (λ edge. FollowsAt code marks from edge.1) (λ edge. passes code edge.0 b) edges all)
  where
    go : (o : Option (Condition × ℕ)) → option_map (λ edge. edge.1) o ≡ Some t → IfSome o (λ edge. FollowsAt code marks from edge.1) → FollowsAt code marks from t
    go None e n = absurd (cc)
    go (Some edge) e n = let f : edge.1 ≡ t = cc in subst (FollowsAt code marks from) f n

-- and so where a jump table leads
pub table_follows : (code : CodeValue) (marks : List LastMark) (from : LastMark) (table : List ℕ) →
    ((k : ℕ) → k < length table → IfSome (entry_of (slice_index table k)) (FollowsAt code marks from)) → ForkAgrees code marks from (by_table (jumps_of table))
table_follows code marks from table all b t leads = ⊎_elim inside outside (either b (length table))
  where
    either : (a b : ℕ) → (a < b) ⊎ (b ≤ a)
    either a b = grind arith

    inside : b < length table → FollowsAt code marks from t
    inside h =
        let e : entry_of (slice_index table b) ≡ Some t = sym (get_or-map entry_of table b 0 None h) ∙ leads in
        rw e at (all b h)

    outside : length table ≤ b → FollowsAt code marks from t
    outside h =
        let e : None ≡ Some t = sym (get_or-eq_default (jumps_of table) None (rw length-map h)) ∙ leads in
        absurd (cc)

-- a state agrees by its mark and its fork
pub state_agreed : (parts : CodeParts) (marks : List LastMark) (from : LastMark) (s : ℕ) (state : TheState) → s < length parts.states.items →
    state ≡ get_or parts.states.items s state → from ≡ last_mark_at marks s → IsOwn from (option_map mark_of state.mark) →
    ForkAgrees (code_of parts) marks from (fork_of parts.jump_tables.items state.fork) → StateAgrees (code_of parts) marks s
state_agreed parts marks from s state h is same own edges =
    let here : state_at (code_of parts) s ≡ state_of parts.jump_tables.items state = state_there parts s state h is in
    record {
      own = subst (λ (m : LastMark). IsOwn m (state_at (code_of parts) s).mark) same (subst (λ (t : CodeState). IsOwn from t.mark) (sym here) own);
      edges = subst (λ (m : LastMark). ForkAgrees (code_of parts) marks m (state_at (code_of parts) s).fork) same
          (subst (λ (t : CodeState). ForkAgrees (code_of parts) marks from t.fork) (sym here) edges);
    }
