-- The turn of a state, by the step of its entry.
use Rattle.std.proofs.Common.{◌≡◌, ◌≢◌, ℕ, ◌+◌, ◌-◌, ◌<◌, ◌≤◌, Bool, true, false, ◌&&◌, ◌==◌, List, length, drop, get_or, Option, Some, None, slice_get, refl, sym, ap, subst, ◌∙◌, arith}
use Rattle.std.proofs.lemmas.Bool.{ne_eqb}
use Rattle.std.proofs.lemmas.List.Folds.{length-prefix_len}
use Rattle.std.proofs.lemmas.List.Sums.{prefix_len-drop_yes, prefix_len-drop_no}
use Rattle.std.proofs.lemmas.Option.{slice_get-get_or}
use Rattle.logos_code.specs.Bytes.{passes_test}
use Rattle.logos_code.specs.Code.{CodeValue, Mark}
use Rattle.logos_code.specs.CodeView.{state_at, no_state}
use Rattle.logos_code.specs.Headline.{IsSound}
use Rattle.logos_code.specs.Rows.{closing, Describes, DescribesEnd, IsEntry, IsStepOf}
use Rattle.logos_code.specs.Runs.{acts, looped, stays, marked, turn, Does}
use Rattle.logos_machine.specs.inside.Looks.{Sees}
use Rattle.logos_code.specs.declared.code.rows.Step.{Step}
use Rattle.logos_code.specs.declared.code.rows.Step.TheVariants.{Leads, Stays, Halts, Looks, Closes, Stuck, Undescribed}
use Rattle.logos_machine.proofs.StatusLemmas.{unmarked_root}

and_false : (b : Bool) → (b && false) ≡ false
and_false true = refl
and_false false = refl

-- a byte that does not stay ends the fast loop at once
pub loops_no : (code : CodeValue) (loop : Option ℕ) (bytes : List ℕ) (at : ℕ) → at < length bytes → stays code loop (get_or bytes at 0) ≡ false → looped code loop (drop at bytes) ≡ 0
loops_no code None bytes at h out = refl
loops_no code (Some k) bytes at h out =
    length-prefix_len (passes_test code.bit_tables k) (drop at bytes) ∙ prefix_len-drop_no (passes_test code.bit_tables k) bytes at 0 h out

-- one that stays is the first of its bytes
pub loops_on : (code : CodeValue) (test : ℕ) (bytes : List ℕ) (at : ℕ) → at < length bytes → stays code (Some test) (get_or bytes at 0) ≡ true →
    looped code (Some test) (drop at bytes) ≡ 1 + looped code (Some test) (drop (at + 1) bytes)
loops_on code test bytes at h on =
    let p = passes_test code.bit_tables test in
    length-prefix_len p (drop at bytes) ∙ prefix_len-drop_yes p bytes at 0 h on ∙ ap (λ n. 1 + n) (sym (length-prefix_len p (drop (at + 1) bytes)))

module _ (code : CodeValue) (bytes : List ℕ) (start : ℕ) (s : ℕ) (there : s < length code.states) (offset stop : ℕ) where
  got : slice_get code.states s ≡ Some (state_at code s)
  got = slice_get-get_or code.states s no_state there

  -- a closing state acts at once
  closes : (t at : ℕ) (mark : Mark) (passed : Option (ℕ × ℕ)) → slice_get code.states t ≡ Some (closing mark) → start < at →
      Does code bytes start (record { state = t; offset = at; context = passed }) (acts (marked (Some mark) at passed) at)
  closes t at mark passed is h = (closing mark, is, turns (slice_get bytes (at + 0)) refl)
    where
      none : at + 0 ≡ at
      none = omega arith

      stale : (t == code.root && (at == start)) ≡ false
      stale = let e : (at == start) ≡ false = ne_eqb at start (λ g. omega (arith, g, h)) in rw e (and_false (t == code.root))

      turns : (o : Option ℕ) → slice_get bytes (at + 0) ≡ o → turn code bytes start (closing mark) (record { state = t; offset = at; context = passed }) ≡ acts (marked (Some mark) at passed) at
      turns None e = rw (e, none, stale) refl
      turns (Some b) e = rw (e, none) refl

  -- the step at a byte where the fast loop ends
  pub sees_byte : (b : ℕ) (step : Step) → start ≤ offset → stop ≡ offset + looped code (state_at code s).fast_loop (drop offset bytes) → slice_get bytes stop ≡ Some b →
      Describes code (state_at code s) b step → Sees code bytes start s offset stop step
  sees_byte b (Leads next) h is at describes = λ context. (marked (state_at code s).mark stop context, (state_at code s, got, rw (← is, at, describes.1) refl))
  sees_byte b (Stays test) h is at describes = tt
  sees_byte b (Looks leaf used) h is at describes = (
    λ context.
        let passed = marked (state_at code s).mark stop context in
        let before : stop + 1 - 1 ≡ stop = omega arith in
        let does : Does code bytes start (record { state = describes.1.next; offset = stop + 1; context = passed }) (acts (Some (leaf.0, stop + 1 - 1)) (stop + 1)) =
        closes describes.1.next (stop + 1) (record { leaf = leaf.0; late = true }) passed describes.1.closes (omega (arith, h, is)) in (
          describes.1.next,
          passed,
          (state_at code s, got, rw (← is, at, describes.1.leads) refl),
          subst (λ end. Does code bytes start (record { state = describes.1.next; offset = stop + 1; context = passed }) (acts (Some (leaf.0, end)) (stop + 1))) before does,
        ),
    describes.2,
  )
  sees_byte b (Closes leaf used) h is at describes = (
    λ context. (
      describes.1.next,
      marked (state_at code s).mark stop context,
      (state_at code s, got, rw (← is, at, describes.1.leads) refl),
      closes describes.1.next (stop + 1) (record { leaf = leaf.0; late = false }) _ describes.1.closes (omega (arith, h, is)),
    ),
    describes.2,
  )
  sees_byte b (Halts leaf used) h is at describes = (λ context. (state_at code s, got, rw (← is, at, describes.1, describes.2) refl), describes.3)
  sees_byte b Stuck h is at describes = λ inside context. (marked (state_at code s).mark stop context, (state_at code s, got, rw (← is, at, describes.1) refl))
  sees_byte b Undescribed h is at describes = tt

  -- the step at the end of the input
  pub sees_end : IsSound code → (step : Step) → stop ≡ offset + looped code (state_at code s).fast_loop (drop offset bytes) → slice_get bytes stop ≡ None →
      DescribesEnd code (state_at code s) step → Sees code bytes start s offset stop step
  sees_end sound (Leads next) is at describes = absurd describes
  sees_end sound (Stays test) is at describes = absurd describes
  sees_end sound (Looks leaf used) is at describes = absurd describes
  sees_end sound (Closes leaf used) is at describes = absurd describes
  sees_end sound (Halts leaf used) is at describes = (λ context. (state_at code s, got, rw (← is, at, stale, describes.0, describes.1) refl), describes.2)
    where
      other : s ≢ code.root
      other e = unmarked_root code sound bytes s (state_at code s) e got describes.1

      stale : (s == code.root && (stop == start)) ≡ false
      stale = let e : (s == code.root) ≡ false = ne_eqb s code.root other in rw e refl
  sees_end sound Stuck is at describes = λ inside. absurd (let e : None ≡ Some (get_or bytes stop 0) = sym at ∙ slice_get-get_or bytes stop 0 inside in cc)
  sees_end sound Undescribed is at describes = tt

-- the meaning of the entry of a byte on which the state changes: no bytes are looped over
pub sees_entry : (code : CodeValue) (bytes : List ℕ) (start s : ℕ) → s < length code.states → (at entry : ℕ) → start ≤ at → at < length bytes →
    IsEntry code (state_at code s) (get_or bytes at 0) entry → (step : Step) → IsStepOf entry step → Sees code bytes start s at at step
sees_entry code bytes start s there at entry h within is step f = go step (is.describes step f)
  where
    by_step : (step : Step) → stays code (state_at code s).fast_loop (get_or bytes at 0) ≡ false → Describes code (state_at code s) (get_or bytes at 0) step → Sees code bytes start s at at step
    by_step step out stated =
        let none = loops_no code (state_at code s).fast_loop bytes at within out in
        sees_byte code bytes start s there at at (get_or bytes at 0) step h (omega (arith, none)) (slice_get-get_or bytes at 0 within) stated

    go : (step : Step) → Describes code (state_at code s) (get_or bytes at 0) step → Sees code bytes start s at at step
    go (Leads next) stated = by_step (Leads next) stated.0 stated
    go (Stays test) stated = tt
    go (Looks leaf used) stated = by_step (Looks leaf used) stated.0 stated
    go (Closes leaf used) stated = by_step (Closes leaf used) stated.0 stated
    go Stuck stated = by_step Stuck stated.0 stated
    go (Halts leaf used) stated = by_step (Halts leaf used) stated.0 stated
    go Undescribed stated = tt
