-- Rows, and the turn of a state by its row.
use Rattle.std.proofs.Common.{◌≡◌, ℕ, zero, suc, ◌+◌, ◌*◌, ◌-◌, ◌/◌, ◌%◌, ◌<◌, ◌≤◌, ◌⊎◌, inl, inr, ⊎_elim, ◌++◌, true, false, IfSome, List, length, take, drop, get_or, slice_index, slice_get, Option, Some, None, refl, sym, ap, subst, ◌∙◌, arith, length-drop, Fits, w8}
use Rattle.std.proofs.Math.Facts.{Fits-lt-pow}
use Rattle.std.proofs.lemmas.List.{length-map, get_or-map, get_or-drop, get_or_append_left, get_or-append-add, take_all}
use Rattle.std.proofs.lemmas.List.Folds.{length-prefix_len}
use Rattle.std.proofs.lemmas.List.Sums.{prefix_len_stops}
use Rattle.std.proofs.lemmas.Option.{get_or_from_slice_get, slice_get-get_or}
use Rattle.std.proofs.lemmas.Grind.{get_or_default_zero}
use Rattle.std.specs.List.{prefix_len}
use Rattle.logos_hir.specs.Text.{IsBytes}
use Rattle.logos_code.specs.Bytes.{passes_test}
use Rattle.logos_code.specs.Code.{CodeValue, CodeState, Fork}
use Rattle.logos_code.specs.Headline.{NamesFork, NamesState}
use Rattle.logos_code.specs.CodeView.{state_at, state_of, code_of, no_state}
use Rattle.logos_code.specs.Runs.{stays, looped, target}
use Rattle.logos_code.specs.inside.Alike.{EndsRun}
use Rattle.logos_code.specs.Rows.{IsStepOf, Describes, DescribesEnd, IsHalting, IsEntry, IsLastEntry, IsRow, AreRows, IsFirstOf, IsFirstRow, LeadsToRowStart}
use Rattle.logos_code.proofs.TargetLemmas.{target_there}
use Rattle.logos_code.specs.declared.code.rows.MatchUse.{MatchUse}
use Rattle.logos_code.specs.declared.code.rows.MatchUse.TheVariants.{Emits, Skips, CallsBack}
use Rattle.logos_code.specs.declared.code.rows.Step.{Step}
use Rattle.logos_code.specs.declared.code.rows.Step.TheVariants.{Leads, Stays, Halts, Looks, Closes, Stuck, Undescribed}
use Rattle.logos_code.specs.declared.code.CodeParts.{CodeParts}
use Rattle.logos_code.specs.declared.code.CodeState.{CodeState as TheState}

-- a state of the parts, as the code has it
pub state_there : (parts : CodeParts) (s : ℕ) (state : TheState) → s < length parts.states.items → state ≡ get_or parts.states.items s state →
    state_at (code_of parts) s ≡ state_of parts.jump_tables.items state
state_there parts s state h is =
    get_or-map (state_of parts.jump_tables.items) parts.states.items s state no_state h ∙ ap (state_of parts.jump_tables.items) (sym is)

-- one more row
pub rows_turn : (parts : CodeParts) (rows new row : List ℕ) (s : ℕ) (state : TheState) → length rows ≡ 272 * s → new ≡ rows ++ row →
    s < length parts.states.items → state ≡ get_or parts.states.items s state → IsRow (code_of parts) (state_of parts.jump_tables.items state) row →
    ((k b : ℕ) → k < s → b < 256 → IsEntry (code_of parts) (state_at (code_of parts) k) b (slice_index rows (272 * k + b))) →
    (k b : ℕ) → k < s + 1 → b < 256 → IsEntry (code_of parts) (state_at (code_of parts) k) b (slice_index new (272 * k + b))
rows_turn parts rows new row s state long is there here last before k b h within = ⊎_elim old now (either k s h)
  where
    either : (a b : ℕ) → a < b + 1 → (a < b) ⊎ (b ≡ a)
    either a b h = grind arith

    old : k < s → IsEntry (code_of parts) (state_at (code_of parts) k) b (slice_index new (272 * k + b))
    old l = rw (is, get_or_append_left rows row 0 (272 * k + b) (omega (arith, l, long, within))) (before k b l within)

    added : slice_index new (272 * s + b) ≡ slice_index row b
    added = rw (is, ← long) (get_or-append-add rows row b 0)

    now : s ≡ k → IsEntry (code_of parts) (state_at (code_of parts) k) b (slice_index new (272 * k + b))
    now e = subst (λ n. IsEntry (code_of parts) (state_at (code_of parts) n) b (slice_index new (272 * n + b))) e
        (rw (state_there parts s state there here, added) (last b within))

-- the bytes of an input are bytes
pub are_bytes : (bytes : List ℕ) → ((i : ℕ) → Fits w8 (get_or bytes i 0)) → IsBytes bytes
are_bytes bytes h = λ k d l. rw (get_or_default_zero bytes k d l) (Fits-lt-pow (h k))

-- an entry as it is read
pub read_entry : (code : CodeValue) (rows : List ℕ) (s b entry : ℕ) → AreRows code rows → s < length code.states → b < 256 → entry ≡ get_or rows (272 * s + b) entry →
    IsEntry code (state_at code s) b entry
read_entry code rows s b entry all there within is =
    let count = all.count in
    let got : slice_get rows (272 * s + b) ≡ Some entry = slice_get-get_or rows (272 * s + b) entry (omega (arith, count, there, within)) ∙ ap Some (sym is) in
    let same : slice_index rows (272 * s + b) ≡ entry = get_or_from_slice_get rows (272 * s + b) entry 0 got in
    rw same at (all.each s b there within)

-- an entry that is read from the rest of the rows after this number of rows
pub read_column : (code : CodeValue) (rows : List ℕ) (row_start b : ℕ) → AreRows code rows → 272 * (row_start / 272) ≡ row_start → row_start / 272 < length code.states → b < 256 →
    IsEntry code (state_at code (row_start / 272)) b (get_or (take (length rows - b) (drop b rows)) row_start 0)
read_column code rows row_start b all is there within =
    let rest : take (length rows - b) (drop b rows) ≡ drop b rows = take_all (length rows - b) (drop b rows) (omega (arith, length-drop b rows)) in
    let index : 272 * (row_start / 272) + b ≡ b + row_start = omega (arith, is) in
    let read : get_or (take (length rows - b) (drop b rows)) row_start 0 ≡ get_or rows (272 * (row_start / 272) + b) 0 =
    ap (λ (l : List ℕ). get_or l row_start 0) rest ∙ get_or-drop b rows row_start 0 ∙ ap (λ (n : ℕ). get_or rows n 0) (sym index) in
    subst (λ (entry : ℕ). IsEntry code (state_at code (row_start / 272)) b entry) (sym read) (all.each (row_start / 272) b there within)

-- the byte after the fast loop does not stay
pub loop_stops : (code : CodeValue) (loop : Option ℕ) (bytes : List ℕ) (at d : ℕ) → at + looped code loop (drop at bytes) < length bytes →
    stays code loop (get_or bytes (at + looped code loop (drop at bytes)) d) ≡ false
loop_stops code None bytes at d h = refl
loop_stops code (Some k) bytes at d h =
    let p = passes_test code.bit_tables k in
    let n = length-prefix_len p (drop at bytes) in
    let stop = prefix_len_stops p (drop at bytes) d (omega (arith, h, n, length-drop at bytes)) in
    ap (λ m. p (get_or bytes (at + m) d)) n ∙ rw (get_or-drop at bytes (prefix_len p (drop at bytes)) d) at stop

-- a target of a fork is there
pub target_named : (code : CodeValue) (fork : Fork) (b : ℕ) (found : Option ℕ) → NamesFork code fork → found ≡ target code fork b → IfSome found (NamesState code)
target_named code fork b None names is = tt
target_named code fork b (Some t) names is = target_there code fork b t names (sym is)

true_false : true ≡ false → ⊥
true_false e = cc

-- a state of the parts, as it is got
pub state_got : (parts : CodeParts) (s : ℕ) (state : TheState) → s < length parts.states.items → state ≡ get_or parts.states.items s state →
    slice_get (code_of parts).states s ≡ Some (state_of parts.jump_tables.items state)
state_got parts s state h is =
    slice_get-get_or (code_of parts).states s no_state (rw length-map h) ∙ ap Some (state_there parts s state h is)

-- the step of a match that ends before the byte
abbrev before_byte : (used : MatchUse) (late leaf : ℕ) → Step
before_byte used zero n = Halts (record { 0 = n }) used
before_byte used (suc k) n = Looks (record { 0 = n }) used

-- the step that an entry of this kind represents
abbrev decoded : (kind named : ℕ) → Step
decoded zero n = Leads (n / 272)
decoded (suc zero) n = Stays n
decoded (suc (suc zero)) n = before_byte Skips (n / 134217728) (n % 134217728)
decoded (suc (suc (suc zero))) n = before_byte Emits (n / 134217728) (n % 134217728)
decoded (suc (suc (suc (suc zero)))) n = Closes (record { 0 = n }) Emits
decoded (suc (suc (suc (suc (suc zero))))) n = Closes (record { 0 = n }) Skips
decoded (suc (suc (suc (suc (suc (suc zero)))))) n = before_byte CallsBack (n / 134217728) (n % 134217728)
decoded (suc (suc (suc (suc (suc (suc (suc zero))))))) n = Closes (record { 0 = n }) CallsBack
decoded (suc (suc (suc (suc (suc (suc (suc (suc zero)))))))) n = Stuck
decoded (suc (suc (suc (suc (suc (suc (suc (suc (suc k))))))))) n = Undescribed

decodes : (entry : ℕ) (step : Step) → IsStepOf entry step → step ≡ decoded (entry / 268435456) (entry % 268435456)
decodes entry (Leads s) f = let k : entry / 268435456 ≡ 0 = omega (arith, f.0, f.1) in let n : entry % 268435456 / 272 ≡ s = omega (arith, f.0, f.1) in rw (k, n) refl
decodes entry (Stays s) f = let k : entry / 268435456 ≡ 1 = omega (arith, f.0, f.1) in let n : entry % 268435456 ≡ s = omega (arith, f.0, f.1) in rw (k, n) refl
decodes entry (Halts s Skips) f =
    let k : entry / 268435456 ≡ 2 = omega (arith, f.0, f.1) in
    let l : entry % 268435456 / 134217728 ≡ 0 = omega (arith, f.0, f.1) in
    let n : entry % 268435456 % 134217728 ≡ s.0 = omega (arith, f.0, f.1) in
    rw (k, l, n) refl
decodes entry (Looks s Skips) f =
    let k : entry / 268435456 ≡ 2 = omega (arith, f.0, f.1) in
    let l : entry % 268435456 / 134217728 ≡ 1 = omega (arith, f.0, f.1) in
    let n : entry % 268435456 % 134217728 ≡ s.0 = omega (arith, f.0, f.1) in
    rw (k, l, n) refl
decodes entry (Halts s Emits) f =
    let k : entry / 268435456 ≡ 3 = omega (arith, f.0, f.1) in
    let l : entry % 268435456 / 134217728 ≡ 0 = omega (arith, f.0, f.1) in
    let n : entry % 268435456 % 134217728 ≡ s.0 = omega (arith, f.0, f.1) in
    rw (k, l, n) refl
decodes entry (Looks s Emits) f =
    let k : entry / 268435456 ≡ 3 = omega (arith, f.0, f.1) in
    let l : entry % 268435456 / 134217728 ≡ 1 = omega (arith, f.0, f.1) in
    let n : entry % 268435456 % 134217728 ≡ s.0 = omega (arith, f.0, f.1) in
    rw (k, l, n) refl
decodes entry (Closes s Emits) f = let k : entry / 268435456 ≡ 4 = omega (arith, f.0, f.1) in let n : entry % 268435456 ≡ s.0 = omega (arith, f.0, f.1) in rw (k, n) refl
decodes entry (Closes s Skips) f = let k : entry / 268435456 ≡ 5 = omega (arith, f.0, f.1) in let n : entry % 268435456 ≡ s.0 = omega (arith, f.0, f.1) in rw (k, n) refl
decodes entry (Halts s CallsBack) f =
    let k : entry / 268435456 ≡ 6 = omega (arith, f.0, f.1) in
    let l : entry % 268435456 / 134217728 ≡ 0 = omega (arith, f.0, f.1) in
    let n : entry % 268435456 % 134217728 ≡ s.0 = omega (arith, f.0, f.1) in
    rw (k, l, n) refl
decodes entry (Looks s CallsBack) f =
    let k : entry / 268435456 ≡ 6 = omega (arith, f.0, f.1) in
    let l : entry % 268435456 / 134217728 ≡ 1 = omega (arith, f.0, f.1) in
    let n : entry % 268435456 % 134217728 ≡ s.0 = omega (arith, f.0, f.1) in
    rw (k, l, n) refl
decodes entry (Closes s CallsBack) f = let k : entry / 268435456 ≡ 7 = omega (arith, f.0, f.1) in let n : entry % 268435456 ≡ s.0 = omega (arith, f.0, f.1) in rw (k, n) refl
decodes entry Stuck f = let k : entry / 268435456 ≡ 8 = omega (arith, f.0, f.1) in rw k refl
decodes entry Undescribed f = past (entry / 268435456) (omega (arith, f))
  where
    past : (k : ℕ) → 9 ≤ k → Undescribed ≡ decoded k (entry % 268435456)
    past k h =
        let e : k ≡ suc (suc (suc (suc (suc (suc (suc (suc (suc (k - 9))))))))) = omega (arith, h) in
        subst (λ j. Undescribed ≡ decoded j (entry % 268435456)) (sym e) refl

-- an entry represents one step
pub same_step : (entry : ℕ) (a b : Step) → IsStepOf entry a → IsStepOf entry b → b ≡ a
same_step entry a b f g = decodes entry b g ∙ sym (decodes entry a f)

-- a property of one step that an entry represents holds of each; the entry may represent none
only_step : (P : Step → Type 0) (entry : ℕ) (step : Step) → (IsStepOf entry step ⊎ IsStepOf entry Undescribed) → P step → P Undescribed → (other : Step) → IsStepOf entry other → P other
only_step P entry step (inl f) described none other g = subst P (sym (same_step entry step other f g)) described
only_step P entry step (inr f) described none other g = subst P (sym (same_step entry Undescribed other f g)) none

-- an entry that leads is a row offset
step_row_start : (entry : ℕ) (step : Step) → IsStepOf entry step → LeadsToRowStart entry
step_row_start entry (Leads s) f h = omega (arith, f.0)
step_row_start entry (Stays s) f h = absurd (omega (arith, f.0, h))
step_row_start entry (Halts s Emits) f h = absurd (omega (arith, f.0, h))
step_row_start entry (Halts s Skips) f h = absurd (omega (arith, f.0, h))
step_row_start entry (Halts s CallsBack) f h = absurd (omega (arith, f.0, h))
step_row_start entry (Looks s Emits) f h = absurd (omega (arith, f.0, h))
step_row_start entry (Looks s Skips) f h = absurd (omega (arith, f.0, h))
step_row_start entry (Looks s CallsBack) f h = absurd (omega (arith, f.0, h))
step_row_start entry (Closes s Emits) f h = absurd (omega (arith, f.0, h))
step_row_start entry (Closes s Skips) f h = absurd (omega (arith, f.0, h))
step_row_start entry (Closes s CallsBack) f h = absurd (omega (arith, f.0, h))
step_row_start entry Stuck f h = absurd (omega (arith, f.0, h))
step_row_start entry Undescribed f h = absurd (omega (arith, f, h))

module _ (code : CodeValue) (state : CodeState) where
  -- the entry of a step
  pub entry_describes : (b entry : ℕ) (step : Step) → (IsStepOf entry step ⊎ IsStepOf entry Undescribed) → Describes code state b step → IsEntry code state b entry
  entry_describes b entry step is described = record {
    describes = only_step (Describes code state b) entry step is described tt;
    row_start = ⊎_elim (step_row_start entry step) (step_row_start entry Undescribed) is;
  }

  -- the entry of a byte is that of one which does the same
  same_entry : (b k entry : ℕ) → stays code state.fast_loop k ≡ stays code state.fast_loop b → target code state.fork k ≡ target code state.fork b → IsEntry code state b entry →
      IsEntry code state k entry
  same_entry b k entry loop leads is = record { describes = λ step h. describes step (is.describes step h); row_start = is.row_start }
    where
      describes : (step : Step) → Describes code state b step → Describes code state k step
      describes (Leads next) h = (loop ∙ h.0, leads ∙ h.1)
      describes (Stays test) h = (loop ∙ h.0, h.1)
      describes (Halts leaf used) h = (loop ∙ h.0, leads ∙ h.1, h.2, h.3)
      describes (Looks leaf used) h = (loop ∙ h.0, record { next = h.1.next; leads = leads ∙ h.1.leads; closes = h.1.closes }, h.2)
      describes (Closes leaf used) h = (loop ∙ h.0, record { next = h.1.next; leads = leads ∙ h.1.leads; closes = h.1.closes }, h.2)
      describes Stuck h = (loop ∙ h.0, leads ∙ h.1)
      describes Undescribed h = tt

  -- the entries of one more run
  pub run_turn : (row new : List ℕ) (b end entry : ℕ) → EndsRun (stays code state.fast_loop) b 256 end → EndsRun (target code state.fork) b 256 end → IsEntry code state b entry →
      ((k : ℕ) → b ≤ k → k < end → slice_index new k ≡ entry) → ((k : ℕ) → k < b → slice_index new k ≡ slice_index row k) →
      ((k : ℕ) → k < b → IsEntry code state k (slice_index row k)) → (k : ℕ) → k < end → IsEntry code state k (slice_index new k)
  run_turn row new b end entry loop leads is inside others before k h = ⊎_elim old now (either k b)
    where
      either : (a b : ℕ) → (a < b) ⊎ (b ≤ a)
      either a b = grind arith

      old : k < b → IsEntry code state k (slice_index new k)
      old l = rw (others k l) (before k l)

      now : b ≤ k → IsEntry code state k (slice_index new k)
      now l = rw (inside k l h) (same_entry b k entry (loop.2 k l h) (leads.2 k l h) is)

  -- the entry of a first byte
  first_describes : (b entry first : ℕ) → IsEntry code state b entry → ((first ≡ entry) ⊎ (2415919104 ≤ first)) → IsEntry code state b first
  first_describes b entry first is (inl e) = subst (IsEntry code state b) (sym e) is
  first_describes b entry first is (inr h) = entry_describes b first Undescribed (inl h) tt

  -- the step of a state if no byte leads on
  pub halting_describes : (b : ℕ) (step : Step) → stays code state.fast_loop b ≡ false → target code state.fork b ≡ None → IsHalting code state.mark step → Describes code state b step
  halting_describes b (Leads s) out none is = absurd is
  halting_describes b (Stays s) out none is = absurd is
  halting_describes b (Halts leaf used) out none is = (out, none, is.0, is.1)
  halting_describes b (Looks leaf used) out none is = absurd is
  halting_describes b (Closes leaf used) out none is = absurd is
  halting_describes b Stuck out none is = (out, none)
  halting_describes b Undescribed out none is = absurd is

  ends_describe : (step : Step) → state.at_end ≡ None → IsHalting code state.mark step → DescribesEnd code state step
  ends_describe (Leads s) none is = absurd is
  ends_describe (Stays s) none is = absurd is
  ends_describe (Halts leaf used) none is = (none, is.0, is.1)
  ends_describe (Looks leaf used) none is = absurd is
  ends_describe (Closes leaf used) none is = absurd is
  ends_describe Stuck none is = tt
  ends_describe Undescribed none is = absurd is

  last_named : (entry : ℕ) (step : Step) → IsHalting code state.mark step → IsStepOf entry step → 536870912 ≤ entry
  last_named entry (Leads s) is f = absurd is
  last_named entry (Stays s) is f = absurd is
  last_named entry (Halts leaf Emits) is f = omega (arith, f.0)
  last_named entry (Halts leaf Skips) is f = omega (arith, f.0)
  last_named entry (Halts leaf CallsBack) is f = omega (arith, f.0)
  last_named entry (Looks leaf used) is f = absurd is
  last_named entry (Closes leaf used) is f = absurd is
  last_named entry Stuck is f = omega (arith, f.0)
  last_named entry Undescribed is f = absurd is

  -- the entry of the end of the input
  pub last_describes : (entry : ℕ) (step : Step) → (IsStepOf entry step ⊎ IsStepOf entry Undescribed) → state.at_end ≡ None → IsHalting code state.mark step → IsLastEntry code state entry
  last_describes entry step is none halts = record {
    describes = only_step (DescribesEnd code state) entry step is (ends_describe step none halts) tt;
    last = ⊎_elim (last_named entry step halts) (λ h. omega (arith, h)) is;
  }

  -- if the end leads on, the entry does not describe the step
  pub last_undescribed : IsLastEntry code state 2415919104
  last_undescribed = record { describes = only_step (DescribesEnd code state) 2415919104 Undescribed (inl (omega arith)) tt tt; last = omega arith }

  -- the entry of a byte that does not stay leads on or ends the attempt
  pub entry_moves : (b entry : ℕ) → IsEntry code state b entry → stays code state.fast_loop b ≡ false → (entry < 268435456) ⊎ (536870912 ≤ entry)
  entry_moves b entry is out = ⊎_elim (λ h. h) (λ h. absurd (clash h)) (either entry)
    where
      either : (n : ℕ) → ((n < 268435456) ⊎ (536870912 ≤ n)) ⊎ ((268435456 ≤ n) × (n < 536870912))
      either n = grind arith

      clash : (268435456 ≤ entry) × (entry < 536870912) → ⊥
      clash h =
          let described : Describes code state b (Stays (entry - 268435456)) = is.describes (Stays (entry - 268435456)) (omega (arith, h.0), omega (arith, h.0, h.1)) in
          let e : true ≡ false = sym described.0 ∙ out in
          cc

  -- the meaning of an entry that leads for its byte
  pub entry_leads : (b entry : ℕ) → IsEntry code state b entry → entry < 268435456 → target code state.fork b ≡ Some (entry / 272)
  entry_leads b entry is h =
      let row_start = is.row_start h in
      let described : Describes code state b (Leads (entry / 272)) = is.describes (Leads (entry / 272)) (sym row_start, omega (arith, h)) in
      described.1

  -- and one of a byte that leads nowhere
  pub entry_stuck : (b entry : ℕ) → IsEntry code state b entry → 2147483648 ≤ entry → entry < 2415919104 → target code state.fork b ≡ None
  entry_stuck b entry is low high = let described : Describes code state b Stuck = is.describes Stuck (low, high) in described.1

-- the row for first bytes, from that of the root
pub first_row_describes : (code : CodeValue) (rows first : List ℕ) → AreRows code rows → code.root < length code.states → IsFirstOf rows code.root first → IsFirstRow code first
first_row_describes code rows first are there firsts b h =
    let one = firsts.1 b h in
    (first_describes code (state_at code code.root) b (slice_index rows (272 * code.root + b)) (slice_index first b) (are.each code.root b there h) one.0, one.1)
