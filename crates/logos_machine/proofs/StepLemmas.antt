-- The turn of a state, by the byte at which its fast loop ends.
use Rattle.std.proofs.Common.{◌≡◌, ◌≢◌, ℕ, ◌+◌, ◌<◌, ◌⊎◌, [], ◌∷◌, inl, inr, ⊎_elim, Bool, true, false, ◌&&◌, ◌==◌, IsTrue, IfSome, List, drop, Option, Some, None, option_map, slice_get, refl, sym, ap, ◌∙◌, arith}
use Rattle.std.proofs.lemmas.Bool.Decides.{eqb_tells}
use Rattle.logos_code.specs.Code.{CodeValue, CodeState, Fork, Mark, by_conditions, by_table}
use Rattle.logos_code.specs.Headline.{IsLate}
use Rattle.logos_code.specs.Runs.{Status, Turn, acts, returns, target, looped, marked, led, forked, turn, Does}
use Rattle.logos_machine.specs.Streams.{IsClosed, NoBranches}

differs : (a b : ℕ) → a ≢ b → (a == b) ≡ false
differs a b other = ⊎_elim (λ h. absurd (other h.1)) (λ h. h.0) (eqb_tells a b)

agrees : (a b : ℕ) → a ≡ b → (a == b) ≡ true
agrees a b same = ⊎_elim (λ h. h.0) (λ h. absurd (h.1 same)) (eqb_tells a b)

other_and : (a b : ℕ) (c : Bool) → a ≢ b → ((a == b) && c) ≡ false
other_and a b c other = ap (λ f. f && c) (differs a b other)

pub and_other : (c : Bool) (a b : ℕ) → a ≢ b → (c && (a == b)) ≡ false
and_other true a b other = differs a b other
and_other false a b other = refl

module _ (code : CodeValue) (bytes : List ℕ) (start : ℕ) (at : Status) (state : CodeState) (is : slice_get code.states at.state ≡ Some state) where
  abbrev turn_at : ℕ → Turn
  turn_at offset = forked code state (slice_get bytes offset) (at.state == code.root && offset == start) offset (marked state.mark offset at.context)

  -- the offset is where the fast loop ends
  abbrev Stops : ℕ → Type 0
  Stops offset = offset ≡ at.offset + looped code state.fast_loop (drop at.offset bytes)

  -- the state to which the byte leads, if there is a byte
  abbrev Sees : ℕ → Option (Option ℕ) → Type 0
  Sees offset seen = seen ≡ option_map (target code state.fork) (slice_get bytes offset)

  does : (offset : ℕ) (what : Turn) → Stops offset → turn_at offset ≡ what → Does code bytes start at what
  does offset what stops e = (state, is, ap turn_at (sym stops) ∙ e)

  -- the attempt has read nothing, and the input is over
  pub does_return : (offset : ℕ) (seen : Option (Option ℕ)) → Stops offset → Sees offset seen → seen ≡ None → at.state ≡ code.root → offset ≡ start → Does code bytes start at returns
  does_return offset seen stops sees none root begun =
      does offset returns stops (go (slice_get bytes offset) (at.state == code.root) (offset == start) (sym sees ∙ none) (agrees at.state code.root root) (agrees offset start begun))
    where
      go : (o : Option ℕ) (f g : Bool) → option_map (target code state.fork) o ≡ None → f ≡ true → g ≡ true → forked code state o (f && g) offset (marked state.mark offset at.context) ≡ returns
      go (Some b) f g e r s = absurd cc
      go None true true e r s = refl
      go None true false e r s = absurd cc
      go None false g e r s = absurd cc

  by_byte : (offset : ℕ) (to o : Option ℕ) (fresh : Bool) → option_map (target code state.fork) o ≡ Some to →
      forked code state o fresh offset (marked state.mark offset at.context) ≡ led to offset (marked state.mark offset at.context)
  by_byte offset to (Some b) fresh e =
      let same : target code state.fork b ≡ to = cc in
      ap (λ t. led t offset (marked state.mark offset at.context)) same
  by_byte offset to None fresh e = absurd cc

  by_end : (offset : ℕ) (to o : Option ℕ) (fresh : Bool) → option_map (target code state.fork) o ≡ None → fresh ≡ false → to ≡ state.at_end →
      forked code state o fresh offset (marked state.mark offset at.context) ≡ led to offset (marked state.mark offset at.context)
  by_end offset to (Some b) fresh e is_later ends = absurd cc
  by_end offset to None true e is_later ends = absurd cc
  by_end offset to None false e is_later ends = ap (λ t. led t offset (marked state.mark offset at.context)) (sym ends)

  later : (offset : ℕ) → (at.state ≢ code.root) ⊎ (offset ≢ start) → (at.state == code.root && offset == start) ≡ false
  later offset h = ⊎_elim (λ other. other_and at.state code.root (offset == start) other) (λ other. and_other (at.state == code.root) offset start other) h

  -- the state to which the byte or the end leads
  pub does_lead : (offset : ℕ) (seen : Option (Option ℕ)) (to : Option ℕ) (context : Option (ℕ × ℕ)) → Stops offset → Sees offset seen →
      (seen ≡ Some to) ⊎ ((seen ≡ None) × ((at.state ≢ code.root) ⊎ (offset ≢ start)) × (to ≡ state.at_end)) →
      context ≡ marked state.mark offset at.context →
      Does code bytes start at (led to offset context)
  does_lead offset seen to context stops sees ways kept =
      does offset (led to offset context) stops (by_way ways ∙ ap (λ c. led to offset c) (sym kept))
    where
      by_way : (seen ≡ Some to) ⊎ ((seen ≡ None) × ((at.state ≢ code.root) ⊎ (offset ≢ start)) × (to ≡ state.at_end)) → turn_at offset ≡ led to offset (marked state.mark offset at.context)
      by_way (inl h) = by_byte offset to (slice_get bytes offset) (at.state == code.root && offset == start) (sym sees ∙ h)
      by_way (inr h) = by_end offset to (slice_get bytes offset) (at.state == code.root && offset == start) (sym sees ∙ h.0) (later offset h.1) h.2

  -- a late mark is after a byte
  pub late_afterward : (IsLate code at.state → start + 1 < at.offset) → (offset : ℕ) → Stops offset → (mark : Option Mark) → state.mark ≡ mark → IfSome mark (λ m. IsTrue m.late → 0 < offset)
  late_afterward second offset stops None marks = tt
  late_afterward second offset stops (Some mark) marks = λ late.
      let there : IsLate code at.state = rw (is, marks) late in
      let past = second there in
      omega (arith, stops, past)

-- a fork without branches leads nowhere
target_none : (code : CodeValue) (fork : Fork) → NoBranches fork → (b : ℕ) → target code fork b ≡ None
target_none code (by_conditions []) none b = refl
target_none code (by_conditions (branch ∷ branches)) none b = absurd none
target_none code (by_table entries) none b = absurd none

module _ (code : CodeValue) (bytes : List ℕ) (start : ℕ) (at : Status) (state : CodeState) (closed : IsClosed state) (past : start < at.offset) where
  forked_closed : (context : Option (ℕ × ℕ)) (o : Option ℕ) (fresh : Bool) → fresh ≡ false → forked code state o fresh at.offset context ≡ acts context at.offset
  forked_closed context (Some b) fresh e = ap (λ t. led t at.offset context) (target_none code state.fork closed.fork b)
  forked_closed context None true e = absurd cc
  forked_closed context None false e = ap (λ t. led t at.offset context) closed.at_end

  -- a closed state acts as it is entered, whatever the bytes are
  pub closed_turn : turn code bytes start state at ≡ acts (marked state.mark at.offset at.context) at.offset
  closed_turn =
      let none : looped code state.fast_loop (drop at.offset bytes) ≡ 0 = rw closed.fast_loop refl in
      let stops : at.offset + looped code state.fast_loop (drop at.offset bytes) ≡ at.offset = omega (arith, none) in
      ap (λ offset. forked code state (slice_get bytes offset) (at.state == code.root && offset == start) offset (marked state.mark offset at.context)) stops
      ∙ forked_closed (marked state.mark at.offset at.context) (slice_get bytes at.offset) (at.state == code.root && at.offset == start) (and_other (at.state == code.root) at.offset start (λ e. omega (arith, e, past)))
