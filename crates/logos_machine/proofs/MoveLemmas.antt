-- One state of a match attempt on a part of an input.
use Rattle.std.proofs.Common.{◌≡◌, ◌∙◌, ℕ, ◌+◌, ◌<◌, ◌≤◌, inl, inr, ⊎_elim, IfSome, IsTrue, List, length, drop, Option, Some, None, option_map, slice_get, get_or, refl, sym, ap, subst, arith}
use Rattle.std.proofs.lemmas.List.{get_or-map, length-map}
use Rattle.std.proofs.lemmas.Option.{slice_get_within, slice_get_cases}
use Rattle.logos_code.specs.Code.{CodeValue, CodeState, Mark}
use Rattle.logos_code.specs.CodeView.{code_of, fork_of, no_state, state_at, state_of}
use Rattle.logos_code.specs.declared.code.CodeParts.{CodeParts}
use Rattle.logos_code.specs.declared.code.CodeState.{CodeState as TheState}
use Rattle.logos_code.specs.Runs.{Status, acts, led, target, looped, marked, Does}
use Rattle.logos_machine.specs.Streams.{IsClosed, StopsWithin}
use Rattle.logos_machine.proofs.StepLemmas.{closed_turn, does_lead}

some_none : {A : Type 0} {a : A} → None ≡ Some a → ⊥
some_none h = cc

seen_none : {A B : Type 0} (f : A → B) (o : Option A) → option_map f o ≡ None → o ≡ None
seen_none f None e = cc
seen_none f (Some a) e = absurd cc

module _ (code : CodeValue) (part : List ℕ) (start : ℕ) (at : Status) (state : CodeState) (is : slice_get code.states at.state ≡ Some state)
    (offset : ℕ) (seen : Option (Option ℕ)) (stops : offset ≡ at.offset + looped code state.fast_loop (drop at.offset part)) (sees : seen ≡ option_map (target code state.fork) (slice_get part offset)) where
  -- no byte is where the fast loop ends
  pub comes_to_end : seen ≡ None → length part ≤ at.offset + looped code state.fast_loop (drop at.offset part)
  comes_to_end none =
      let gone : slice_get part offset ≡ None = seen_none (target code state.fork) (slice_get part offset) (sym sees ∙ none) in
      let past : length part ≤ offset = ⊎_elim (λ h. absurd (some_none (sym gone ∙ h.2))) (λ h. h.0) (slice_get_cases part offset).1 in
      omega (arith, past, stops)

  -- one is
  byte_within : (to : Option ℕ) (o : Option ℕ) → slice_get part offset ≡ o → option_map (target code state.fork) o ≡ Some to → offset < length part
  byte_within to None there e = absurd (some_none e)
  byte_within to (Some b) there e = slice_get_within part offset b there

  pub moves_on : (to : Option ℕ) (context : Option (ℕ × ℕ)) → seen ≡ Some to → context ≡ marked state.mark offset at.context →
      StopsWithin code part start (length part) at × Does code part start at (led to offset context)
  moves_on to context found kept =
      let within = byte_within to (slice_get part offset) refl (sym sees ∙ found) in
      ((state, is, inl (omega (arith, within, stops))), does_lead code part start at state is offset seen to context stops sees (inl found) kept)

-- a mark is after the first byte of the attempt
pub past_mark : (mark : Option Mark) (offset : ℕ) → 0 < offset → IfSome mark (λ m. IsTrue m.late → 0 < offset)
past_mark None offset past = tt
past_mark (Some mark) offset past = λ late. past

-- the turn of a closed state depends on no byte
pub acts_closed : (code : CodeValue) (part : List ℕ) (start : ℕ) (at : Status) (state : CodeState) (context : Option (ℕ × ℕ)) → slice_get code.states at.state ≡ Some state → IsClosed state → start < at.offset →
    context ≡ marked state.mark at.offset at.context → StopsWithin code part start (length part) at × Does code part start at (acts context at.offset)
acts_closed code part start at state context is closed past kept =
    ((state, is, inr (closed, past)), (state, is, closed_turn code part start at state closed past ∙ ap (λ c. acts c at.offset) (sym kept)))

-- the fork of a state, by the parts of its code
pub fork_at : (parts : CodeParts) (code : CodeValue) (s : ℕ) (state : TheState) → code_of parts ≡ code → s < length code.states → state ≡ get_or parts.states.items s state →
    (state_at code s).fork ≡ fork_of parts.jump_tables.items state.fork
fork_at parts code s state is there at =
    let f = state_of parts.jump_tables.items in
    let inside : s < length (code_of parts).states = subst (λ (c : CodeValue). s < length c.states) (sym is) there in
    let h : s < length parts.states.items = omega (arith, inside, length-map parts.states.items f) in
    let same : state_at (code_of parts) s ≡ f state = get_or-map f parts.states.items s state no_state h ∙ ap f (sym at) in
    subst (λ (c : CodeValue). (state_at c s).fork ≡ fork_of parts.jump_tables.items state.fork) is (ap (λ (t : CodeState). t.fork) same)
