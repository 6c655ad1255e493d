-- Match attempts by entries.
use Rattle.std.proofs.Common.{◌≡◌, ℕ, zero, suc, ◌+◌, ◌-◌, ◌*◌, ◌/◌, ◌%◌, ◌<◌, ◌≤◌, inl, inr, ⊎_elim, true, false, List, length, drop, get_or, Option, Some, None, refl, sym, subst, arith, length-drop}
use Rattle.std.proofs.lemmas.Option.{slice_get-get_or, slice_get_past}
use Rattle.logos_automaton.specs.Munch.{matched, failed}
use Rattle.logos_hir.specs.Text.{IsBytes}
use Rattle.logos_hir.specs.declared.leaf.LeafId.{LeafId}
use Rattle.logos_code.specs.Code.{CodeValue, CodeState}
use Rattle.logos_code.specs.CodeView.{state_at, no_state}
use Rattle.logos_code.specs.Headline.{IsSound, NamesTest, NamesExisting}
use Rattle.logos_code.specs.LastMarks.{IsLastMark, first_status, next_status}
use Rattle.logos_code.specs.Rows.{IsEntry, IsLastEntry, IsUse, first_halting, first_closing}
use Rattle.logos_code.specs.Runs.{Status, continues, acts_on, acts, looped, stays, Does, EndsError}
use Rattle.logos_code.proofs.RowLemmas.{loop_stops, entry_moves}
use Rattle.logos_code.proofs.TargetLemmas.{All-slice_get}
use Rattle.logos_machine.specs.inside.Looks.{Sees, Comes, Reaches, Attempted, LooksAhead, StopsAt}
use Rattle.logos_code.specs.declared.code.last_marks.LastMark.TheVariants.{Never, Back}
use Rattle.logos_code.specs.declared.code.rows.MatchUse.{MatchUse}
use Rattle.logos_code.specs.declared.code.rows.Step.TheVariants.{Leads, Stays, Halts, Looks, Closes, Stuck}
use Rattle.logos_machine.proofs.StatusLemmas.{looped-fits, is_at_first, is_at_next, is_at_match}
use Rattle.logos_machine.proofs.StopLemmas.{stop_looped, stop_within}
use Rattle.logos_machine.proofs.LookLemmas.{loops_on, sees_byte, sees_end, sees_entry}

-- the test of a state's fast loop is there
pub loop_named : (code : CodeValue) (s test : ℕ) → IsSound code → s < length code.states → (state_at code s).fast_loop ≡ Some test → NamesTest code test
loop_named code s test sound there is =
    let got = slice_get-get_or code.states s no_state there in
    let names = All-slice_get (NamesExisting code) code.states s (state_at code s) sound.states got in
    rw is at names.fast_loop

-- the entry of a byte that stays names the test of its state
pub stays_test : (code : CodeValue) (state : CodeState) (b entry : ℕ) → IsEntry code state b entry → (268435456 ≤ entry) × (entry < 536870912) →
    (stays code state.fast_loop b ≡ true) × (state.fast_loop ≡ Some (entry - 268435456))
stays_test code state b entry is h = is.describes (Stays (entry - 268435456)) (omega (arith, h.0), omega (arith, h.0, h.1))

module _ (code : CodeValue) (sound : IsSound code) (bytes : List ℕ) (s : ℕ) (there : s < length code.states) (at entry stop : ℕ) (within : at < length bytes)
    (is : IsEntry code (state_at code s) (get_or bytes at 0) entry) (kind : (268435456 ≤ entry) × (entry < 536870912)) (stops : StopsAt code (entry - 268435456) bytes (at + 1) stop) where
  -- a fast loop begins at the byte and ends at the stop
  loop_ends : stop ≡ at + looped code (state_at code s).fast_loop (drop at bytes)
  loop_ends =
      let test = entry - 268435456 in
      let stated = stays_test code (state_at code s) (get_or bytes at 0) entry is kind in
      let on = loops_on code test bytes at within (rw stated.1 at stated.0) in
      let rest = stop_looped code test bytes (at + 1) stop stops in
      rw stated.1 (omega (arith, on, rest))

  fits : (at + 1 ≤ stop) × (stop ≤ length bytes)
  fits = stop_within code (entry - 268435456) bytes (at + 1) stop stops (omega (arith, within))

  -- it takes all bytes that are left
  pub looks_end : (last : ℕ) → length bytes ≤ stop → IsLastEntry code (state_at code s) last → LooksAhead code bytes s at last stop
  looks_end last past describes = record {
    past = omega (arith, fits.0);
    within = fits.1;
    moves = inr describes.last;
    sees = λ start h step f. sees_end code bytes start s there at stop sound step loop_ends (slice_get_past bytes stop past) (describes.describes step f);
    row_start = λ h. absurd (omega (arith, h, describes.last));
  }

  -- it ends at a byte
  pub looks_byte : (later : ℕ) → stop < length bytes → IsEntry code (state_at code s) (get_or bytes stop 0) later → LooksAhead code bytes s at later stop
  looks_byte later inside describes =
      let loop = (state_at code s).fast_loop in
      let e = loop_ends in
      let out : stays code loop (get_or bytes stop 0) ≡ false = rw (← e) at (loop_stops code loop bytes at 0 (rw e at inside)) in
      record {
        past = omega (arith, fits.0);
        within = fits.1;
        moves = ⊎_elim (λ h. inl (h, inside)) (λ h. inr h) (entry_moves code (state_at code s) (get_or bytes stop 0) later describes out);
        sees = λ start h step f. sees_byte code bytes start s there at stop (get_or bytes stop 0) step h e (slice_get-get_or bytes stop 0 inside) (describes.describes step f);
        row_start = describes.row_start;
      }

module _ (code : CodeValue) (sound : IsSound code) (bytes : List ℕ) (start : ℕ) (starts : start ≤ length bytes) where
  -- a match attempt begins in the root
  pub comes_first : Comes code bytes start code.root start 0
  comes_first = record {
    context = None;
    is_at = is_at_first code sound bytes start starts;
    of_attempt = first_status;
    few = omega arith;
    continues = λ found n g. let e : 0 + n ≡ n = omega arith in rw e g;
  }

  -- an examination from a state on
  pub looks_on : (state offset before entry stop : ℕ) → Comes code bytes start state offset before → LooksAhead code bytes state offset entry stop →
      Reaches code bytes start state entry stop before
  looks_on state offset before entry stop comes looks = record {
    offset = offset;
    comes = comes;
    past = looks.past;
    within = looks.within;
    sees = looks.sees start (let s = comes.is_at in s.begun);
    row_start = looks.row_start;
  }

  -- the end of the input
  pub looks_past : (state at before last : ℕ) → Comes code bytes start state at before → at ≡ length bytes → IsLastEntry code (state_at code state) last → Reaches code bytes start state last at before
  looks_past state at before last comes end describes =
      let is_at = comes.is_at in
      let none : looped code (state_at code state).fast_loop (drop at bytes) ≡ 0 = omega (arith, looped-fits code (state_at code state).fast_loop (drop at bytes), length-drop at bytes, end) in
      record {
        offset = at;
        comes = comes;
        past = omega arith;
        within = omega (arith, end);
        sees = λ step f. sees_end code bytes start state is_at.state at at sound step (omega (arith, none)) (slice_get_past bytes at (omega (arith, end))) (describes.describes step f);
        row_start = λ h. absurd (omega (arith, h, describes.last));
      }

  -- the entry of the byte there
  pub looks_here : (state at before entry : ℕ) → Comes code bytes start state at before → at < length bytes → IsEntry code (state_at code state) (get_or bytes at 0) entry →
      Reaches code bytes start state entry at before
  looks_here state at before entry comes within is = record {
    offset = at;
    comes = comes;
    past = omega arith;
    within = omega (arith, within);
    sees = let s = comes.is_at in sees_entry code bytes start state s.state at entry s.begun within is;
    row_start = is.row_start;
  }

  module _ (state entry stop before : ℕ) (r : Reaches code bytes start state entry stop before) where
    abbrev at : Status
    at = record { state = state; offset = r.offset; context = r.comes.context }

    -- an entry that leads
    pub leads_on : entry < 268435456 → Comes code bytes start (entry / 272) (stop + 1) (before + 1)
    leads_on h =
        let row_start = r.row_start h in
        let sees : Sees code bytes start state r.offset stop (Leads (entry / 272)) = r.sees (Leads (entry / 272)) (sym row_start, omega (arith, h)) in
        let does = sees r.comes.context in
        let next : Status = record { state = entry / 272; offset = stop + 1; context = does.0 } in
        let n = is_at_next code sound bytes start starts at next r.comes.is_at does.1 in
        let few = r.comes.few in
        let moves = n.1 in
        record {
          context = does.0;
          is_at = n.0;
          of_attempt = next_status at next r.comes.of_attempt does.1;
          few = omega (arith, few, moves);
          continues = λ found m g.
              let e : before + suc m ≡ before + 1 + m = omega arith in
              rw (← e) (r.comes.continues found (suc m) (continues at next found m does.1 g));
        }

    -- an entry that halts
    halts_soon : (leaf : ℕ) (used : MatchUse) → entry ≡ first_halting used + leaf → leaf < 134217728 → Attempted code bytes start (matched leaf stop) (before + 1) × IsUse code leaf used
    halts_soon leaf used is small =
        let sees : Sees code bytes start state r.offset stop (Halts (record { 0 = leaf }) used) = r.sees (Halts (record { 0 = leaf }) used) (is, small) in
        let does = sees.0 r.comes.context in
        let few = r.comes.few in
        let past = r.past in
        let within = r.within in (
          record {
            attempts = r.comes.continues (matched leaf stop) 1 (acts_on at (Some (leaf, stop)) stop (matched leaf stop) does refl);
            within = is_at_match code sound bytes start starts at (Some (leaf, stop)) stop r.comes.is_at does;
            few = omega (arith, few, past, within);
          },
          sees.1,
        )

    -- an entry that looks ahead
    looks_soon : (leaf : ℕ) (used : MatchUse) → entry ≡ first_halting used + 134217728 + leaf → leaf < 134217728 → Attempted code bytes start (matched leaf stop) (before + 2) × IsUse code leaf used
    looks_soon leaf used is small =
        let sees : Sees code bytes start state r.offset stop (Looks (record { 0 = leaf }) used) = r.sees (Looks (record { 0 = leaf }) used) (is, small) in
        let does = sees.0 r.comes.context in
        let next : Status = record { state = does.0; offset = stop + 1; context = does.1 } in
        let n = is_at_next code sound bytes start starts at next r.comes.is_at does.2 in
        let few = r.comes.few in
        let past = r.past in
        let m = is_at_match code sound bytes start starts next (Some (leaf, stop)) (stop + 1) n.0 does.3 in
        let within = m.2 in (
          record {
            attempts = r.comes.continues (matched leaf stop) 2
                (continues at next (matched leaf stop) 1 does.2 (acts_on next (Some (leaf, stop)) (stop + 1) (matched leaf stop) does.3 refl));
            within = m;
            few = omega (arith, few, past, within);
          },
          sees.1,
        )

    -- an entry of a match that ends before its byte
    pub ends_before : (named : ℕ) (used : MatchUse) → entry ≡ first_halting used + named → named < 268435456 →
        Attempted code bytes start (matched (named % 134217728) stop) (before + 1 + named / 134217728) × IsUse code (named % 134217728) used
    ends_before named used is small = go (named / 134217728) (named % 134217728) (omega arith) (omega arith) (omega (arith, small))
      where
        go : (late leaf : ℕ) → named ≡ 134217728 * late + leaf → leaf < 134217728 → late < 2 → Attempted code bytes start (matched leaf stop) (before + 1 + late) × IsUse code leaf used
        go zero leaf e l h =
            let n : before + 1 ≡ before + 1 + 0 = omega arith in
            subst (λ steps. Attempted code bytes start (matched leaf stop) steps × IsUse code leaf used) n (halts_soon leaf used (omega (arith, is, e)) l)
        go (suc zero) leaf e l h =
            let n : before + 2 ≡ before + 1 + 1 = omega arith in
            subst (λ steps. Attempted code bytes start (matched leaf stop) steps × IsUse code leaf used) n (looks_soon leaf used (omega (arith, is, e)) l)
        go (suc (suc late)) leaf e l h = absurd (omega (arith, h))

    -- an entry that closes
    pub closes_soon : (leaf : ℕ) (used : MatchUse) → entry ≡ first_closing used + leaf → leaf < 268435456 → Attempted code bytes start (matched leaf (stop + 1)) (before + 2) × IsUse code leaf used
    closes_soon leaf used is small =
        let sees : Sees code bytes start state r.offset stop (Closes (record { 0 = leaf }) used) = r.sees (Closes (record { 0 = leaf }) used) (is, small) in
        let does = sees.0 r.comes.context in
        let next : Status = record { state = does.0; offset = stop + 1; context = does.1 } in
        let n = is_at_next code sound bytes start starts at next r.comes.is_at does.2 in
        let few = r.comes.few in
        let past = r.past in
        let m = is_at_match code sound bytes start starts next (Some (leaf, stop + 1)) (stop + 1) n.0 does.3 in
        let within = m.2 in (
          record {
            attempts = r.comes.continues (matched leaf (stop + 1)) 2
                (continues at next (matched leaf (stop + 1)) 1 does.2 (acts_on next (Some (leaf, stop + 1)) (stop + 1) (matched leaf (stop + 1)) does.3 refl));
            within = m;
            few = omega (arith, few, past, within);
          },
          sees.1,
        )

    -- an entry of a byte that leads nowhere
    module _ (low : 2147483648 ≤ entry) (high : entry < 2415919104) (inside : stop < length bytes) (are : IsBytes bytes) where
      stuck : (passed : Option (ℕ × ℕ)) × Does code bytes start at (acts passed stop)
      stuck = let sees : Sees code bytes start state r.offset stop Stuck = r.sees Stuck (low, high) in sees inside r.comes.context

      -- the last mark passed is this number of bytes back
      pub goes_back : (leaf : LeafId) (n : ℕ) → IsLastMark code state (Back leaf n) → Attempted code bytes start (matched leaf.0 (stop - n)) (before + 1)
      goes_back leaf n last =
          let e : stuck.0 ≡ Some (leaf.0, stop - n) = last bytes start at stuck.0 stop are r.comes.of_attempt refl stuck.1 in
          let does : Does code bytes start at (acts (Some (leaf.0, stop - n)) stop) = subst (λ (p : Option (ℕ × ℕ)). Does code bytes start at (acts p stop)) e stuck.1 in
          let few = r.comes.few in
          let past = r.past in
          let within = r.within in
          record {
            attempts = r.comes.continues (matched leaf.0 (stop - n)) 1 (acts_on at (Some (leaf.0, stop - n)) stop (matched leaf.0 (stop - n)) does refl);
            within = is_at_match code sound bytes start starts at (Some (leaf.0, stop - n)) stop r.comes.is_at does;
            few = omega (arith, few, past, within);
          }

      -- none was passed
      pub fails_soon : (to : ℕ) → IsLastMark code state Never → EndsError code bytes start stop to → to ≤ length bytes → Attempted code bytes start (failed to) (before + 1)
      fails_soon to last ends fits =
          let e : stuck.0 ≡ None = last bytes start at stuck.0 stop are r.comes.of_attempt refl stuck.1 in
          let does : Does code bytes start at (acts None stop) = subst (λ (p : Option (ℕ × ℕ)). Does code bytes start at (acts p stop)) e stuck.1 in
          let few = r.comes.few in
          let past = r.past in
          let within = r.within in
          let over = ends.past in
          record {
            attempts = r.comes.continues (failed to) 1 (acts_on at None stop (failed to) does ends);
            within = (omega (arith, over), fits);
            few = omega (arith, few, past, within);
          }
