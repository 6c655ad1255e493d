-- A match attempt by folded entries.
use Rattle.std.proofs.Common.{◌≡◌, ℕ, suc, ◌+◌, ◌*◌, ◌<◌, ◌≤◌, inl, inr, true, false, List, length, drop, get_or, Option, Some, None, refl, sym, subst, arith}
use Rattle.std.proofs.lemmas.Option.{slice_get-get_or}
use Rattle.logos_automaton.specs.Munch.{matched}
use Rattle.logos_code.specs.Code.{CodeValue}
use Rattle.logos_code.specs.CodeView.{state_at}
use Rattle.logos_code.specs.Headline.{IsSound}
use Rattle.logos_code.specs.LastMarks.{next_status}
use Rattle.logos_code.specs.Rows.{IsUse, Describes}
use Rattle.logos_code.specs.Runs.{Status, continues, acts_on, looped, stays, target}
use Rattle.logos_code.specs.declared.code.rows.MatchUse.{MatchUse}
use Rattle.logos_code.specs.declared.code.rows.Step.{Step}
use Rattle.logos_code.specs.declared.code.rows.Step.TheVariants.{Leads, Halts, Looks}
use Rattle.logos_scan.specs.fold.Folds.{Goes, EndsAs, leaf_of}
use Rattle.logos_machine.specs.inside.Looks.{Sees, Attempted}
use Rattle.logos_machine.proofs.LookLemmas.{loops_no, loops_on, sees_byte}
use Rattle.logos_machine.proofs.StatusLemmas.{is_at_next, is_at_match}
use Rattle.logos_machine.proofs.WalkLemmas.{comes_first}
use Rattle.logos_scan.specs.Attempts.{ComesTo}

-- one byte of a fast loop
loop_more : (code : CodeValue) (loop : Option ℕ) (bytes : List ℕ) (at : ℕ) → at < length bytes → stays code loop (get_or bytes at 0) ≡ true →
    at + looped code loop (drop at bytes) ≡ at + 1 + looped code loop (drop (at + 1) bytes)
loop_more code None bytes at within on = absurd (let e : false ≡ true = on in cc)
loop_more code (Some test) bytes at within on = omega (arith, loops_on code test bytes at within on)

module _ (code : CodeValue) (sound : IsSound code) (bytes : List ℕ) (start : ℕ) (starts : start ≤ length bytes) where
  -- a match attempt begins in the root
  abbrev pub is_at_begun : ComesTo code bytes start start (272 * code.root)
  is_at_begun = record {
    state = code.root;
    is = refl;
    offset = start;
    before = 0;
    comes = comes_first code sound bytes start starts;
    past = omega arith;
    loops = refl;
  }

  module _ (at row_start : ℕ) (s : ComesTo code bytes start at row_start) (within : at < length bytes) where
    abbrev byte : ℕ
    byte = get_or bytes at 0

    abbrev here : Status
    here = record { state = s.state; offset = s.offset; context = s.comes.context }

    there : s.state < length code.states
    there = let h = s.comes.is_at in h.state

    begun : start ≤ s.offset
    begun = let h = s.comes.is_at in h.begun

    -- its fast loop ends before a byte that does not stay
    ends_loop : stays code (state_at code s.state).fast_loop byte ≡ false → at ≡ s.offset + looped code (state_at code s.state).fast_loop (drop s.offset bytes)
    ends_loop out =
        let none = loops_no code (state_at code s.state).fast_loop bytes at within out in
        let loops = s.loops in
        omega (arith, none, loops)

    sees : (step : Step) → stays code (state_at code s.state).fast_loop byte ≡ false → Describes code (state_at code s.state) byte step → Sees code bytes start s.state s.offset at step
    sees step out describes = sees_byte code bytes start s.state there s.offset at byte step begun (ends_loop out) (slice_get-get_or bytes at 0 within) describes

    -- a byte that the fast loop takes
    is_at_stays : stays code (state_at code s.state).fast_loop byte ≡ true → ComesTo code bytes start (at + 1) (272 * s.state)
    is_at_stays on =
        let loops = s.loops in
        let past = s.past in
        record {
          state = s.state;
          is = refl;
          offset = s.offset;
          before = s.before;
          comes = s.comes;
          past = omega (arith, past);
          loops = omega (arith, loops, loop_more code (state_at code s.state).fast_loop bytes at within on);
        }

    -- one that leads to a state
    is_at_leads : (next : ℕ) → stays code (state_at code s.state).fast_loop byte ≡ false → target code (state_at code s.state).fork byte ≡ Some next → ComesTo code bytes start (at + 1) (272 * next)
    is_at_leads next out leads =
        let comes = s.comes in
        let led : Sees code bytes start s.state s.offset at (Leads next) = sees (Leads next) out (out, leads) in
        let does = led comes.context in
        let then : Status = record { state = next; offset = at + 1; context = does.0 } in
        let n = is_at_next code sound bytes start starts here then comes.is_at does.1 in
        let few = comes.few in
        let past = s.past in
        record {
          state = next;
          is = refl;
          offset = at + 1;
          before = s.before + 1;
          comes = record {
            context = does.0;
            is_at = n.0;
            of_attempt = next_status here then comes.of_attempt does.1;
            few = omega (arith, few, past);
            continues = λ found m g.
                let e : s.before + suc m ≡ s.before + 1 + m = omega arith in
                rw (← e) (comes.continues found (suc m) (continues here then found m does.1 g));
          };
          past = omega arith;
          loops = refl;
        }

    -- one that keeps the attempt going
    pub is_at_goes : (now : ℕ) → Goes code s.state byte now → ComesTo code bytes start (at + 1) now
    is_at_goes now g = subst (λ (p : ℕ). ComesTo code bytes start (at + 1) p) (sym g.is) (elim g.takes [
      | inl h ↦ subst (λ (q : ℕ). ComesTo code bytes start (at + 1) (272 * q)) (sym h.1) (is_at_stays h.0)
      | inr h ↦ is_at_leads g.next h.0 h.1
    ])

    -- a match that ends before it, by a state that marks it
    halts : (leaf : ℕ) (used : MatchUse) → Describes code (state_at code s.state) byte (Halts (record { 0 = leaf }) used) → ((n : ℕ) × Attempted code bytes start (matched leaf at) n) × IsUse code leaf used
    halts leaf used describes =
        let comes = s.comes in
        let seen : Sees code bytes start s.state s.offset at (Halts (record { 0 = leaf }) used) = sees (Halts (record { 0 = leaf }) used) describes.0 describes in
        let does = seen.0 comes.context in
        let few = comes.few in
        let past = s.past in (
          (
            s.before + 1,
            record {
              attempts = comes.continues (matched leaf at) 1 (acts_on here (Some (leaf, at)) at (matched leaf at) does refl);
              within = is_at_match code sound bytes start starts here (Some (leaf, at)) at comes.is_at does;
              few = omega (arith, few, past, within);
            },
          ),
          seen.1,
        )

    -- or by the state to which the byte leads
    looks : (leaf : ℕ) (used : MatchUse) → Describes code (state_at code s.state) byte (Looks (record { 0 = leaf }) used) → ((n : ℕ) × Attempted code bytes start (matched leaf at) n) × IsUse code leaf used
    looks leaf used describes =
        let comes = s.comes in
        let seen : Sees code bytes start s.state s.offset at (Looks (record { 0 = leaf }) used) = sees (Looks (record { 0 = leaf }) used) describes.0 describes in
        let does = seen.0 comes.context in
        let then : Status = record { state = does.0; offset = at + 1; context = does.1 } in
        let n = is_at_next code sound bytes start starts here then comes.is_at does.2 in
        let few = comes.few in
        let past = s.past in
        let m = is_at_match code sound bytes start starts then (Some (leaf, at)) (at + 1) n.0 does.3 in (
          (
            s.before + 2,
            record {
              attempts = comes.continues (matched leaf at) 2 (continues here then (matched leaf at) 1 does.2 (acts_on then (Some (leaf, at)) (at + 1) (matched leaf at) does.3 refl));
              within = m;
              few = omega (arith, few, past, within);
            },
          ),
          seen.1,
        )

    -- a match that ends before the byte, by its entry
    pub attempted_ends : (entry : ℕ) (e : EndsAs code s.state byte entry) → ((n : ℕ) × Attempted code bytes start (matched (leaf_of entry) at) n) × IsUse code (leaf_of entry) e.used
    attempted_ends entry e = elim e.describes [
      | inl h ↦ halts (leaf_of entry) e.used h
      | inr l ↦ looks (leaf_of entry) e.used l
    ]
