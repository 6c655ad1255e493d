-- The turn of a state of the code, by the walk of `ScanLemmas`.
use Rattle.std.proofs.Common.{◌≡◌, ℕ, suc, ◌+◌, ◌-◌, ◌<◌, ◌≤◌, ◌⊎◌, inl, inr, ⊎_elim, Bool, true, false, ◌&&◌, ◌==◌, if◌then◌else◌, cond, List, [], ◌∷◌, length, drop, Option, Some, None, slice_get, refl, sym, ap, ◌∙◌, subst, arith, length-drop, drop-drop}
use Rattle.std.proofs.lemmas.List.{drop_more, drop_all}
use Rattle.std.proofs.lemmas.Option.{slice_get_cases}
use Rattle.std.proofs.lemmas.Bool.{ne_eqb}
use Rattle.std.proofs.lemmas.List.Elements.{All-drop}
use Rattle.std.proofs.lemmas.List.Sums.{take_while-cons}
use Rattle.std.specs.List.{take_while}
use Rattle.logos_hir.specs.Text.{IsBytes}
use Rattle.logos_code.specs.Bytes.{passes_test}
use Rattle.logos_code.specs.Code.{CodeValue, CodeState}
use Rattle.logos_code.specs.Runs.{Status, Turn, enters, acts, marked, looped, target, forked, turn, stays}
use Rattle.logos_graph.specs.Graph.{GraphState, next_by, next_at_end}
use Rattle.logos_generator.specs.Makes.{mark_made, led_by, Makes, IsClosed}
use Rattle.logos_generator.proofs.ScanLemmas.{mark_at, passed, last_of, reach, last_of-remark, last_of-step, last_of-stuck, reach-step, reach-stuck}

some_none : {A : Type 0} {a : A} → Some a ≡ None → ⊥
some_none h = cc

and_false : (b : Bool) → (b && false) ≡ false
and_false true = refl
and_false false = refl

module _ (code : CodeValue) (graph : List GraphState) where
  -- the facts about the rest of the input after the bytes that the fast loop takes
  pub record Skips (p : ℕ → Bool) (s : ℕ) (rest : List ℕ) (at : ℕ) (context : Option (ℕ × ℕ)) (k : ℕ) : Type 0 where
    pub last : last_of graph s rest at context ≡ last_of graph s (drop k rest) (at + k) context
    pub reached : at + reach graph s rest ≡ at + k + reach graph s (drop k rest)
    pub fits : k ≤ length rest
    pub stop : (b : ℕ) (after : List ℕ) → drop k rest ≡ b ∷ after → p b ≡ false

  skips : (p : ℕ → Bool) (s : ℕ) → ((b : ℕ) → b < 256 → p b ≡ true → next_by graph s b ≡ Some s) →
      (rest : List ℕ) (at : ℕ) (context : Option (ℕ × ℕ)) → IsBytes rest → Skips p s rest at context (length (take_while p rest))
  skips p s loops [] at context are = record {
    last = let e : at + 0 ≡ at = omega arith in rw e refl;
    reached = omega arith;
    fits = omega arith;
    stop = λ b after e. absurd (cc);
  }
  skips p s loops (b ∷ rest) at context are = go (λ c. skips p s loops rest (at + 1) c later) (p b) refl
    where
      later : IsBytes rest
      later i d h = are (suc i) d (omega (arith, h))

      small : b < 256
      small = are 0 0 (omega arith)

      go : ((c : Option (ℕ × ℕ)) → Skips p s rest (at + 1) c (length (take_while p rest))) →
          (o : Bool) → p b ≡ o → Skips p s (b ∷ rest) at context (length (take_while p (b ∷ rest)))
      go below false e =
          let w : take_while p (b ∷ rest) ≡ [] = take_while-cons p b rest ∙ ap (λ c. cond c (b ∷ take_while p rest) []) e in
          rw w record {
            last = let f : at + 0 ≡ at = omega arith in rw f refl;
            reached = omega arith;
            fits = omega arith;
            stop = λ c after f. let g : b ≡ c = cc in ap p (sym g) ∙ e;
          }
      go below true e =
          let w : take_while p (b ∷ rest) ≡ b ∷ take_while p rest = take_while-cons p b rest ∙ ap (λ c. cond c (b ∷ take_while p rest) []) e in
          let n = loops b small e in
          let i = below context in
          let k : at + suc (length (take_while p rest)) ≡ at + 1 + length (take_while p rest) = omega arith in
          rw w record {
            last = last_of-step graph s b rest at context s n ∙ last_of-remark graph s rest (at + 1) at context ∙ i.last ∙ rw k refl;
            reached = let f = reach-step graph s b rest s n in let g = i.reached in omega arith;
            fits = let g = i.fits in omega arith;
            stop = i.stop;
          }

  pub skips_loop : (loop : Option ℕ) (s : ℕ) → ((b : ℕ) → b < 256 → stays code loop b ≡ true → next_by graph s b ≡ Some s) →
      (rest : List ℕ) (at : ℕ) (context : Option (ℕ × ℕ)) → IsBytes rest → Skips (stays code loop) s rest at context (looped code loop rest)
  skips_loop None s loops rest at context are = record {
    last = let e : at + 0 ≡ at = omega arith in rw e refl;
    reached = omega arith;
    fits = omega arith;
    stop = λ b after e. refl;
  }
  skips_loop (Some k) s loops rest at context are = skips (passes_test code.bit_tables k) s loops rest at context are

  next_at : (s : ℕ) (state : GraphState) (b : ℕ) → slice_get graph s ≡ Some state → next_by graph s b ≡ led_by state b
  next_at s state b is = rw is refl

  mark_here : (s : ℕ) (state : GraphState) → slice_get graph s ≡ Some state → mark_at graph s ≡ mark_made state.state_type
  mark_here s state is = rw is refl

  end_at : (s : ℕ) (state : GraphState) → slice_get graph s ≡ Some state → next_at_end graph s ≡ state.eoi
  end_at s state is = rw is refl

  -- the fast loop takes the bytes that lead back
  pub loops : (s : ℕ) (state : GraphState) (made : CodeState) → slice_get graph s ≡ Some state → Makes code s state made →
      (b : ℕ) → b < 256 → stays code made.fast_loop b ≡ true → next_by graph s b ≡ Some s
  loops s state made is makes b small e =
      next_at s state b is ∙ sym (makes.bytes b small) ∙ ap (λ o. if o then Some s else target code made.fork b) e

  pub forks : (s : ℕ) (state : GraphState) (made : CodeState) → slice_get graph s ≡ Some state → Makes code s state made →
      (b : ℕ) → b < 256 → stays code made.fast_loop b ≡ false → target code made.fork b ≡ next_by graph s b
  forks s state made is makes b small e =
      sym (next_at s state b is ∙ sym (makes.bytes b small) ∙ ap (λ o. if o then Some s else target code made.fork b) e)

  module _ (bytes : List ℕ) (are : IsBytes bytes) (start : ℕ) (starts : start < length bytes) where
    are_rest : (at : ℕ) → IsBytes (drop at bytes)
    are_rest at = All-drop (λ b. b < 256) at bytes are

    -- a status that is possible in this state
    abbrev pub Bound : GraphState → ℕ → Type 0
    Bound state at = (at ≤ length bytes) ⊎ ((at ≡ length bytes + 1) × (state.eoi ≡ None))

    -- the attempt continues, and finds the same there
    pub record ContinuesAt (at : Status) (what : Turn) : Type 0 where
      pub next : Status
      pub is : what ≡ enters next
      pub state : GraphState
      pub has : slice_get graph next.state ≡ Some state
      pub bound : Bound state next.offset
      pub moves : at.offset < next.offset
      pub last : last_of graph at.state (drop at.offset bytes) at.offset at.context ≡ last_of graph next.state (drop next.offset bytes) next.offset next.context
      pub reached : last_of graph next.state (drop next.offset bytes) next.offset next.context ≡ None →
          at.offset + reach graph at.state (drop at.offset bytes) ≡ next.offset + reach graph next.state (drop next.offset bytes)

    -- the attempt is over, and acts on the result
    pub record IsDone (at : Status) (what : Turn) : Type 0 where
      pub offset : ℕ
      pub is : what ≡ acts (last_of graph at.state (drop at.offset bytes) at.offset at.context) offset
      pub reached : at.offset + reach graph at.state (drop at.offset bytes) ≡ offset

    abbrev pub Turns : Status → Turn → Type 0
    Turns at what = ContinuesAt at what ⊎ IsDone at what

    -- a byte, or the end of the input
    byte_cases : (at : ℕ) → ((b : ℕ) × (at < length bytes) × (slice_get bytes at ≡ Some b) × (b < 256) × (drop at bytes ≡ b ∷ drop (at + 1) bytes)) ⊎ ((length bytes ≤ at) × (slice_get bytes at ≡ None) × (drop at bytes ≡ []))
    byte_cases at = ⊎_elim
        (λ u. inl (
          u.0,
          u.1,
          u.2,
          subst (λ b. b < 256) u.3 (are at u.0 u.1),
          drop_more bytes at u.0 u.1 ∙ ap (λ b. b ∷ drop (at + 1) bytes) u.3,
        ))
        (λ u. inr (u.0, u.1, drop_all at bytes u.0))
        (slice_get_cases bytes at).1

    -- after the fast loop
    after : (s : ℕ) (state : GraphState) (made : CodeState) → slice_get graph s ≡ Some state → Makes code s state made → IsClosed graph state →
        (at : ℕ) (context : Option (ℕ × ℕ)) → Bound state at →
        ((b : ℕ) (later : List ℕ) → drop at bytes ≡ b ∷ later → stays code made.fast_loop b ≡ false) →
        (fresh : Bool) → (length bytes ≤ at → fresh ≡ false) →
        Turns (record { state = s; offset = at; context = context }) (forked code made (slice_get bytes at) fresh at (marked made.mark at context))
    after s state made is makes closed at context bound stop fresh stale = ⊎_elim by_byte by_end (byte_cases at)
      where
        marks : marked made.mark at context ≡ passed graph s at context
        marks = ap (λ m. marked m at context) (makes.mark ∙ sym (mark_here s state is))

        by_byte : (b : ℕ) × (at < length bytes) × (slice_get bytes at ≡ Some b) × (b < 256) × (drop at bytes ≡ b ∷ drop (at + 1) bytes) →
            Turns (record { state = s; offset = at; context = context }) (forked code made (slice_get bytes at) fresh at (marked made.mark at context))
        by_byte u = go (next_by graph s u.0) refl
          where
            leads_to : target code made.fork u.0 ≡ next_by graph s u.0
            leads_to = forks s state made is makes u.0 u.3 (stop u.0 _ u.4)

            go : (o : Option ℕ) → next_by graph s u.0 ≡ o → Turns (record { state = s; offset = at; context = context }) (forked code made (slice_get bytes at) fresh at (marked made.mark at context))
            go (Some t) e =
                let there = closed.bytes u.0 t u.3 (sym (next_at s state u.0 is) ∙ e) in
                inl record {
                  next = record { state = t; offset = at + 1; context = passed graph s at context };
                  is = rw (u.2, leads_to, e, marks) refl;
                  state = there.0;
                  has = there.1;
                  bound = inl (omega (arith, u.1));
                  moves = omega arith;
                  last = rw u.4 (last_of-step graph s u.0 (drop (at + 1) bytes) at context t e);
                  reached = λ n. rw u.4 (let f = reach-step graph s u.0 (drop (at + 1) bytes) t e in omega arith);
                }
            go None e = inr record {
              offset = at;
              is = rw (u.2, leads_to, e, marks, u.4) (ap (λ c. acts c at) (sym (last_of-stuck graph s u.0 (drop (at + 1) bytes) at context e)));
              reached = rw u.4 (let f = reach-stuck graph s u.0 (drop (at + 1) bytes) e in omega arith);
            }

        by_end : (length bytes ≤ at) × (slice_get bytes at ≡ None) × (drop at bytes ≡ []) →
            Turns (record { state = s; offset = at; context = context }) (forked code made (slice_get bytes at) fresh at (marked made.mark at context))
        by_end u = go state.eoi refl
          where
            not_fresh : fresh ≡ false
            not_fresh = stale u.0

            ends : next_at_end graph s ≡ state.eoi
            ends = end_at s state is

            go : (o : Option ℕ) → state.eoi ≡ o → Turns (record { state = s; offset = at; context = context }) (forked code made (slice_get bytes at) fresh at (marked made.mark at context))
            go None e = inr record {
              offset = at;
              is = rw (u.1, u.2, not_fresh, makes.end, ends, e, marks) refl;
              reached = rw u.2 (omega arith);
            }
            go (Some t) e =
                let l = closed.end t e in
                let past : drop (at + 1) bytes ≡ [] = drop_all (at + 1) bytes (omega (arith, u.0)) in
                let no_end : next_at_end graph t ≡ None = end_at t l.state l.is ∙ l.no_end in
                let late : mark_at graph t ≡ Some (record { leaf = l.leaf; late = true }) = mark_here t l.state l.is ∙ l.late in
                inl record {
                  next = record { state = t; offset = at + 1; context = passed graph s at context };
                  is = rw (u.1, not_fresh, makes.end, e, marks) refl;
                  state = l.state;
                  has = l.is;
                  bound = inr (here bound, l.no_end);
                  moves = omega arith;
                  last = rw (u.2, past, ends, e, no_end) refl;
                  reached = λ n. absurd (some_none (rw (past, no_end, late) at n));
                }
              where
                here : Bound state at → at + 1 ≡ length bytes + 1
                here b = ⊎_elim (λ f. omega (arith, f, u.0)) (λ f. absurd (some_none (sym e ∙ f.1))) b

    pub turns : (at : Status) (state : GraphState) (made : CodeState) → slice_get graph at.state ≡ Some state → Makes code at.state state made → IsClosed graph state → Bound state at.offset →
        Turns at (turn code bytes start made at)
    turns at state made is makes closed bound = ⊎_elim
        (λ g. inl record {
          next = g.next;
          is = g.is;
          state = g.state;
          has = g.has;
          bound = g.bound;
          moves = let f = g.moves in omega arith;
          last = last ∙ g.last;
          reached = λ n. reached ∙ g.reached n;
        })
        (λ d. inr record {
          offset = d.offset;
          is = d.is ∙ ap (λ c. acts c d.offset) (sym last);
          reached = reached ∙ d.reached;
        })
        (after at.state state made is makes closed (at.offset + k) at.context (within bound) stop _ stale)
      where
        k : ℕ
        k = looped code made.fast_loop (drop at.offset bytes)

        skip : Skips (stays code made.fast_loop) at.state (drop at.offset bytes) at.offset at.context k
        skip = skips_loop made.fast_loop at.state (loops at.state state made is makes) (drop at.offset bytes) at.offset at.context (are_rest at.offset)

        dropped : drop k (drop at.offset bytes) ≡ drop (at.offset + k) bytes
        dropped = drop-drop k at.offset bytes

        last : last_of graph at.state (drop at.offset bytes) at.offset at.context ≡ last_of graph at.state (drop (at.offset + k) bytes) (at.offset + k) at.context
        last = skip.last ∙ ap (λ l. last_of graph at.state l (at.offset + k) at.context) dropped

        reached : at.offset + reach graph at.state (drop at.offset bytes) ≡ at.offset + k + reach graph at.state (drop (at.offset + k) bytes)
        reached = skip.reached ∙ ap (λ l. at.offset + k + reach graph at.state l) dropped

        stop : (b : ℕ) (later : List ℕ) → drop (at.offset + k) bytes ≡ b ∷ later → stays code made.fast_loop b ≡ false
        stop b later e = skip.stop b later (dropped ∙ e)

        fits : k ≤ length bytes - at.offset
        fits = let f = skip.fits in let g = length-drop at.offset bytes in omega arith

        within : Bound state at.offset → Bound state (at.offset + k)
        within (inl f) = inl (let g = fits in omega arith)
        within (inr f) = inr (let g = fits in let h = f.0 in (omega arith, f.1))

        stale : length bytes ≤ at.offset + k → (at.state == code.root && (at.offset + k == start)) ≡ false
        stale f = let e : (at.offset + k == start) ≡ false = ne_eqb (at.offset + k) start (λ g. omega arith) in rw e (and_false (at.state == code.root))
