-- In a sound code each step of a match attempt leads to a status that is possible there.
use Rattle.std.proofs.Common.{◌≡◌, ◌≢◌, ℕ, ◌+◌, ◌-◌, ◌<◌, ◌≤◌, ◌⊎◌, inl, inr, ⊎_elim, Bool, true, false, ◌&&◌, ◌==◌, IsTrue, IfSome, IsSomeAnd, List, length, drop, Option, Some, None, slice_get, refl, sym, ◌∙◌, subst, arith, length-drop, if◌then◌else◌}
use Rattle.std.specs.Option.{option_map_or}
use Rattle.std.proofs.lemmas.List.Folds.{length-prefix_len}
use Rattle.std.proofs.lemmas.List.Sums.{prefix_len-le-length}
use Rattle.std.proofs.lemmas.Option.{slice_get_within, get_or_from_slice_get, slice_get_cases}
use Rattle.std.proofs.lemmas.Bool.Decides.{eqb_tells}
use Rattle.logos_code.specs.Bytes.{passes_test}
use Rattle.logos_code.specs.Code.{CodeValue, CodeState, Mark}
use Rattle.logos_code.specs.CodeView.{state_at, no_state}
use Rattle.logos_code.specs.Headline.{IsSound, IsRoot, IsEnd, IsLate, NamesExisting}
use Rattle.logos_code.specs.Runs.{Status, enters, acts, returns, target, looped, marked, forked, Does}
use Rattle.logos_code.proofs.TargetLemmas.{All-slice_get, target_there}
use Rattle.logos_machine.specs.inside.IsAt.{IsMatch, IsContext, IsStatus}

some_none : {A : Type 0} {a : A} → None ≡ Some a → ⊥
some_none h = cc

pub looped-fits : (code : CodeValue) (loop : Option ℕ) (rest : List ℕ) → looped code loop rest ≤ length rest
looped-fits code None rest = omega arith
looped-fits code (Some k) rest =
    let p = passes_test code.bit_tables k in
    omega (arith, length-prefix_len p rest, prefix_len-le-length p rest)

acts_same : (c d : Option (ℕ × ℕ)) (o p : ℕ) → acts c o ≡ acts d p → (c ≡ d) × (o ≡ p)
acts_same c d o p e = (cc, cc)

enters_same : (s t : Status) → enters s ≡ enters t → s ≡ t
enters_same s t e = cc

module _ (code : CodeValue) (sound : IsSound code) (bytes : List ℕ) (start : ℕ) (starts : start ≤ length bytes) where
  abbrev IsAt : Status → Type 0
  IsAt = IsStatus code bytes start

  -- the root has no mark, and no late state is one step from it
  root_state : (state : CodeState) → slice_get code.states code.root ≡ Some state → IsRoot code state
  root_state state is = rw is at sound.root

  root_there : code.root < length code.states
  root_there = go (slice_get code.states code.root) refl sound.root
    where
      go : (o : Option CodeState) → slice_get code.states code.root ≡ o →
          IsSomeAnd o (IsRoot code) →
          code.root < length code.states
      go None e h = absurd h
      go (Some state) e h = slice_get_within code.states code.root state e

  -- the root is not late
  late_marked : (s : ℕ) (state : CodeState) → slice_get code.states s ≡ Some state → IsLate code s → IsSomeAnd state.mark (λ mark. IsTrue mark.late)
  late_marked s state is late = rw is at late

  marked_late : (s : ℕ) (state : CodeState) (mark : Mark) → slice_get code.states s ≡ Some state → state.mark ≡ Some mark → mark.late ≡ true → IsLate code s
  marked_late s state mark is marks l = rw (is, marks) l

  root_early : (s : ℕ) → s ≡ code.root → ¬ IsLate code s
  root_early s e late = go (slice_get code.states code.root) refl sound.root (subst (IsLate code) e late)
    where
      go : (o : Option CodeState) → slice_get code.states code.root ≡ o →
          IsSomeAnd o (IsRoot code) →
          IsLate code code.root → ⊥
      go None e h l = h
      go (Some state) e h l = rw h.mark at (late_marked code.root state e l)

  pub is_at_first : IsAt (record { state = code.root; offset = start; context = None })
  is_at_first = record {
    state = root_there;
    begun = omega arith;
    first = λ e. (refl, refl);
    second = λ late. absurd (root_early code.root refl late);
    within = inl starts;
    context = tt;
  }

  -- the facts that a status implies about its state
  module _ (at : Status) (s : IsAt at) (state : CodeState) (is : slice_get code.states at.state ≡ Some state) where
    names : NamesExisting code state
    names = All-slice_get (NamesExisting code) code.states at.state state sound.states is

    abbrev offset : ℕ
    offset = at.offset + looped code state.fast_loop (drop at.offset bytes)

    loop_fits : looped code state.fast_loop (drop at.offset bytes) ≤ length bytes - at.offset
    loop_fits = omega (arith, looped-fits code state.fast_loop (drop at.offset bytes), length-drop at.offset bytes)

    -- after the loop
    in_bytes : at.offset ≤ length bytes → offset ≤ length bytes
    in_bytes h = omega (arith, loop_fits)

    -- there is a byte, or the end
    byte_in : (b : ℕ) → slice_get bytes offset ≡ Some b → offset < length bytes
    byte_in b e = slice_get_within bytes offset b e

    not_first : at.state ≢ code.root → start < at.offset
    not_first other = let b = s.begun in ⊎_elim (λ h. h) (λ e. absurd (other (s.first e).0)) (order start at.offset b)
      where
        order : (a b : ℕ) → a ≤ b → (a < b) ⊎ (b ≡ a)
        order a b h = grind arith

    -- the mark of the state is a match
    marked_in : IsContext code bytes start (marked state.mark offset at.context)
    marked_in = go state.mark refl names.mark
      where
        go : (m : Option Mark) → state.mark ≡ m → IfSome m (λ mark. mark.leaf < length code.leaves) → IsContext code bytes start (marked m offset at.context)
        go None e there = s.context
        go (Some mark) e there = by_late mark.late refl
          where
            other : at.state ≢ code.root
            other same = clash (rw same at is)
              where
                clash : slice_get code.states code.root ≡ Some state → ⊥
                clash f = some_none (sym (root_state state f).mark ∙ e)

            by_late : (l : Bool) → mark.late ≡ l → IsMatch code bytes start mark.leaf (if l then offset - 1 else offset)
            by_late true l =
                let second = s.second (marked_late at.state state mark is e l) in
                (there, omega (arith, second), ⊎_elim (λ h. omega (arith, in_bytes h)) (λ h. omega (arith, h.offset, loop_fits)) s.within)
            by_late false l = (there, omega (arith, not_first other), ⊎_elim in_bytes (λ h. absurd (early h.late)) s.within)
              where
                early : IsLate code at.state → ⊥
                early late = clash (rw e at (late_marked at.state state is late))
                  where
                    clash : mark.late ≡ true → ⊥
                    clash f = let g : false ≡ true = sym l ∙ f in cc

    -- after the root's offset no late state is one step on
    second_at : (t : ℕ) → (at.state ≡ code.root → ¬ IsLate code t) → IsLate code t → start + 1 < offset + 1
    second_at t early late = let b = s.begun in ⊎_elim (λ h. omega (arith, h)) (λ e. absurd (early (s.first (omega (arith, e, b))).0 late)) (order start offset (omega (arith, b)))
      where
        order : (a b : ℕ) → a ≤ b → (a < b) ⊎ (b ≡ a)
        order a b h = grind arith

    by_byte : (b t : ℕ) (context : Option (ℕ × ℕ)) → slice_get bytes offset ≡ Some b → target code state.fork b ≡ Some t → IsContext code bytes start context →
        IsAt (record { state = t; offset = offset + 1; context = context })
    by_byte b t context there leads fits = record {
      state = target_there code state.fork b t names.fork leads;
      begun = let f = s.begun in omega (arith, f);
      first = λ e. absurd (let f = s.begun in omega (arith, e, f));
      second = second_at t (λ same. (root_state state (rw same at is)).fork b t leads);
      within = inl (omega (arith, byte_in b there));
      context = fits;
    }

    past : slice_get bytes offset ≡ None → length bytes ≤ offset
    past e = ⊎_elim (λ h. absurd (some_none (sym e ∙ h.2))) (λ h. h.0) (slice_get_cases bytes offset).1

    state_is : state_at code at.state ≡ state
    state_is = get_or_from_slice_get code.states at.state state no_state is

    by_end : (t : ℕ) (context : Option (ℕ × ℕ)) → slice_get bytes offset ≡ None → state.at_end ≡ Some t → IsContext code bytes start context →
        IsAt (record { state = t; offset = offset + 1; context = context })
    by_end t context there leads fits = record {
      state = rw leads at names.at_end;
      begun = let f = s.begun in omega (arith, f);
      first = λ e. absurd (let f = s.begun in omega (arith, e, f));
      second = second_at t (λ same. (root_state state (rw same at is)).at_end t leads);
      within = inr record {
        offset = let p = past there in ⊎_elim (λ h. omega (arith, in_bytes h, p)) (λ h. absurd (let m : state.at_end ≡ None = rw state_is at h.last in some_none (sym m ∙ leads))) s.within;
        late = ends.0;
        last = last (slice_get code.states t) refl ends.1;
      };
      context = fits;
    }
      where
        ends : IsLate code t × IsSomeAnd (slice_get code.states t) (λ next. next.at_end ≡ None)
        ends = rw leads at (All-slice_get (λ (state : CodeState). IsEnd code state.at_end) code.states at.state state sound.ends is)

        last : (o : Option CodeState) → slice_get code.states t ≡ o → IsSomeAnd o (λ next. next.at_end ≡ None) → (state_at code t).at_end ≡ None
        last None e h = absurd h
        last (Some next) e h = rw (get_or_from_slice_get code.states t next no_state e) h

    abbrev fresh : Bool
    fresh = at.state == code.root && offset == start

    abbrev passed : Option (ℕ × ℕ)
    passed = marked state.mark offset at.context

    goes : (next : Status) → forked code state (slice_get bytes offset) fresh offset passed ≡ enters next → IsAt next × (at.offset < next.offset)
    goes next = by_byte_or_end (slice_get bytes offset) refl
      where
        is_next : (t : ℕ) → IsAt (record { state = t; offset = offset + 1; context = passed }) → enters (record { state = t; offset = offset + 1; context = passed }) ≡ enters next → IsAt next × (at.offset < next.offset)
        is_next t there e =
            let same : Path Status (record { state = t; offset = offset + 1; context = passed }) next = enters_same _ next e in
            subst (λ (n : Status). IsAt n × (at.offset < n.offset)) same (there, omega arith)

        by_byte_or_end : (o : Option ℕ) → slice_get bytes offset ≡ o → forked code state o fresh offset passed ≡ enters next → IsAt next × (at.offset < next.offset)
        by_byte_or_end (Some b) there = on (target code state.fork b) refl
          where
            on : (o : Option ℕ) → target code state.fork b ≡ o →
                option_map_or (λ t. enters (record { state = t; offset = offset + 1; context = passed })) o (acts passed offset) ≡ enters next → IsAt next × (at.offset < next.offset)
            on None leads e = absurd (cc)
            on (Some t) leads e = is_next t (by_byte b t passed there leads marked_in) e
        by_byte_or_end None there = begun fresh
          where
            on : (o : Option ℕ) → state.at_end ≡ o →
                option_map_or (λ t. enters (record { state = t; offset = offset + 1; context = passed })) o (acts passed offset) ≡ enters next → IsAt next × (at.offset < next.offset)
            on None leads e = absurd (cc)
            on (Some t) leads e = is_next t (by_end t passed there leads marked_in) e

            begun : (f : Bool) → (if f then returns else option_map_or (λ t. enters (record { state = t; offset = offset + 1; context = passed })) state.at_end (acts passed offset)) ≡ enters next →
                IsAt next × (at.offset < next.offset)
            begun true e = absurd (cc)
            begun false e = on state.at_end refl e

    -- the match on which an attempt can act, or none, and then there is a byte after the
    -- start
    record ActsWithin (context : Option (ℕ × ℕ)) (end : ℕ) : Type 0 where
      pub match : IsContext code bytes start context
      pub rest : context ≡ None → (start < length bytes) × (end ≤ length bytes)

    fresh_is : at.state ≡ code.root → offset ≡ start → fresh ≡ true
    fresh_is same e = rw (same_true at.state code.root same, same_true offset start e) refl
      where
        same_true : (a b : ℕ) → a ≡ b → (a == b) ≡ true
        same_true a b e = ⊎_elim (λ h. h.0) (λ h. absurd (h.1 e)) (eqb_tells a b)

    unmarked : passed ≡ None → state.mark ≡ None
    unmarked e = go state.mark refl e
      where
        go : (m : Option Mark) → state.mark ≡ m → marked m offset at.context ≡ None → state.mark ≡ None
        go None f e = f
        go (Some mark) f e = absurd (cc)

    -- nothing is passed, so no offset past the input is reached
    in_input : passed ≡ None → at.offset ≤ length bytes
    in_input e = ⊎_elim (λ h. h) (λ h. absurd (rw (unmarked e) at (late_marked at.state state is h.late))) s.within

    does_act : (context : Option (ℕ × ℕ)) (end : ℕ) → forked code state (slice_get bytes offset) fresh offset passed ≡ acts context end → ActsWithin context end
    does_act context end = by_byte_or_end (slice_get bytes offset) refl
      where
        is_here : (passed ≡ None → start < length bytes) → acts passed offset ≡ acts context end → ActsWithin context end
        is_here room e =
            let same = acts_same passed context offset end e in
            subst (λ c. ActsWithin c end) same.0 (subst (λ o. ActsWithin passed o) same.1 record { match = marked_in; rest = λ n. (room n, in_bytes (in_input n)) })

        by_byte_or_end : (o : Option ℕ) → slice_get bytes offset ≡ o → forked code state o fresh offset passed ≡ acts context end → ActsWithin context end
        by_byte_or_end (Some b) there = on (target code state.fork b)
          where
            on : (o : Option ℕ) → option_map_or (λ t. enters (record { state = t; offset = offset + 1; context = passed })) o (acts passed offset) ≡ acts context end → ActsWithin context end
            on None e = is_here (λ n. let b = byte_in b there in let f = s.begun in omega (arith, b, f)) e
            on (Some t) e = absurd (cc)
        by_byte_or_end None there = begun fresh refl
          where
            on : fresh ≡ false → (o : Option ℕ) → option_map_or (λ t. enters (record { state = t; offset = offset + 1; context = passed })) o (acts passed offset) ≡ acts context end → ActsWithin context end
            on stale None e = is_here (λ n. room n) e
              where
                room : passed ≡ None → start < length bytes
                room n = ⊎_elim (λ h. h) (λ h. absurd (clash h)) (order start (length bytes) starts)
                  where
                    order : (a b : ℕ) → a ≤ b → (a < b) ⊎ (a ≡ b)
                    order a b h = grind arith

                    clash : start ≡ length bytes → ⊥
                    clash h =
                        let begun = s.begun in
                        let fits = in_input n in
                        let here : at.offset ≡ start = omega (arith, h, begun, fits) in
                        let there : offset ≡ start = omega (arith, h, in_bytes fits, past there, begun) in
                        let f : true ≡ false = sym (fresh_is (s.first here).0 there) ∙ stale in
                        cc
            on stale (Some t) e = absurd (cc)

            begun : (f : Bool) → fresh ≡ f → (if f then returns else option_map_or (λ t. enters (record { state = t; offset = offset + 1; context = passed })) state.at_end (acts passed offset)) ≡ acts context end →
                ActsWithin context end
            begun true f e = absurd (cc)
            begun false f e = on f state.at_end e

    does_return : forked code state (slice_get bytes offset) fresh offset passed ≡ returns → length bytes ≤ start
    does_return = by_byte_or_end (slice_get bytes offset) refl
      where
        by_byte_or_end : (o : Option ℕ) → slice_get bytes offset ≡ o → forked code state o fresh offset passed ≡ returns → length bytes ≤ start
        by_byte_or_end (Some b) there = on (target code state.fork b)
          where
            on : (o : Option ℕ) → option_map_or (λ t. enters (record { state = t; offset = offset + 1; context = passed })) o (acts passed offset) ≡ returns → length bytes ≤ start
            on None e = absurd (cc)
            on (Some t) e = absurd (cc)
        by_byte_or_end None there = begun (at.state == code.root) (offset == start) (eqb_tells offset start)
          where
            on : (o : Option ℕ) → option_map_or (λ t. enters (record { state = t; offset = offset + 1; context = passed })) o (acts passed offset) ≡ returns → length bytes ≤ start
            on None e = absurd (cc)
            on (Some t) e = absurd (cc)

            begun : (f g : Bool) → ((g ≡ true) × (offset ≡ start)) ⊎ ((g ≡ false) × (offset ≢ start)) →
                (if f && g then returns else option_map_or (λ t. enters (record { state = t; offset = offset + 1; context = passed })) state.at_end (acts passed offset)) ≡ returns →
                length bytes ≤ start
            begun true true (inl h) e = omega (arith, past there, h.1)
            begun true true (inr h) e = absurd (let f : true ≡ false = h.0 in cc)
            begun true false h e = on state.at_end e
            begun false g h e = on state.at_end e

  -- the state that is entered there
  pub is_at_next : (at next : Status) → IsAt at → Does code bytes start at (enters next) → IsAt next × (at.offset < next.offset)
  is_at_next at next s d = goes at s d.0 d.1 next d.2

  pub is_at_match : (at : Status) (context : Option (ℕ × ℕ)) (end : ℕ) → IsAt at → Does code bytes start at (acts context end) → IsContext code bytes start context
  is_at_match at context end s d = let a = does_act at s d.0 d.1 context end d.2 in a.match

  pub is_at_fault : (at : Status) (end : ℕ) → IsAt at → Does code bytes start at (acts None end) → (start < length bytes) × (end ≤ length bytes)
  is_at_fault at end s d = let a = does_act at s d.0 d.1 None end d.2 in a.rest refl

  pub is_at_over : (at : Status) → IsAt at → Does code bytes start at returns → length bytes ≤ start
  is_at_over at s d = does_return at s d.0 d.1 d.2

-- the root has no mark
pub unmarked_root : (code : CodeValue) → IsSound code → (bytes : List ℕ) (s : ℕ) (state : CodeState) {mark : Mark} → s ≡ code.root → slice_get code.states s ≡ Some state → state.mark ≡ Some mark → ⊥
unmarked_root code sound bytes s state e is marks =
    let here : slice_get code.states code.root ≡ Some state = rw e at is in
    let root : IsRoot code state = rw here at sound.root in
    some_none (sym root.mark ∙ marks)
