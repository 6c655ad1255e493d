-- Flag settings: settings that are read are written there, and settings that are written are read.
use Rattle.std.proofs.Common.{◌≡◌, ℕ, ◌<◌, ◌⊎◌, inl, inr, Bool, true, false, cond, eqb, [], ◌∷◌, ◌++◌, length, Option, Some, None, option_map, refl, sym, ap, subst, ◌∙◌, arith, append-nil}
use Rattle.std.proofs.lemmas.Bool.{eqb-true}
use Rattle.logos_pattern_tokens.specs.declared.token.Change.{Change}
use Rattle.logos_pattern_tokens.specs.declared.openings.Letters.{Letters}
use Rattle.logos_pattern_tokens.specs.Flags.{no_change, with_letter, Letters as Turns, no_letter, a_letter, Settings, only_on, some_off}
use Rattle.logos_pattern_tokens.specs.Token.{Text, Token, opens, sets, plain, ◌>>=◌}
use Rattle.logos_pattern_tokens.specs.Openings.{dash, next_letter, setting_end, letters_from, no_letters}
use Rattle.logos_pattern_tokens.proofs.Picks.{IsTaken, pick, pick_is}

-- the letters are read from this state on, to this change
pub data Completes : Letters → Text → Change → Type 0 where
  stops : (s : Letters) → s.pending ≡ false → Completes s [] s.change
  goes : (s t : Letters) (c : ℕ) (letters : Text) (change : Change) → next_letter s c ≡ Some t → Completes t letters change → Completes s (c ∷ letters) change

-- the end of the letters
pub data Ends : Change → Text → Token → Text → Type 0 where
  closes_setting : (change : Change) (rest : Text) → Ends change (41 ∷ rest) (sets change) rest
  opens_group : (change : Change) (rest : Text) → Ends change (58 ∷ rest) (opens (plain change)) rest

-- the text is letters and their end
pub record Spelled (s : Letters) (text : Text) (token : Token) (rest : Text) : Type 0 where
  pub letters : Text
  pub change : Change
  pub end : Text
  pub completes : Completes s letters change
  pub ends : Ends change end token rest
  pub is_text : text ≡ letters ++ end

abbrev Reads : Letters → Token → Text → Text → Type 0
Reads s token text rest = Spelled s text token rest

ended_taken : (s : Letters) (token : Token) (text rest : Text) → Ends s.change text token rest → IsTaken (Reads s) text (setting_end s token rest)
unfolding setting_end
ended_taken s token text rest e =
    pick (Reads s) text s.pending None (Some (token, rest)) (λ _. tt) (λ done. record { letters = []; change = s.change; end = text; completes = stops s done; ends = e; is_text = refl })

one_more : (s t : Letters) (c : ℕ) (text : Text) (o : Option (Token × Text)) → next_letter s c ≡ Some t → IsTaken (Reads t) text o → IsTaken (Reads s) (c ∷ text) o
one_more s t c text None next h = tt
one_more s t c text (Some x) next h =
    record { letters = c ∷ h.letters; change = h.change; end = h.end; completes = goes s t c h.letters h.change next h.completes; ends = h.ends; is_text = ap (λ (y : Text). c ∷ y) h.is_text }

pub letters_taken : (s : Letters) (text : Text) → IsTaken (Reads s) text (letters_from s text)
letters_taken s [] = tt
letters_taken s (c ∷ rest) =
    let here : ℕ → Text = λ x. x ∷ rest in
    pick_is (Reads s) c 41 here (setting_end s (sets s.change) rest) _ (ended_taken s (sets s.change) (41 ∷ rest) rest (closes_setting s.change rest))
    (pick_is (Reads s) c 58 here (setting_end s (opens (plain s.change)) rest) _ (ended_taken s (opens (plain s.change)) (58 ∷ rest) rest (opens_group s.change rest))
    (from (λ t. letters_taken t rest) (next_letter s c) refl))
  where
    from : ((t : Letters) → IsTaken (Reads t) rest (letters_from t rest)) → (o : Option Letters) → next_letter s c ≡ o → IsTaken (Reads s) (c ∷ rest) (o >>= λ t. letters_from t rest)
    from more None is = tt
    from more (Some t) is = one_more s t c rest (letters_from t rest) is (more t)

-- ---- each value that is written is read

pub not_end : (s t : Letters) (c d : ℕ) → next_letter s c ≡ Some t → next_letter s d ≡ None → eqb c d ≡ false
not_end s t c d some none = from (eqb c d) refl
  where
    from : (b : Bool) → eqb c d ≡ b → b ≡ false
    from true e = let h : next_letter s c ≡ next_letter s d = ap (next_letter s) (eqb-true c d e) in absurd cc
    from false e = refl

pub no_letter_at : (s : Letters) (d : ℕ) → eqb d 45 ≡ false → with_letter s.change s.on d ≡ None → next_letter s d ≡ None
unfolding next_letter
no_letter_at s d e none = rw (e, none) refl

ended_is : (s : Letters) (token : Token) (rest : Text) → s.pending ≡ false → setting_end s token rest ≡ Some (token, rest)
unfolding setting_end
ended_is s token rest e = rw e refl

ends_are : (s : Letters) (end rest : Text) (token : Token) → s.pending ≡ false → Ends s.change end token rest → letters_from s end ≡ Some (token, rest)
ends_are s end rest token done e = from s.change refl end rest token e
  where
    from : (change : Change) → s.change ≡ change → (end rest : Text) (token : Token) → Ends change end token rest → letters_from s end ≡ Some (token, rest)
    from change same end rest token (closes_setting other tail) = ended_is s (sets s.change) tail done ∙ ap (λ (x : Change). Some (sets x, tail)) same
    from change same end rest token (opens_group other tail) = ended_is s (opens (plain s.change)) tail done ∙ ap (λ (x : Change). Some (opens (plain x), tail)) same

letters_step : (s t : Letters) (c : ℕ) (rest : Text) → next_letter s c ≡ Some t → letters_from s (c ∷ rest) ≡ letters_from t rest
letters_step s t c rest next =
    let a : eqb c 41 ≡ false = not_end s t c 41 next (no_letter_at s 41 refl refl) in
    let b : eqb c 58 ≡ false = not_end s t c 58 next (no_letter_at s 58 refl refl) in
    rw (a, b, next) refl

pub completed : (s : Letters) (letters : Text) (change : Change) (end rest : Text) (token : Token) → Completes s letters change → Ends change end token rest → letters_from s (letters ++ end) ≡ Some (token, rest)
completed s letters change end rest token (stops t done) e = ends_are t end rest token done e
completed s letters change end rest token (goes u t c more last next k) e = letters_step u t c (more ++ end) next ∙ completed t more last end rest token k e

-- ---- states and settings

dash_next : (s : Letters) → next_letter s 45 ≡ dash s
unfolding next_letter
dash_next s = refl

dash_is : (s : Letters) → s.on ≡ true → dash s ≡ Some (record s { on = false; pending = true })
unfolding dash
dash_is s e = rw e refl

dash_none : (s : Letters) → s.on ≡ false → dash s ≡ None
unfolding dash
dash_none s e = rw e refl

letter_next : (s : Letters) (c : ℕ) (next : Change) → with_letter s.change s.on c ≡ Some next → next_letter s c ≡ Some (record s { change = next; pending = false })
unfolding next_letter
letter_next s c next is = let other : eqb c 45 ≡ false = from (eqb c 45) refl in rw (other, is) refl
  where
    from : (b : Bool) → eqb c 45 ≡ b → b ≡ false
    from true e = let h : with_letter s.change s.on c ≡ with_letter s.change s.on 45 = ap (with_letter s.change s.on) (eqb-true c 45 e) in absurd cc
    from false e = refl

-- the cases of a step
pub data Step (s t : Letters) (c : ℕ) : Type 0 where
  by_dash : c ≡ 45 → s.on ≡ true → t ≡ record s { on = false; pending = true } → Step s t c
  by_letter : (next : Change) → with_letter s.change s.on c ≡ Some next → t ≡ record s { change = next; pending = false } → Step s t c

step_of : (s t : Letters) (c : ℕ) → next_letter s c ≡ Some t → Step s t c
unfolding next_letter dash
step_of s t c is = from (eqb c 45) refl is
  where
    at_dash : c ≡ 45 → (b : Bool) → s.on ≡ b → cond b (Some (record s { on = false; pending = true })) None ≡ Some t → Step s t c
    at_dash e true on h = by_dash e on (let same : record s { on = false; pending = true } ≡ t = cc in sym same)
    at_dash e false on h = absurd cc

    at_letter : (o : Option Change) → with_letter s.change s.on c ≡ o → option_map (λ change. record s { change = change; pending = false }) o ≡ Some t → Step s t c
    at_letter None e h = absurd cc
    at_letter (Some next) e h = by_letter next e (let same : record s { change = next; pending = false } ≡ t = cc in sym same)

    from : (b : Bool) → eqb c 45 ≡ b → cond b (cond s.on (Some (record s { on = false; pending = true })) None) (option_map (λ change. record s { change = change; pending = false }) (with_letter s.change s.on c)) ≡ Some t → Step s t c
    from true e h = at_dash (eqb-true c 45 e) s.on refl h
    from false e h = at_letter (with_letter s.change s.on c) refl h

-- letters after the dash
record Off (s : Letters) (letters : Text) (change : Change) : Type 0 where
  turns : Turns s.change false letters change
  some : s.pending ≡ true → 0 < length letters

off_state : (s : Letters) (letters : Text) (change : Change) → s.on ≡ false → Completes s letters change → Off s letters change
off_state s letters change off (stops t done) = record { turns = no_letter t.change false; some = λ e. absurd cc }
off_state s letters change off (goes u t c others last next k) = from (λ e. off_state t others last e k) (step_of u t c next)
  where
    from : (t.on ≡ false → Off t others last) → Step u t c → Off u (c ∷ others) last
    from more (by_dash e on same) = absurd cc
    from more (by_letter mid is same) =
        let rest = more (ap (λ (x : Letters). x.on) same ∙ off) in
        record {
          turns = a_letter u.change mid last false c others (ap (λ b. with_letter u.change b c) (sym off) ∙ is) (subst (λ x. Turns x false others last) (ap (λ (x : Letters). x.change) same) rest.turns);
          some = λ e. omega arith;
        }

-- letters before the dash, or without one
data On (s : Letters) (letters : Text) (change : Change) : Type 0 where
  all_on : Turns s.change true letters change → (s.pending ≡ true → 0 < length letters) → On s letters change
  then_off : (front off : Text) (half : Change) → letters ≡ front ++ 45 ∷ off → Turns s.change true front half → Turns half false off change → 0 < length off → On s letters change

on_state : (s : Letters) (letters : Text) (change : Change) → s.on ≡ true → Completes s letters change → On s letters change
on_state s letters change on (stops t done) = all_on (no_letter t.change true) (λ e. absurd cc)
on_state s letters change on (goes u t c others last next k) = from (λ e. on_state t others last e k) (λ e. off_state t others last e k) (step_of u t c next)
  where
    after : (mid : Change) → with_letter u.change true c ≡ Some mid → t.change ≡ mid → On t others last → On u (c ∷ others) last
    after mid is same (all_on turns some) = all_on (a_letter u.change mid last true c others is (subst (λ x. Turns x true others last) same turns)) (λ e. omega arith)
    after mid is same (then_off front off half e turns offs some) =
        then_off (c ∷ front) off half (ap (λ (x : Text). c ∷ x) e) (a_letter u.change mid half true c front is (subst (λ x. Turns x true front half) same turns)) offs some

    from : (t.on ≡ true → On t others last) → (t.on ≡ false → Off t others last) → Step u t c → On u (c ∷ others) last
    from more less (by_dash e was same) =
        let rest = less (ap (λ (x : Letters). x.on) same) in
        then_off [] others u.change (ap (λ k. k ∷ others) e) (no_letter u.change true) (subst (λ x. Turns x false others last) (ap (λ (x : Letters). x.change) same) rest.turns) (rest.some (ap (λ (x : Letters). x.pending) same))
    from more less (by_letter mid is same) =
        after mid (ap (λ b. with_letter u.change b c) (sym on) ∙ is) (ap (λ (x : Letters). x.change) same) (more (ap (λ (x : Letters). x.on) same ∙ on))

pub settings_of : (letters : Text) (change : Change) → Completes no_letters letters change → Settings letters change
settings_of letters change k = from (on_state no_letters letters change refl k)
  where
    from : On no_letters letters change → Settings letters change
    from (all_on turns some) = only_on letters change (some refl) turns
    from (then_off front off half e turns offs some) = subst (λ x. Settings x change) (sym e) (some_off front off half change some turns offs)

-- the letters are read, and the text after them
letters_turn : (change last : Change) (on : Bool) (letters : Text) → Turns change on letters last → (pending : Bool) (tail : Text) (final : Change) →
    ((p : Bool) → ((0 < length letters) ⊎ (pending ≡ false) → p ≡ false) → Completes (record { change = last; on = on; pending = p }) tail final) →
    Completes (record { change = change; on = on; pending = pending }) (letters ++ tail) final
letters_turn change last on letters (no_letter same value) pending tail final then = then pending (λ h. from h)
  where
    from : ((0 < length {A = ℕ} []) ⊎ (pending ≡ false)) → pending ≡ false
    from (inl h) = absurd (omega arith)
    from (inr e) = e
letters_turn change last on letters (a_letter now next end value letter others is turns) pending tail final then =
    goes (record { change = now; on = value; pending = pending }) (record { change = next; on = value; pending = false }) letter (others ++ tail) final
    (letter_next (record { change = now; on = value; pending = pending }) letter next is)
    (letters_turn next end value others turns false tail final (λ p h. then p (λ _. h (inr refl))))

pub completes_of : (letters : Text) (change : Change) → Settings letters change → Completes no_letters letters change
completes_of letters change (only_on on last some turns) =
    subst (λ x. Completes no_letters x last) (append-nil on)
    (letters_turn no_change last true on turns true [] last (λ p h. stops (record { change = last; on = true; pending = p }) (h (inl some))))
completes_of letters change (some_off on off half last some turns offs) =
    letters_turn no_change half true on turns true (45 ∷ off) last (λ p h.
    let s : Letters = record { change = half; on = true; pending = p } in
    goes s (record { change = half; on = false; pending = true }) 45 off last (dash_next s ∙ dash_is s refl)
    (subst (λ x. Completes (record { change = half; on = false; pending = true }) x last) (append-nil off)
    (letters_turn half last false off offs true [] last (λ q k. stops (record { change = last; on = false; pending = q }) (k (inl some))))))
