-- Tokens: tokens that are read are written there, and tokens that are written are read.
use Rattle.std.proofs.Common.{◌≡◌, ℕ, Bool, true, false, cond, eqb, [], ◌∷◌, ◌++◌, Option, Some, None, option_map, refl, sym, ap, subst, ◌∙◌, ne_eqb}
use Rattle.std.proofs.lemmas.Bool.{eqb-true, eqb-false, cond-false}
use Rattle.logos_pattern_tokens.specs.declared.token.Atom.{Atom}
use Rattle.logos_pattern_tokens.specs.declared.token.Atom.TheVariants.{Character, Dot, Caret, Dollar}
use Rattle.logos_pattern_tokens.specs.declared.token.Change.{Change}
use Rattle.logos_pattern_tokens.specs.Flags.{no_change, Settings}
use Rattle.logos_pattern_tokens.specs.Token.{Text, Token, atom, bar, opens, closes, sets, capturing, named, plain, is_meta, cut_at, lazy_at, count_at}
use Rattle.logos_pattern_tokens.specs.Escapes.{escape_at}
use Rattle.logos_pattern_tokens.specs.Openings.{is_name, name_at, python_at, letters_from, no_letters, option_at, group_at}
use Rattle.logos_pattern_tokens.specs.Reader.{escape_token_at, token_at}
use Rattle.logos_pattern_tokens.specs.Spelling.{NotBegins, Lacks, star, plus, question, Escapes, Takes, bare, escaped, dot, caret, dollar, branch, open_capture, open_named, open_python, open_plain, open_flags, setting, close_group, greedy, lazy}
use Rattle.logos_pattern_tokens.proofs.Picks.{IsTaken, pick, pick_is, bind_taken, cut_found, cut_there}
use Rattle.logos_pattern_tokens.proofs.Counted.{lazy_taken, count_taken, lazy_no, lazy_yes, counts_are}
use Rattle.logos_pattern_tokens.proofs.EscapeLemmas.{escape_taken, escape_is}
use Rattle.logos_pattern_tokens.proofs.LetterLemmas.{Spelled, Completes, stops, goes, Ends, closes_setting, opens_group, letters_taken, completed, settings_of, completes_of, no_letter_at, not_end}

-- ---- each value that is read is written there

-- a name after these characters
name_taken : (front : Text → Text) → ((name rest : Text) → Lacks 62 name → is_name name ≡ true → Takes (opens (named name)) (front (name ++ 62 ∷ rest)) rest) → (t : Text) → IsTaken Takes (front t) (name_at t)
unfolding name_at
name_taken front rule t =
    bind_taken Takes _ (cut_at 62 t) (λ x. cond (is_name x.0) (Some (opens (named x.0), x.1)) None) _ (cut_found 62 t) (λ x h.
    pick Takes _ (is_name x.0) (Some (opens (named x.0), x.1)) None
    (λ is. subst (λ y. Takes (opens (named x.0)) (front y) x.1) (sym h.1) (rule x.0 x.1 h.0 is)) (λ _. tt))

python_taken : (t : Text) → IsTaken Takes (40 ∷ 63 ∷ 80 ∷ t) (python_at t)
unfolding python_at
python_taken [] = tt
python_taken (c ∷ rest) = pick_is Takes c 60 (λ x. 40 ∷ 63 ∷ 80 ∷ x ∷ rest) (name_at rest) None (name_taken (λ y. 40 ∷ 63 ∷ 80 ∷ 60 ∷ y) open_python rest) tt

flags_taken : (t : Text) (o : Option (Token × Text)) → IsTaken (λ token text rest. Spelled no_letters text token rest) t o → IsTaken Takes (40 ∷ 63 ∷ t) o
flags_taken t None h = tt
flags_taken t (Some x) h = from h.end x.0 x.1 h.ends h.is_text
  where
    from : (end : Text) (token : Token) (rest : Text) → Ends h.change end token rest → t ≡ h.letters ++ end → Takes token (40 ∷ 63 ∷ t) rest
    from end token rest (closes_setting change tail) e =
        subst (λ y. Takes (sets change) (40 ∷ 63 ∷ y) tail) (sym e) (setting h.letters tail change (settings_of h.letters h.change h.completes))
    from end token rest (opens_group change tail) e =
        subst (λ y. Takes (opens (plain change)) (40 ∷ 63 ∷ y) tail) (sym e) (open_flags h.letters tail change (settings_of h.letters h.change h.completes))

option_taken : (t : Text) → IsTaken Takes (40 ∷ 63 ∷ t) (option_at t)
unfolding option_at
option_taken [] = tt
option_taken (c ∷ rest) =
    let here : ℕ → Text = λ x. 40 ∷ 63 ∷ x ∷ rest in
    pick_is Takes c 58 here (Some (opens (plain no_change), rest)) _ (open_plain rest)
    (pick_is Takes c 60 here (name_at rest) _ (name_taken (λ y. 40 ∷ 63 ∷ 60 ∷ y) open_named rest)
    (pick_is Takes c 80 here (python_at rest) _ (python_taken rest)
    (flags_taken (c ∷ rest) (letters_from no_letters (c ∷ rest)) (letters_taken no_letters (c ∷ rest)))))

group_taken : (t : Text) → IsTaken Takes (40 ∷ t) (group_at t)
unfolding group_at
group_taken [] = open_capture [] tt
group_taken (c ∷ rest) =
    pick Takes (40 ∷ c ∷ rest) (eqb c 63) (option_at rest) (Some (opens capturing, c ∷ rest))
    (λ e. subst (λ x. IsTaken Takes (40 ∷ x ∷ rest) (option_at rest)) (sym (eqb-true c 63 e)) (option_taken rest))
    (λ e. open_capture (c ∷ rest) (eqb-false c 63 e))

escaped_taken : (t : Text) → IsTaken Takes (92 ∷ t) (escape_token_at t)
unfolding escape_token_at
escaped_taken t = from (escape_at t) (escape_taken t)
  where
    from : (o : Option (Atom × Text)) → IsTaken Escapes t o → IsTaken Takes (92 ∷ t) (option_map (λ x. (atom x.0, x.1)) o)
    from None h = tt
    from (Some x) h = escaped x.0 t x.1 h

-- a character that is not among the bare ones
other_char : (c : ℕ) → eqb c 124 ≡ false → eqb c 40 ≡ false → eqb c 41 ≡ false → eqb c 42 ≡ false → eqb c 43 ≡ false → eqb c 63 ≡ false → eqb c 123 ≡ false → eqb c 92 ≡ false → eqb c 46 ≡ false → eqb c 94 ≡ false → eqb c 36 ≡ false → eqb c 91 ≡ false → is_meta c ≡ false
other_char c a b d e f g h i j k l m =
    rw (sym_false c 92 i, sym_false c 46 j, sym_false c 43 f, sym_false c 42 e, sym_false c 63 g, sym_false c 40 b, sym_false c 41 d, sym_false c 124 a, sym_false c 91 m, sym_false c 123 h, sym_false c 94 k, sym_false c 36 l) refl
  where
    sym_false : (x y : ℕ) → eqb x y ≡ false → eqb y x ≡ false
    sym_false x y same = ne_eqb y x (λ z. eqb-false x y same (sym z))

pub is_taken : (t : Text) → IsTaken Takes t (token_at t)
unfolding token_at
is_taken [] = tt
is_taken (c ∷ rest) =
    let here : ℕ → Text = λ x. x ∷ rest in
    step 124 (Some (bar, rest)) _ (branch rest) (λ a.
    step 40 (group_at rest) _ (group_taken rest) (λ b.
    step 41 (Some (closes, rest)) _ (close_group rest) (λ d.
    step 42 (Some (lazy_at 0 None rest)) _ (lazy_taken (42 ∷ []) 0 None star rest) (λ e.
    step 43 (Some (lazy_at 1 None rest)) _ (lazy_taken (43 ∷ []) 1 None plus rest) (λ f.
    step 63 (Some (lazy_at 0 (Some 1) rest)) _ (lazy_taken (63 ∷ []) 0 (Some 1) question rest) (λ g.
    step 123 (count_at rest) _ (count_taken rest) (λ h.
    step 92 (escape_token_at rest) _ (escaped_taken rest) (λ i.
    step 46 (Some (atom Dot, rest)) _ (dot rest) (λ j.
    step 94 (Some (atom Caret, rest)) _ (caret rest) (λ k.
    step 36 (Some (atom Dollar, rest)) _ (dollar rest) (λ l.
    step 91 None _ tt (λ m. bare c rest (other_char c a b d e f g h i j k l m)))))))))))))
  where
    step : (d : ℕ) (x y : Option (Token × Text)) → IsTaken Takes (d ∷ rest) x → (eqb c d ≡ false → IsTaken Takes (c ∷ rest) y) → IsTaken Takes (c ∷ rest) (cond (eqb c d) x y)
    step d x y p q = pick Takes (c ∷ rest) (eqb c d) x y (λ e. subst (λ k. IsTaken Takes (k ∷ rest) x) (sym (eqb-true c d e)) p) q

-- ---- each value that is written is read

name_is : (name rest : Text) → Lacks 62 name → is_name name ≡ true → name_at (name ++ 62 ∷ rest) ≡ Some (opens (named name), rest)
unfolding name_at
name_is name rest lacks is = rw (cut_there 62 name rest lacks, is) refl

group_open : (rest : Text) → NotBegins 63 rest → group_at rest ≡ Some (opens capturing, rest)
unfolding group_at
group_open [] h = refl
group_open (c ∷ rest) h = let e : eqb c 63 ≡ false = ne_eqb c 63 h in rw e refl

-- a flag setting does not begin as a name or a plain group
option_else : (c : ℕ) (rest : Text) → eqb c 58 ≡ false → eqb c 60 ≡ false → eqb c 80 ≡ false → option_at (c ∷ rest) ≡ letters_from no_letters (c ∷ rest)
unfolding option_at
option_else c rest a b d = cond-false (eqb c 58) (Some (opens (plain no_change), rest)) _ a ∙ cond-false (eqb c 60) (name_at rest) _ b ∙ cond-false (eqb c 80) (python_at rest) (letters_from no_letters (c ∷ rest)) d

flag_front : (letters end : Text) (change : Change) → Completes no_letters letters change → option_at (letters ++ end) ≡ letters_from no_letters (letters ++ end)
flag_front letters end change (stops s done) = absurd cc
flag_front letters end change (goes s t c others last next k) =
    option_else c (others ++ end) (not_end no_letters t c 58 next (no_letter_at no_letters 58 refl refl)) (not_end no_letters t c 60 next (no_letter_at no_letters 60 refl refl))
    (not_end no_letters t c 80 next (no_letter_at no_letters 80 refl refl))

options : (t : Text) → token_at (40 ∷ 63 ∷ t) ≡ option_at t
unfolding token_at group_at
options t = refl

flags_are : (letters end rest : Text) (change : Change) (token : Token) → Settings letters change → Ends change end token rest → option_at (letters ++ end) ≡ Some (token, rest)
flags_are letters end rest change token set e =
    let k = completes_of letters change set in
    flag_front letters end change k ∙ completed no_letters letters change end rest token k e

bare_is : (c : ℕ) (rest : Text) → is_meta c ≡ false → token_at (c ∷ rest) ≡ Some (atom (Character c), rest)
unfolding token_at
bare_is c rest is =
    rw (no 124 refl, no 40 refl, no 41 refl, no 42 refl, no 43 refl, no 63 refl, no 123 refl, no 92 refl, no 46 refl, no 94 refl, no 36 refl, no 91 refl) refl
  where
    no : (d : ℕ) → is_meta d ≡ true → eqb c d ≡ false
    no d meta = from (eqb c d) refl
      where
        from : (b : Bool) → eqb c d ≡ b → b ≡ false
        from true e = let h : is_meta c ≡ is_meta d = ap is_meta (eqb-true c d e) in cc
        from false e = refl

escaped_is : (a : Atom) (text rest : Text) → Escapes a text rest → token_at (92 ∷ text) ≡ Some (atom a, rest)
unfolding token_at escape_token_at
escaped_is a text rest e = rw (escape_is a text rest e) refl

brace_is : (t : Text) → token_at (123 ∷ t) ≡ count_at t
unfolding token_at
brace_is t = refl

star_is : (t : Text) → token_at (42 ∷ t) ≡ Some (lazy_at 0 None t)
unfolding token_at
star_is t = refl

plus_is : (t : Text) → token_at (43 ∷ t) ≡ Some (lazy_at 1 None t)
unfolding token_at
plus_is t = refl

question_is : (t : Text) → token_at (63 ∷ t) ≡ Some (lazy_at 0 (Some 1) t)
unfolding token_at
question_is t = refl

group_front : (t : Text) → token_at (40 ∷ t) ≡ group_at t
unfolding token_at
group_front t = refl

name_front : (t : Text) → option_at (60 ∷ t) ≡ name_at t
unfolding option_at
name_front t = refl

python_front : (t : Text) → option_at (80 ∷ 60 ∷ t) ≡ name_at t
unfolding option_at python_at
python_front t = refl

plain_is : (t : Text) → option_at (58 ∷ t) ≡ Some (opens (plain no_change), t)
unfolding option_at
plain_is t = refl

pub taken_is : (t : Token) (text rest : Text) → Takes t text rest → token_at text ≡ Some (t, rest)
unfolding token_at
taken_is t text rest (bare c tail is) = bare_is c tail is
taken_is t text rest (escaped a inner tail e) = escaped_is a inner tail e
taken_is t text rest (dot tail) = refl
taken_is t text rest (caret tail) = refl
taken_is t text rest (dollar tail) = refl
taken_is t text rest (branch tail) = refl
taken_is t text rest (open_capture tail h) = group_front tail ∙ group_open tail h
taken_is t text rest (open_named name tail lacks is) = options (60 ∷ name ++ 62 ∷ tail) ∙ name_front (name ++ 62 ∷ tail) ∙ name_is name tail lacks is
taken_is t text rest (open_python name tail lacks is) = options (80 ∷ 60 ∷ name ++ 62 ∷ tail) ∙ python_front (name ++ 62 ∷ tail) ∙ name_is name tail lacks is
taken_is t text rest (open_plain tail) = options (58 ∷ tail) ∙ plain_is tail
taken_is t text rest (open_flags letters tail change set) = options (letters ++ 58 ∷ tail) ∙ flags_are letters (58 ∷ tail) tail change (opens (plain change)) set (opens_group change tail)
taken_is t text rest (setting letters tail change set) = options (letters ++ 41 ∷ tail) ∙ flags_are letters (41 ∷ tail) tail change (sets change) set (closes_setting change tail)
taken_is t text rest (close_group tail) = refl
taken_is t text rest (greedy s tail least most k h) = counts_are token_at star_is plus_is question_is brace_is s least most k tail ∙ ap Some (lazy_no least most tail h)
taken_is t text rest (lazy s tail least most k) = counts_are token_at star_is plus_is question_is brace_is s least most k (63 ∷ tail) ∙ ap Some (lazy_yes least most tail)
