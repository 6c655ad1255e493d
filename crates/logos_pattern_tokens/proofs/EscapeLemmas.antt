-- Escapes: escapes that are read are written there, and escapes that are written are read.
use Rattle.std.proofs.Common.{◌≡◌, ◌≢◌, ℕ, ◌+◌, ◌*◌, ◌<◌, Bool, true, false, ◌||◌, cond, eqb, leb, [], ◌∷◌, ◌++◌, length, take, drop, Option, Some, None, option_map, refl, sym, ap, subst, ◌∙◌, arith, length-append, length-take, leb-true, le-leb, ne_eqb}
use Rattle.std.proofs.lemmas.Bool.{eqb-true, eqb-false}
use Rattle.std.proofs.lemmas.List.{take-append-drop, take_at, drop_at}
use Rattle.unicode.specs.declared.sets.Set.{Set}
use Rattle.logos_pattern_tokens.specs.declared.token.Atom.{Atom}
use Rattle.logos_pattern_tokens.specs.declared.token.Atom.TheVariants.{Character, Byte, Boundary, Property}
use Rattle.logos_pattern_tokens.specs.Token.{Text, ◌>>=◌, is_among, hex_digit, hex_from, scalar_of, only_scalar, cut_at}
use Rattle.logos_pattern_tokens.specs.Escapes.{single_of, plain_property, property_of, property_at, braces_at, fixed_at, byte_at, hex_at, boundary_at, single_at, escape_at}
use Rattle.logos_pattern_tokens.specs.Spelling.{NotBegins, Lacks, property_letter, Escapes, single, two_digits, four_digits, eight_digits, any_digits, boundary, property, named_property}
use Rattle.logos_pattern_tokens.proofs.Picks.{IsTaken, pick, pick_is, bind_taken, map_taken, apart, cut_found, cut_there}

-- ---- each value that is read is written there

property_of_taken : (text : Text) (negated : Bool) (name rest : Text) → ((set : Set) → plain_property name ≡ Some set → Escapes (Property set negated) text rest) → IsTaken Escapes text (property_of negated name rest)
unfolding property_of
property_of_taken text negated name rest h = map_taken Escapes text (plain_property name) (λ set. (Property set negated, rest)) h

property_taken : (negated : Bool) (t : Text) → IsTaken Escapes (property_letter negated ∷ t) (property_at negated t)
unfolding property_at
property_taken negated [] = tt
property_taken negated (c ∷ rest) =
    pick Escapes (property_letter negated ∷ c ∷ rest) (eqb c 123) (cut_at 125 rest >>= (λ x. property_of negated x.0 x.1)) (property_of negated (c ∷ []) rest)
    (λ e. bind_taken Escapes _ (cut_at 125 rest) (λ x. property_of negated x.0 x.1) _ (cut_found 125 rest) (λ x h.
    property_of_taken _ negated x.0 x.1 (λ set is.
    subst (λ y. Escapes (Property set negated) (property_letter negated ∷ y) x.1) (ap (λ k. k ∷ x.0 ++ 125 ∷ x.1) (sym (eqb-true c 123 e)) ∙ ap (λ (y : Text). c ∷ y) (sym h.1)) (named_property negated x.0 x.1 set h.0 is))))
    (λ e. property_of_taken _ negated (c ∷ []) rest (λ set is. property negated c rest set (eqb-false c 123 e) is))

braced_taken : (letter : ℕ) → is_among letter (120 ∷ 117 ∷ 85 ∷ []) ≡ true → (t : Text) → IsTaken Escapes (letter ∷ 123 ∷ t) (braces_at t)
unfolding braces_at
braced_taken letter among t =
    bind_taken Escapes _ (cut_at 125 t) (λ x. cond (eqb (length x.0) 0) None (option_map (λ n. (Character n, x.1)) (scalar_of x.0))) _ (cut_found 125 t) (λ x h.
    pick Escapes _ (eqb (length x.0) 0) None (option_map (λ n. (Character n, x.1)) (scalar_of x.0)) (λ _. tt)
    (λ some. map_taken Escapes _ (scalar_of x.0) (λ n. (Character n, x.1)) (λ n is.
    subst (λ y. Escapes (Character n) (letter ∷ 123 ∷ y) x.1) (sym h.1) (any_digits letter x.0 x.1 n among (let ne = eqb-false (length x.0) 0 some in omega arith) is))))

fixed_taken : (letter width : ℕ) → ((digits rest : Text) (n : ℕ) → length digits ≡ width → scalar_of digits ≡ Some n → Escapes (Character n) (letter ∷ digits ++ rest) rest) → (t : Text) → IsTaken Escapes (letter ∷ t) (fixed_at width t)
unfolding fixed_at
fixed_taken letter width rule t =
    pick Escapes _ (leb width (length t)) (option_map (λ n. (Character n, drop width t)) (scalar_of (take width t))) None
    (λ e. map_taken Escapes _ (scalar_of (take width t)) (λ n. (Character n, drop width t)) (λ n is.
    subst (λ y. Escapes (Character n) (letter ∷ y) (drop width t)) (take-append-drop width t)
    (rule (take width t) (drop width t) n (let le = leb-true _ _ e in omega (arith, length-take width t)) is)))
    (λ _. tt)

byte_taken : (t : Text) → IsTaken Escapes (120 ∷ t) (byte_at t)
unfolding byte_at
byte_taken t =
    pick Escapes _ (leb 2 (length t)) (option_map (λ n. (Byte n, drop 2 t)) (hex_from 0 (take 2 t))) None
    (λ e. map_taken Escapes _ (hex_from 0 (take 2 t)) (λ n. (Byte n, drop 2 t)) (λ n is.
    subst (λ y. Escapes (Byte n) (120 ∷ y) (drop 2 t)) (take-append-drop 2 t)
    (two_digits (take 2 t) (drop 2 t) n (let le = leb-true _ _ e in omega (arith, length-take 2 t)) is)))
    (λ _. tt)

one_of_three : (P : ℕ → Type 0) (letter a b c : ℕ) → is_among letter (a ∷ b ∷ c ∷ []) ≡ true → P a → P b → P c → P letter
one_of_three P letter a b c among pa pb pc = first (eqb a letter) refl among
  where
    third : (x : Bool) → eqb c letter ≡ x → (x || false) ≡ true → P letter
    third true e h = subst P (eqb-true c letter e) pc
    third false e h = absurd cc

    second : (x : Bool) → eqb b letter ≡ x → (x || (eqb c letter || false)) ≡ true → P letter
    second true e h = subst P (eqb-true b letter e) pb
    second false e h = third (eqb c letter) refl h

    first : (x : Bool) → eqb a letter ≡ x → (x || (eqb b letter || (eqb c letter || false))) ≡ true → P letter
    first true e h = subst P (eqb-true a letter e) pa
    first false e h = second (eqb b letter) refl h

hex_taken : (letter : ℕ) → is_among letter (120 ∷ 117 ∷ 85 ∷ []) ≡ true → (t : Text) → IsTaken Escapes (letter ∷ t) (hex_at letter t)
unfolding hex_at
hex_taken letter among [] = tt
hex_taken letter among (c ∷ rest) =
    pick_is Escapes c 123 (λ x. letter ∷ x ∷ rest) (braces_at rest) _ (braced_taken letter among rest)
    (let P : ℕ → Type 0 = λ k. IsTaken Escapes (k ∷ c ∷ rest) (cond (eqb k 120) (byte_at (c ∷ rest)) (cond (eqb k 117) (fixed_at 4 (c ∷ rest)) (fixed_at 8 (c ∷ rest)))) in
    one_of_three P letter 120 117 85 among (byte_taken (c ∷ rest)) (fixed_taken 117 4 four_digits (c ∷ rest)) (fixed_taken 85 8 eight_digits (c ∷ rest)))

boundary_taken : (t : Text) → IsTaken Escapes (98 ∷ t) (boundary_at t)
unfolding boundary_at
boundary_taken [] = boundary [] tt
boundary_taken (c ∷ rest) = pick Escapes _ (eqb c 123) None (Some (Boundary false, c ∷ rest)) (λ _. tt) (λ e. boundary (c ∷ rest) (eqb-false c 123 e))

single_taken : (c : ℕ) (rest : Text) → IsTaken Escapes (c ∷ rest) (single_at c rest)
unfolding single_at
single_taken c rest = map_taken Escapes _ (single_of c) (λ a. (a, rest)) (λ a is. single c a rest is)

pub escape_taken : (t : Text) → IsTaken Escapes t (escape_at t)
unfolding escape_at
escape_taken [] = tt
escape_taken (c ∷ rest) =
    let here : ℕ → Text = λ x. x ∷ rest in
    pick Escapes (c ∷ rest) (is_among c (120 ∷ 117 ∷ 85 ∷ [])) (hex_at c rest) _ (λ among. hex_taken c among rest) (λ _.
    pick_is Escapes c 112 here (property_at false rest) _ (property_taken false rest)
    (pick_is Escapes c 80 here (property_at true rest) _ (property_taken true rest)
    (pick_is Escapes c 98 here (boundary_at rest) _ (boundary_taken rest)
    (single_taken c rest))))

-- ---- each value that is written is read

-- hex digits do not begin with a brace, and have none
no_end : (d : ℕ) → hex_digit d ≡ None → (n m : ℕ) (digits : Text) → hex_from n digits ≡ Some m → Lacks d digits
no_end d none n m [] e = tt
no_end d none n m (c ∷ digits) e = from (hex_digit c) refl (λ v h. no_end d none (n * 16 + v) m digits h) e
  where
    from : (o : Option ℕ) → hex_digit c ≡ o → ((v : ℕ) → hex_from (n * 16 + v) digits ≡ Some m → Lacks d digits) → (o >>= λ v. hex_from (n * 16 + v) digits) ≡ Some m → Lacks d (c ∷ digits)
    from None is more h = absurd cc
    from (Some v) is more h = ((λ same. let k : hex_digit c ≡ hex_digit d = ap hex_digit same in cc), more v h)

hex_of_scalar : (digits : Text) (n : ℕ) → scalar_of digits ≡ Some n → hex_from 0 digits ≡ Some n
unfolding scalar_of
hex_of_scalar digits n e = from (hex_from 0 digits) e
  where
    kept : (m : ℕ) (b : Bool) → cond b (Some m) None ≡ Some n → ◌≡◌ {A = Option ℕ} (Some m) (Some n)
    kept m true h = h
    kept m false h = absurd cc

    from : (o : Option ℕ) → (o >>= only_scalar) ≡ Some n → o ≡ Some n
    from None h = absurd cc
    from (Some m) h = kept m _ h

hex_front : (letter : ℕ) (digits rest : Text) (n : ℕ) → 0 < length digits → hex_from 0 digits ≡ Some n →
    hex_at letter (digits ++ rest) ≡ cond (eqb letter 120) (byte_at (digits ++ rest)) (cond (eqb letter 117) (fixed_at 4 (digits ++ rest)) (fixed_at 8 (digits ++ rest)))
unfolding hex_at
hex_front letter [] rest n some e = absurd (omega arith)
hex_front letter (c ∷ digits) rest n some e =
    let lacks = no_end 123 refl 0 n (c ∷ digits) e in
    let other : eqb c 123 ≡ false = ne_eqb c 123 lacks.0 in
    rw other refl

fixed_is : (width : ℕ) (digits rest : Text) (n : ℕ) → length digits ≡ width → scalar_of digits ≡ Some n → fixed_at width (digits ++ rest) ≡ Some (Character n, rest)
unfolding fixed_at
fixed_is width digits rest n size is =
    let long : leb width (length (digits ++ rest)) ≡ true = le-leb _ _ (omega (arith, length-append digits rest)) in
    rw (long, take_at digits rest width size, is, drop_at digits rest width size) refl

byte_is : (digits rest : Text) (n : ℕ) → length digits ≡ 2 → hex_from 0 digits ≡ Some n → byte_at (digits ++ rest) ≡ Some (Byte n, rest)
unfolding byte_at
byte_is digits rest n size is =
    let long : leb 2 (length (digits ++ rest)) ≡ true = le-leb _ _ (omega (arith, length-append digits rest)) in
    rw (long, take_at digits rest 2 size, is, drop_at digits rest 2 size) refl

braced_is : (digits rest : Text) (n : ℕ) → 0 < length digits → scalar_of digits ≡ Some n → braces_at (digits ++ 125 ∷ rest) ≡ Some (Character n, rest)
unfolding braces_at
braced_is digits rest n some is =
    let found = cut_there 125 digits rest (no_end 125 refl 0 n digits (hex_of_scalar digits n is)) in
    let size : eqb (length digits) 0 ≡ false = ne_eqb (length digits) 0 (λ e. omega arith) in
    rw (found, size, is) refl

property_is : (negated : Bool) (name rest : Text) (set : Set) → plain_property name ≡ Some set → property_of negated name rest ≡ Some (Property set negated, rest)
unfolding property_of
property_is negated name rest set is = rw is refl

one_property : (negated : Bool) (c : ℕ) (rest : Text) (set : Set) → c ≢ 123 → plain_property (c ∷ []) ≡ Some set → property_at negated (c ∷ rest) ≡ Some (Property set negated, rest)
unfolding property_at
one_property negated c rest set ne is = let other : eqb c 123 ≡ false = ne_eqb c 123 ne in rw other (property_is negated (c ∷ []) rest set is)

braced_property : (negated : Bool) (name rest : Text) (set : Set) → Lacks 125 name → plain_property name ≡ Some set → property_at negated (123 ∷ name ++ 125 ∷ rest) ≡ Some (Property set negated, rest)
unfolding property_at
braced_property negated name rest set lacks is = rw (cut_there 125 name rest lacks) (property_is negated name rest set is)

property_front : (negated : Bool) (t : Text) → escape_at (property_letter negated ∷ t) ≡ property_at negated t
unfolding escape_at
property_front false t = refl
property_front true t = refl

hex_letter : (letter : ℕ) (t : Text) → is_among letter (120 ∷ 117 ∷ 85 ∷ []) ≡ true → escape_at (letter ∷ t) ≡ hex_at letter t
unfolding escape_at
hex_letter letter t among = rw among refl

braces_front : (letter : ℕ) (t : Text) → hex_at letter (123 ∷ t) ≡ braces_at t
unfolding hex_at
braces_front letter t = refl

boundary_front : (t : Text) → escape_at (98 ∷ t) ≡ boundary_at t
unfolding escape_at
boundary_front t = refl

boundary_is : (t : Text) → NotBegins 123 t → boundary_at t ≡ Some (Boundary false, t)
unfolding boundary_at
boundary_is [] h = refl
boundary_is (c ∷ t) h = let other : eqb c 123 ≡ false = ne_eqb c 123 h in rw other refl

-- a character that escapes by itself is no letter of another escape
no_other : (c : ℕ) (a : Atom) → single_of c ≡ Some a → is_among c (120 ∷ 117 ∷ 85 ∷ []) ≡ false
no_other c a is = from (is_among c (120 ∷ 117 ∷ 85 ∷ [])) refl
  where
    from : (b : Bool) → is_among c (120 ∷ 117 ∷ 85 ∷ []) ≡ b → b ≡ false
    from false e = refl
    from true e = let none : single_of c ≡ None = one_of_three (λ k. single_of k ≡ None) c 120 117 85 e refl refl refl in absurd cc

single_is : (c : ℕ) (a : Atom) (rest : Text) → single_of c ≡ Some a → escape_at (c ∷ rest) ≡ Some (a, rest)
unfolding escape_at single_at
single_is c a rest is = rw (no_other c a is, apart single_of c 112 a is refl, apart single_of c 80 a is refl, apart single_of c 98 a is refl, is) refl

pub escape_is : (a : Atom) (text rest : Text) → Escapes a text rest → escape_at text ≡ Some (a, rest)
escape_is a text rest (single c atom tail is) = single_is c atom tail is
escape_is a text rest (two_digits digits tail n size is) = hex_letter 120 (digits ++ tail) refl ∙ hex_front 120 digits tail n (omega arith) is ∙ byte_is digits tail n size is
escape_is a text rest (four_digits digits tail n size is) =
    hex_letter 117 (digits ++ tail) refl ∙ hex_front 117 digits tail n (omega arith) (hex_of_scalar digits n is) ∙ fixed_is 4 digits tail n size is
escape_is a text rest (eight_digits digits tail n size is) =
    hex_letter 85 (digits ++ tail) refl ∙ hex_front 85 digits tail n (omega arith) (hex_of_scalar digits n is) ∙ fixed_is 8 digits tail n size is
escape_is a text rest (any_digits letter digits tail n among some is) =
    hex_letter letter (123 ∷ digits ++ 125 ∷ tail) among ∙ braces_front letter (digits ++ 125 ∷ tail) ∙ braced_is digits tail n some is
escape_is a text rest (boundary tail h) = boundary_front tail ∙ boundary_is tail h
escape_is a text rest (property negated c tail set ne is) = property_front negated (c ∷ tail) ∙ one_property negated c tail set ne is
escape_is a text rest (named_property negated name tail set lacks is) = property_front negated (123 ∷ name ++ 125 ∷ tail) ∙ braced_property negated name tail set lacks is
