-- Steps of readers: tests, and parts that are read first.
use Rattle.std.proofs.Common.{◌≡◌, ℕ, Bool, true, false, cond, eqb, [], ◌∷◌, ◌++◌, Option, Some, None, option_map, refl, sym, ap, subst, arith, IfSome, ne_eqb}
use Rattle.std.proofs.lemmas.Bool.{eqb-true, eqb-false}
use Rattle.std.proofs.lemmas.Bool.Decides.{nat_tests}
use Rattle.logos_pattern_tokens.specs.Token.{Text, ◌>>=◌, cut_at}
use Rattle.logos_pattern_tokens.specs.Spelling.{Lacks}

-- the result of reading the text, and the text after it, satisfy `P`
abbrev pub IsTaken : {K : Type 0} → (K → Text → Text → Type 0) → Text → Option (K × Text) → Type 0
IsTaken P text None = Unit {0}
IsTaken P text (Some found) = P found.0 text found.1

-- a test in a reader
pub pick : {K : Type 0} (P : K → Text → Text → Type 0) (text : Text) (b : Bool) (x y : Option (K × Text)) → (b ≡ true → IsTaken P text x) → (b ≡ false → IsTaken P text y) → IsTaken P text (cond b x y)
pick P text true x y p q = p refl
pick P text false x y p q = q refl

-- a test of one character
pub pick_is : {K : Type 0} (P : K → Text → Text → Type 0) (c d : ℕ) (text : ℕ → Text) (x y : Option (K × Text)) → IsTaken P (text d) x → IsTaken P (text c) y → IsTaken P (text c) (cond (eqb c d) x y)
pick_is P c d text x y p q = pick P (text c) (eqb c d) x y (λ e. subst (λ k. IsTaken P (text k) x) (sym (eqb-true c d e)) p) (λ e. q)

-- a part that is read first
pub bind_taken : {K Y : Type 0} (P : K → Text → Text → Type 0) (text : Text) (o : Option Y) (f : Y → Option (K × Text)) (Q : Y → Type 0) → IfSome o Q → ((x : Y) → Q x → IsTaken P text (f x)) → IsTaken P text (o >>= f)
bind_taken P text None f Q h g = tt
bind_taken P text (Some x) f Q h g = g x h

pub map_taken : {K Y : Type 0} (P : K → Text → Text → Type 0) (text : Text) (o : Option Y) (f : Y → K × Text) → ((x : Y) → o ≡ Some x → P (f x).0 text (f x).1) → IsTaken P text (option_map f o)
map_taken P text None f g = tt
map_taken P text (Some x) f g = g x refl

-- a character of one kind is no other character
pub outside : (test : ℕ → Bool) (c d : ℕ) → test c ≡ true → test d ≡ false → eqb c d ≡ false
outside test c d yes_c no_d = from (eqb c d) refl
  where
    from : (b : Bool) → eqb c d ≡ b → b ≡ false
    from true e = let h : test c ≡ test d = ap test (eqb-true c d e) in cc
    from false e = refl

-- a character that a function has a value for is none that it has no value for
pub apart : {A : Type 0} (f : ℕ → Option A) (c d : ℕ) (x : A) → f c ≡ Some x → f d ≡ None → eqb c d ≡ false
apart f c d x some none = from (eqb c d) refl
  where
    from : (b : Bool) → eqb c d ≡ b → b ≡ false
    from true e = let h : f c ≡ f d = ap f (eqb-true c d e) in absurd cc
    from false e = refl

-- ---- cuts

pub cut_found : (end : ℕ) (text : Text) → IfSome (cut_at end text) (λ x. Lacks end x.0 × (text ≡ x.0 ++ end ∷ x.1))
cut_found end [] = tt
cut_found end (c ∷ rest) = from (cut_found end rest) (eqb c end) refl
  where
    later : (o : Option (Text × Text)) → eqb c end ≡ false → IfSome o (λ x. Lacks end x.0 × (rest ≡ x.0 ++ end ∷ x.1)) → IfSome {T = Text × Text} (option_map (λ x. (c ∷ x.0, x.1)) o) (λ x. Lacks end x.0 × (c ∷ rest ≡ x.0 ++ end ∷ x.1))
    later None e h = tt
    later (Some x) e h = ((eqb-false c end e, h.0), ap (λ (t : Text). c ∷ t) h.1)

    from : IfSome (cut_at end rest) (λ x. Lacks end x.0 × (rest ≡ x.0 ++ end ∷ x.1)) → (b : Bool) → eqb c end ≡ b →
        IfSome {T = Text × Text} (cond b (Some ([], rest)) (option_map (λ x. (c ∷ x.0, x.1)) (cut_at end rest))) (λ x. Lacks end x.0 × (c ∷ rest ≡ x.0 ++ end ∷ x.1))
    from h true e = (tt, ap (λ k. k ∷ rest) (eqb-true c end e))
    from h false e = later (cut_at end rest) e h

pub eqb_same : (n : ℕ) → eqb n n ≡ true
eqb_same n = grind (arith, nat_tests)

pub cut_there : (end : ℕ) (front rest : Text) → Lacks end front → cut_at end (front ++ end ∷ rest) ≡ Some (front, rest)
cut_there end [] rest lacks = rw (eqb_same end) refl
cut_there end (c ∷ front) rest lacks = let e : eqb c end ≡ false = ne_eqb c end lacks.0 in rw (e, cut_there end front rest lacks.1) refl
