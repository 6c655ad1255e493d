-- A text cut at the first of its characters of a kind.
use Rattle.std.proofs.Common.{◌≡◌, ℕ, suc, ◌+◌, ◌-◌, Bool, true, false, cond, eqb, ltb, [], ◌∷◌, length, take, drop, Option, Some, None, option_map, refl, ap, ◌∙◌, arith}
use Rattle.std.proofs.lemmas.Bool.{lt-ltb}
use Rattle.std.proofs.lemmas.Bool.Decides.{nat_tests}
use Rattle.std.proofs.lemmas.List.{take_all, length-drop}
use Rattle.std.specs.List.{position, position_or_len}
use Rattle.logos_pattern_tokens.specs.Token.{Text, cut_at}

abbrev Parts : Type 0
Parts = Text × Text

abbrev parts_at : Text → Option ℕ → Option Parts
parts_at text o = option_map (λ i. (take i text, drop (i + 1) text)) o

abbrev with_front : ℕ → Option Parts → Option Parts
with_front c o = option_map (λ x. (c ∷ x.0, x.1)) o

one_later : (c : ℕ) (rest : Text) (n : ℕ) (b : Bool) →
    parts_at (c ∷ rest) (cond b (Some (1 + n)) None) ≡ with_front c (parts_at rest (cond b (Some n) None))
one_later c rest n true = let e : 1 + n ≡ suc n = omega arith in let f : suc n + 1 ≡ suc (n + 1) = omega arith in rw (e, f) refl
one_later c rest n false = refl

ltb_suc : (n m : ℕ) → ltb (1 + n) (suc m) ≡ ltb n m
ltb_suc n m = grind (arith, nat_tests)

pub position_cuts : (end : ℕ) (text : Text) → parts_at text (position (λ c. eqb c end) text) ≡ cut_at end text
position_cuts end [] = refl
position_cuts end (c ∷ rest) = from (position_cuts end rest) (eqb c end) refl
  where
    n : ℕ
    n = position_or_len (λ d. eqb d end) rest

    from : parts_at rest (position (λ d. eqb d end) rest) ≡ cut_at end rest → (b : Bool) → eqb c end ≡ b → parts_at (c ∷ rest) (position (λ d. eqb d end) (c ∷ rest)) ≡ cut_at end (c ∷ rest)
    from h true e = let z : ltb 0 (suc (length rest)) ≡ true = lt-ltb _ _ (omega arith) in rw (e, z) refl
    from h false e = rw e (ap (λ b. parts_at (c ∷ rest) (cond b (Some (1 + position_or_len (λ d. eqb d end) rest)) None)) (ltb_suc (position_or_len (λ d. eqb d end) rest) (length rest)) ∙ one_later c rest (position_or_len (λ d. eqb d end) rest) (ltb (position_or_len (λ d. eqb d end) rest) (length rest)) ∙ ap (with_front c) h)

pub found_slot : (end i : ℕ) (text : Text) → Some i ≡ position (λ c. eqb c end) text →
    ◌≡◌ {A = Option Parts} (Some (take i text, take (length text - (i + 1)) (drop (i + 1) text))) (cut_at end text)
found_slot end i text e =
    ap (λ (x : Text). Some (take i text, x)) (take_all (length text - (i + 1)) (drop (i + 1) text) (omega (arith, length-drop (i + 1) text))) ∙ ap (parts_at text) e ∙ position_cuts end text

pub no_slot : (end : ℕ) (text : Text) → None ≡ position (λ c. eqb c end) text → None ≡ cut_at end text
no_slot end text e = ap (parts_at text) e ∙ position_cuts end text
