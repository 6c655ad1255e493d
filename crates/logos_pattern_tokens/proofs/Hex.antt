-- The reading of hexadecimal digits.
use Rattle.std.proofs.Common.{◌≡◌, ℕ, ◌+◌, ◌*◌, ◌<◌, ◌≤◌, Bool, true, false, cond, [], ◌∷◌, length, get_or, drop, Option, Some, None, refl, sym, ap, ◌∙◌, arith, ⊎_elim}
use Rattle.std.proofs.lemmas.List.{at_drop_more, drop_all}
use lib.Utf8.{scalar, scalar_cases}
use Rattle.logos_pattern_tokens.specs.Token.{Text, ◌>>=◌, hex_digit, hex_from, only_scalar, scalar_of}

not_scalar : (n : ℕ) → 0x10FFFF < n → only_scalar n ≡ None
not_scalar n h = from (scalar n) refl
  where
    from : (b : Bool) → scalar n ≡ b → only_scalar n ≡ None
    from true e = absurd (⊎_elim (λ low. omega arith) (λ high. omega arith) (scalar_cases n e))
    from false e = rw e refl

too_high : (n : ℕ) (t : Text) → 0x10FFFF < n → (hex_from n t >>= only_scalar) ≡ None
too_high n [] h = not_scalar n h
too_high n (c ∷ t) h = from (λ d. too_high (n * 16 + d) t (omega arith)) (hex_digit c)
  where
    from : ((d : ℕ) → (hex_from (n * 16 + d) t >>= only_scalar) ≡ None) → (o : Option ℕ) → ((o >>= λ d. hex_from (n * 16 + d) t) >>= only_scalar) ≡ None
    from more None = refl
    from more (Some d) = more d

-- The digits up to a point are read: the result for all of them.
module _ (n : ℕ) (digits : Text) (i : ℕ) (so_far : hex_from n (drop i digits) ≡ hex_from 0 digits) where
  at_digit : (c : ℕ) (o : Option ℕ) → i < length digits → c ≡ get_or digits i c → hex_digit c ≡ o → hex_from 0 digits ≡ (o >>= λ d. hex_from (n * 16 + d) (drop (i + 1) digits))
  at_digit c o h e is =
      sym so_far ∙ at_drop_more (hex_from n) digits i c h ∙ ap (λ (x : ℕ). hex_digit x >>= λ d. hex_from (n * 16 + d) (drop (i + 1) digits)) (sym e)
      ∙ ap (λ (x : Option ℕ). x >>= λ d. hex_from (n * 16 + d) (drop (i + 1) digits)) is

  pub one_more : (c d : ℕ) → i < length digits → c ≡ get_or digits i c → hex_digit c ≡ Some d → hex_from (n * 16 + d) (drop (i + 1) digits) ≡ hex_from 0 digits
  one_more c d h e is = sym (at_digit c (Some d) h e is)

  pub no_digit : (c : ℕ) → i < length digits → c ≡ get_or digits i c → hex_digit c ≡ None → scalar_of digits ≡ None
  unfolding scalar_of
  no_digit c h e is = ap (λ (x : Option ℕ). x >>= only_scalar) (at_digit c None h e is)

  pub high_digit : (c d : ℕ) → i < length digits → c ≡ get_or digits i c → hex_digit c ≡ Some d → 0x10FFFF < n * 16 + d → scalar_of digits ≡ None
  unfolding scalar_of
  high_digit c d h e is high = ap (λ (x : Option ℕ). x >>= only_scalar) (at_digit c (Some d) h e is) ∙ too_high (n * 16 + d) (drop (i + 1) digits) high

  at_end : length digits ≤ i → hex_from 0 digits ≡ Some n
  at_end h = sym so_far ∙ ap (hex_from n) (drop_all i digits h)

  pub all_read : (c : ℕ) → length digits ≤ i → scalar n ≡ true → c ≡ n → scalar_of digits ≡ Some c
  unfolding scalar_of
  all_read c h s e = ap (λ (x : Option ℕ). x >>= only_scalar) (at_end h) ∙ ap (λ (b : Bool). cond b (Some n) None) s ∙ ap Some (sym e)

  pub none_there : length digits ≤ i → (scalar n ≡ true → ⊥) → scalar_of digits ≡ None
  unfolding scalar_of
  none_there h s = ap (λ (x : Option ℕ). x >>= only_scalar) (at_end h) ∙ from (scalar n) refl s
    where
      from : (b : Bool) → scalar n ≡ b → (scalar n ≡ true → ⊥) → cond (scalar n) (Some n) None ≡ None
      from true e no_scalar = absurd (no_scalar e)
      from false e no_scalar = rw e refl
