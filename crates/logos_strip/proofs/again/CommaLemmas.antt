-- A comma with a space, a line feed or nothing after it is a comma alone.
use Rattle.std.proofs.Common.{◌≡◌, ℕ, ◌+◌, ◌⊎◌, inl, inr, false, List, length, get_or, Some, None, refl, sym, ◌∙◌, arith}
use Rattle.std.proofs.lemmas.Bool.{cases_Bool}
use Rattle.std.proofs.lemmas.List.{get_or_past}
use Rattle.logos_lexeme.specs.declared.lexeme.Spacing.TheVariants.{Alone}
use Rattle.logos_lexeme.specs.declared.lexeme.LexemeKind.TheVariants.{Punctuation}
use Rattle.logos_lexeme.specs.declared.lexeme.openings.Opening.TheVariants.{Single}
use Rattle.logos_lexeme.specs.LexemeCharacters.{character, past, is_space, is_start, is_mark}
use Rattle.logos_lexeme.specs.LexemeOpenings.{string_opening, literal_opening, comment_opening, name_at, spacing, single_kind, other_opening, opening_at}
use Rattle.logos_lexeme.specs.Lexemes.{IsNext}
use Rattle.logos_lexeme.proofs.CharacterLaws.{character-ascii, past-ascii, inside_from_byte}
use Rattle.logos_lexeme.proofs.again.PrintFacts.{start_large}
use Rattle.logos_lexeme.proofs.again.PrintLifetimes.{literal_at-none}

comma_start : is_start 44 ≡ false
comma_start = elim (cases_Bool (is_start 44)) [ inl e ↦ absurd (let l = start_large 44 e in omega arith) | inr e ↦ e ]

abbrev IsBlank : List ℕ → ℕ → Type 0
IsBlank b at = (get_or b at 0 ≡ 32) ⊎ ((get_or b at 0 ≡ 10) ⊎ (at ≡ length b))

module _ (b : List ℕ) (q : ℕ) (e : get_or b q 0 ≡ 44) where
  comma_character : character b q ≡ 44
  comma_character = character-ascii b q (omega arith) ∙ e

  comma_past : past b q ≡ q + 1
  comma_past = past-ascii b q (omega arith)

  comma_literal : literal_opening b q ≡ None
  unfolding literal_opening string_opening
  comma_literal = rw e refl

  comma_comment : comment_opening b q ≡ None
  unfolding comment_opening
  comma_comment = rw e refl

  pub comma_space : is_space (character b q) ≡ false
  unfolding is_space
  comma_space = rw comma_character refl

  comma_name : name_at b q ≡ None
  unfolding name_at
  comma_name = rw (e, comma_character, comma_start) refl

  comma_alone : IsBlank b (q + 1) → spacing b (q + 1) ≡ Alone
  unfolding spacing is_mark
  comma_alone (inl f) = rw f refl
  comma_alone (inr (inl f)) = rw f refl
  comma_alone (inr (inr f)) = let g : get_or b (q + 1) 0 ≡ 0 = get_or_past b (q + 1) 0 (omega arith) in rw g refl

  comma_single : IsBlank b (q + 1) → single_kind b q ≡ Some (Punctuation Alone)
  unfolding single_kind is_mark
  comma_single blank = rw (comma_character, comma_alone blank) refl

  comma_other : IsBlank b (q + 1) → other_opening b q ≡ Single (Punctuation Alone)
  unfolding other_opening
  comma_other blank = rw (comma_space, comma_name, comma_single blank) refl

  comma_opens : IsBlank b (q + 1) → opening_at b q ≡ Single (Punctuation Alone)
  unfolding opening_at
  comma_opens blank = rw (literal_at-none b q comma_literal, comma_comment) (comma_other blank)

  pub comma_next : IsBlank b (q + 1) → IsNext b q (Punctuation Alone) (q + 1)
  comma_next blank =
      let opens = comma_opens blank in
      let inside = inside_from_byte b q (omega arith) in
      record {
        end = q + 1;
        ends = rw opens (sym comma_past);
        sound = rw opens tt;
        is_kind = rw opens refl;
        suffixed = refl;
        within = omega arith;
      }
