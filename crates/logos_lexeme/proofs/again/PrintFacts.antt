-- Facts about the lexemes of a source: their first characters.
use Rattle.std.proofs.Common.{◌≡◌, ℕ, ◌+◌, ◌<◌, ◌≤◌, ◌⊎◌, ◌==◌, ◌&&◌, ◌||◌, inl, inr, nat_le, true, false, List, [], ◌∷◌, codes, length, get_or, drop, Option, Some, None, MatchOption, IsUtf8, refl, sym, ◌∙◌, ap, subst, arith, length-drop, get_or-drop}
use Rattle.std.proofs.lemmas.Bool.{cases_lt, cases_Bool, and_parts, or_cases, eqb-true, false≢true, leb-true, cond_both}
use Rattle.std.proofs.lemmas.Str.{chars_past_char, byte_from_char, IsUtf8-drop}
use Rattle.std.specs.Char.{is_ascii_digit}
use Rattle.std.specs.Int.{is_in_range}
use Rattle.std.specs.List.{list_any, list_all}
use Rattle.std.specs.Str.{IsCharBoundary, chars as chars_of}
use Rattle.unicode_ident.proofs.IdentLemmas.{is_xid_start-ascii}
use Rattle.unicode_ident.proofs.Computing.{unicode_ident}
use Rattle.unicode_ident.specs.Ident.{is_xid_start}
use Rattle.logos_lexeme.specs.LexemeCharacters.{character, is_space, is_start, is_mark}
use Rattle.logos_lexeme.specs.LexemeOpenings.{raw_opening, character_opening, bytes_opening, literal_opening, string_opening, literal_at}
use Rattle.logos_lexeme.specs.declared.lexeme.openings.Content.{Content}
use Rattle.logos_lexeme.specs.declared.lexeme.openings.Content.TheVariants.{Text, C}
use Rattle.logos_lexeme.specs.declared.lexeme.openings.Opening.{Opening}
use Rattle.logos_lexeme.specs.declared.lexeme.openings.Opening.TheVariants.{Quotes}
use Rattle.logos_lexeme.proofs.CharacterLaws.{first_char}
use Rattle.logos_lexeme.proofs.again.PrintLifetimes.{literal_at-some}

-- white space is below `!` or above ASCII
space_range : (c : ℕ) → is_space c ≡ true → (c < 33) ⊎ ((c ≡ 0x85) ⊎ (((0x200E ≤ c) × (c ≤ 0x200F)) ⊎ ((0x2028 ≤ c) × (c ≤ 0x2029))))
unfolding is_space
space_range c e = elim (or_cases (((is_in_range 9 13 c || (c == 32)) || (c == 0x85)) || is_in_range 0x200E 0x200F c) (is_in_range 0x2028 0x2029 c) e) [
  | inr f ↦ let g = and_parts (nat_le 0x2028 c) (nat_le c 0x2029) f in inr (inr (inr (leb-true 0x2028 c g.0, leb-true c 0x2029 g.1)))
  | inl r ↦ elim (or_cases ((is_in_range 9 13 c || (c == 32)) || (c == 0x85)) (is_in_range 0x200E 0x200F c) r) [
    | inr f ↦ let g = and_parts (nat_le 0x200E c) (nat_le c 0x200F) f in inr (inr (inl (leb-true 0x200E c g.0, leb-true c 0x200F g.1)))
    | inl s ↦ elim (or_cases (is_in_range 9 13 c || (c == 32)) (c == 0x85) s) [
      | inr f ↦ inr (inl (eqb-true c 0x85 f))
      | inl t ↦ elim (or_cases (is_in_range 9 13 c) (c == 32) t) [
        | inr f ↦ let g = eqb-true c 32 f in inl (omega arith)
        | inl f ↦ let g = and_parts (nat_le 9 c) (nat_le c 13) f in let h : c ≤ 13 = leb-true c 13 g.1 in inl (omega arith)
      ]
    ]
  ]
]

pub visible_no_space : (c : ℕ) → 33 ≤ c → c < 128 → is_space c ≡ false
visible_no_space c low high = elim (cases_Bool (is_space c)) [
  | inr e ↦ e
  | inl e ↦ absurd (elim (space_range c e) [
    | inl l ↦ omega arith
    | inr r ↦ elim r [ inl f ↦ omega arith | inr s ↦ elim s [ inl f ↦ omega (arith, f.0) | inr f ↦ omega (arith, f.0) ] ]
  ])
]

start-85 : is_start 0x85 ≡ false
unfolding is_start unicode_ident
start-85 = refl

start-200E : is_start 0x200E ≡ false
unfolding is_start unicode_ident
start-200E = refl

start-200F : is_start 0x200F ≡ false
unfolding is_start unicode_ident
start-200F = refl

start-2028 : is_start 0x2028 ≡ false
unfolding is_start unicode_ident
start-2028 = refl

start-2029 : is_start 0x2029 ≡ false
unfolding is_start unicode_ident
start-2029 = refl

-- a character that may begin an identifier is a letter or above ASCII
pub start_large : (c : ℕ) → is_start c ≡ true → 65 ≤ c
unfolding is_start
start_large c e = elim (cases_lt c 65) [
  | inr l ↦ l
  | inl l ↦ absurd (elim (or_cases (is_xid_start c) (c == 95) e) [
    | inr f ↦ let g = eqb-true c 95 f in omega arith
    | inl f ↦ elim (or_cases (is_in_range 65 90 c) (is_in_range 97 122 c) (sym (is_xid_start-ascii c (omega arith)) ∙ f)) [
      | inl g ↦ let h = and_parts (nat_le 65 c) (nat_le c 90) g in let i : 65 ≤ c = leb-true 65 c h.0 in omega arith
      | inr g ↦ let h = and_parts (nat_le 97 c) (nat_le c 122) g in let i : 97 ≤ c = leb-true 97 c h.0 in omega arith
    ]
  ])
]

no_start : (c d : ℕ) → c ≡ d → is_start d ≡ false → is_start c ≡ true → ⊥
no_start c d e f s = false≢true (sym f ∙ ap is_start (sym e) ∙ s)

-- and no white space
pub start_no_space : (c : ℕ) → is_start c ≡ true → is_space c ≡ false
start_no_space c s = elim (cases_Bool (is_space c)) [
  | inr e ↦ e
  | inl e ↦ absurd (elim (space_range c e) [
    | inl l ↦ let h = start_large c s in omega arith
    | inr r ↦ elim r [
      | inl f ↦ no_start c 0x85 f start-85 s
      | inr t ↦ elim t [
        | inl f ↦ elim (cases_lt c 0x200F) [ inl l ↦ no_start c 0x200E (omega (arith, f.0)) start-200E s | inr l ↦ no_start c 0x200F (omega (arith, f.1)) start-200F s ]
        | inr f ↦ elim (cases_lt c 0x2029) [ inl l ↦ no_start c 0x2028 (omega (arith, f.0)) start-2028 s | inr l ↦ no_start c 0x2029 (omega (arith, f.1)) start-2029 s ]
      ]
    ]
  ])
]

-- marks are visible ASCII
any_visible : (xs : List ℕ) (c : ℕ) → list_all (λ m. nat_le 33 m && nat_le m 127) xs ≡ true → list_any (λ m. m == c) xs ≡ true → (33 ≤ c) × (c < 128)
any_visible [] c all any = absurd (false≢true any)
any_visible (x ∷ xs) c all any =
    let both = and_parts (nat_le 33 x && nat_le x 127) (list_all (λ m. nat_le 33 m && nat_le m 127) xs) all in
    elim (or_cases (x == c) (list_any (λ m. m == c) xs) any) [
      | inl e ↦
          let is = eqb-true x c e in
          let r = and_parts (nat_le 33 x) (nat_le x 127) both.0 in
          let low : 33 ≤ x = leb-true 33 x r.0 in
          let high : x ≤ 127 = leb-true x 127 r.1 in
          (omega arith, omega arith)
      | inr e ↦ any_visible xs c both.1 e
    ]

pub mark_visible : (c : ℕ) → is_mark c ≡ true → (33 ≤ c) × (c < 128)
unfolding is_mark
mark_visible c e = any_visible (codes "~!@#$%^&*-=+|;:,<.>/?") c refl e

-- a literal begins with visible ASCII
abbrev IsVisible : ℕ → Type 0
IsVisible c = (33 ≤ c) × (c < 128)

abbrev Shows : ℕ → Option Opening → Type 0
Shows c o = MatchOption o (Unit {0}) (λ _. IsVisible c)

shows_any : (c d : ℕ) → (c == d) ≡ true → IsVisible d → (o : Option Opening) → Shows c o
shows_any c d e v None = tt
shows_any c d e v (Some o) = let f = eqb-true c d e in rw f v

string_shows : (a : List ℕ) (p : ℕ) (content : Content) → Shows (get_or a p 0) (string_opening content a p)
unfolding string_opening
string_shows a p content =
    let c = get_or a p 0 in
    cond_both (c == 34) _ _ (Shows c) (λ e. shows_any c 34 e (omega arith, omega arith) (Some (Quotes content))) (λ _. cond_both (c == 114) _ _ (Shows c) (λ e. shows_any c 114 e (omega arith, omega arith) (raw_opening content a (p + 1))) (λ _. tt))

literal_shows : (a : List ℕ) (p : ℕ) → Shows (get_or a p 0) (literal_opening a p)
unfolding literal_opening
literal_shows a p =
    let c = get_or a p 0 in
    cond_both (is_ascii_digit c) _ _ (Shows c) (λ e. let r = and_parts (nat_le 48 c) (nat_le c 57) e in let low : 48 ≤ c = leb-true 48 c r.0 in let high : c ≤ 57 = leb-true c 57 r.1 in (omega (arith, low), omega (arith, high))) (λ _.
    cond_both (c == 39) _ _ (Shows c) (λ e. shows_any c 39 e (omega arith, omega arith) (character_opening a (p + 1))) (λ _.
    cond_both (c == 98) _ _ (Shows c) (λ e. shows_any c 98 e (omega arith, omega arith) (bytes_opening a (p + 1))) (λ _.
    cond_both (c == 99) _ _ (Shows c) (λ e. shows_any c 99 e (omega arith, omega arith) (string_opening C a (p + 1))) (λ _.
    string_shows a p Text))))

pub literal_visible : (a : List ℕ) (p : ℕ) (o : Opening) → literal_at a p ≡ Some o → (33 ≤ get_or a p 0) × (get_or a p 0 < 128)
literal_visible a p o e = subst (Shows (get_or a p 0)) (literal_at-some a p o e).1 (literal_shows a p)

-- an ASCII character is one byte
pub byte_of : (a : List ℕ) (p : ℕ) → IsUtf8 a → IsCharBoundary a p → p < length a → character a p < 128 → get_or a p 0 ≡ character a p
unfolding character
byte_of a p utf8 bound inside small =
    let u = IsUtf8-drop a p utf8 bound in
    let f = first_char (drop p a) u (omega (arith, length-drop p a)) in
    let c : get_or (chars_of (drop p a)) 0 0 ≡ f.0 = ap (λ (xs : List ℕ). get_or xs 0 0) (chars_past_char (drop p a) f.1 f.0 u f.2) in
    let z : p + 0 ≡ p = omega arith in
    sym (ap (λ i. get_or a i 0) z) ∙ sym (get_or-drop p a 0 0) ∙ byte_from_char (drop p a) f.1 f.0 f.2 (omega (arith, c, small)) ∙ sym c
