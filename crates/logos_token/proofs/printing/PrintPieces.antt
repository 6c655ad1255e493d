-- A window in a printed text.
use Rattle.std.proofs.Common.{◌≡◌, ◌≢◌, ℕ, ◌+◌, ◌-◌, ◌<◌, ◌≤◌, ◌⊎◌, inl, inr, Bool, true, false, cond, List, [], ◌∷◌, ◌++◌, length, get_or, drop, slice_range, IsUtf8, refl, sym, ◌∙◌, ap, subst, arith, length-drop, length-append, get_or-drop, drop-drop}
use Rattle.std.proofs.lemmas.Bool.{cases_lt, eq-eqb}
use Rattle.std.proofs.lemmas.List.Edits.{length-between, get_or-between}
use Rattle.std.proofs.lemmas.List.Prefix.{at_reads, front_rest}
use Rattle.std.specs.Str.{IsCharBoundary}
use Rattle.logos_lexeme.specs.declared.lexeme.Span.{Span}
use Rattle.logos_lexeme.specs.declared.lexeme.Spacing.TheVariants.{Alone, Joint}
use Rattle.logos_lexeme.specs.declared.lexeme.LexemeKind.{LexemeKind}
use Rattle.logos_lexeme.specs.declared.lexeme.LexemeKind.TheVariants.{Gap, Identifier, Literal, Doc, Punctuation, Opening, Closing}
use Rattle.logos_lexeme.specs.Lexemes.{IsNext}
use Rattle.logos_token.specs.Spelling.{Piece, Pieces, lexeme_of, seen}
use Rattle.logos_token.specs.Printing.{Part, gap_after, is_line_comment}
use Rattle.logos_token.proofs.reading.PieceLemmas.{piece-advances, piece-boundary}
use Rattle.logos_lexeme.proofs.again.PrintWindows.{Window}
use Rattle.logos_token.proofs.printing.PrintParts.{parts, parts-append, after}

-- the text printed after a lexeme of this kind
abbrev pub gap_of : List ℕ → LexemeKind → ℕ → ℕ → List ℕ
gap_of bytes (Punctuation spacing) from to = gap_after spacing
gap_of bytes Doc from to = cond (is_line_comment (slice_range bytes from to)) (10 ∷ []) (32 ∷ [])
gap_of bytes _ from to = 32 ∷ []

-- a space or a line feed
abbrev pub IsSeparator : List ℕ → Type 0
IsSeparator gap = (gap ≡ 32 ∷ []) ⊎ (gap ≡ 10 ∷ [])

pub joint_or_not : (kind : LexemeKind) → (kind ≡ Punctuation Joint) ⊎ (kind ≡ Punctuation Joint → ⊥)
joint_or_not (Punctuation Joint) = inl refl
joint_or_not (Punctuation Alone) = inr (λ e. absurd (cc))
joint_or_not Gap = inr (λ e. absurd (cc))
joint_or_not Identifier = inr (λ e. absurd (cc))
joint_or_not Literal = inr (λ e. absurd (cc))
joint_or_not Doc = inr (λ e. absurd (cc))
joint_or_not (Opening d) = inr (λ e. absurd (cc))
joint_or_not (Closing d) = inr (λ e. absurd (cc))

separator_if : (t : Bool) → IsSeparator (cond t (10 ∷ []) (32 ∷ []))
separator_if true = inr refl
separator_if false = inl refl

pub separates : (bytes : List ℕ) (kind : LexemeKind) (from to : ℕ) → (kind ≡ Punctuation Joint → ⊥) → IsSeparator (gap_of bytes kind from to)
separates bytes (Punctuation Joint) from to other = absurd (other refl)
separates bytes (Punctuation Alone) from to other = inl refl
separates bytes Gap from to other = inl refl
separates bytes Identifier from to other = inl refl
separates bytes Literal from to other = inl refl
separates bytes Doc from to other = separator_if (is_line_comment (slice_range bytes from to))
separates bytes (Opening d) from to other = inl refl
separates bytes (Closing d) from to other = inl refl

-- where nothing parts a lexeme from the next one, it is joint
pub joint_from : (bytes : List ℕ) (kind : LexemeKind) (from to : ℕ) → gap_of bytes kind from to ≡ [] → kind ≡ Punctuation Joint
joint_from bytes kind from to none = elim (joint_or_not kind) [
  | inl j ↦ j
  | inr j ↦ absurd (elim (separates bytes kind from to j) [ inl e ↦ let f : [] ≡ 32 ∷ [] = sym none ∙ e in cc | inr e ↦ let f : [] ≡ 10 ∷ [] = sym none ∙ e in cc ])
]

pub second_slash : (text : List ℕ) → get_or text 1 0 ≡ 47 → is_line_comment text ≡ true
second_slash [] e = absurd (omega arith)
second_slash (x ∷ []) e = absurd (omega arith)
second_slash (x ∷ (y ∷ rest)) e = eq-eqb y 47 e

-- the bytes of a text after an offset are these and those
module _ (b front rest : List ℕ) (q n : ℕ) (long : length front ≡ n) (inside : q ≤ length b) (e : drop q b ≡ front ++ rest) where
  pub whole_length : length b ≡ q + n + length rest
  whole_length = omega (arith, ap length e, length-append front rest, length-drop q b)

  pub drop_on : drop (q + n) b ≡ rest
  drop_on = let f : drop n (drop q b) ≡ rest = ap (drop n) e ∙ ap (λ m. drop m (front ++ rest)) (sym long) ∙ front_rest (front ++ rest) front rest refl in sym (drop-drop n q b) ∙ f

  pub byte_afterward : get_or b (q + n) 0 ≡ get_or rest 0 0
  byte_afterward = let f : q + n + 0 ≡ q + n = omega arith in sym (ap (λ i. get_or b i 0) f) ∙ sym (get_or-drop (q + n) b 0 0) ∙ ap (λ (xs : List ℕ). get_or xs 0 0) drop_on

-- a text that begins with a gap begins with its byte
pub gap_first : (ps : List Part) (gap : List ℕ) (c : ℕ) → gap ≡ c ∷ [] → (get_or (after gap ps) 0 0 ≡ c) ⊎ (after gap ps ≡ [])
gap_first [] gap c e = inr refl
gap_first (part ∷ ps) gap c e = inl (ap (λ g. get_or (g ++ (part.text ++ after part.gap ps)) 0 0) e)

-- a lexeme, and a window of it
pub record Shown (a b : List ℕ) (p q : ℕ) (kind : LexemeKind) (to : ℕ) : Type 0 where
  pub size : ℕ
  pub window : Window a b p q size
  pub at : (kind ≡ Punctuation Joint → to < p + size) × ((kind ≡ Punctuation Joint → ⊥) → to ≡ p + size)
  pub line : get_or a (p + 1) 0 ≡ 47 → kind ≡ Doc → (get_or b (q + size) 0 ≡ 10) ⊎ (q + size ≡ length b)

abbrev pub Follows : List Piece → Type 0
Follows [] = ⊥
Follows (piece ∷ rest) = piece.kind ≢ Gap

-- the printed text of a lexeme
abbrev pub HasText : List ℕ → Type 0
HasText a = (kind : LexemeKind) (from to : ℕ) → IsCharBoundary a from → IsNext a from kind to → kind ≢ Gap → parts (lexeme_of a kind (record { from = from; to = to })) ≡ (record { text = slice_range a from to; gap = gap_of a kind from to }) ∷ []

-- after joint punctuation another lexeme begins
abbrev pub HasJoints : List ℕ → Type 0
HasJoints a = (from to : ℕ) (rest : List Piece) → IsCharBoundary a from → IsNext a from (Punctuation Joint) to → Pieces a to rest (length a) → Follows rest

-- after each joint punctuation among the pieces another lexeme begins
abbrev pub Joined : List Piece → Type 0
Joined [] = Unit {0}
Joined (piece ∷ rest) = (piece.kind ≡ Punctuation Joint → Follows rest) × Joined rest

-- documentation has its two first bytes
abbrev pub HasDocs : List ℕ → Type 0
HasDocs a = (from to : ℕ) → IsCharBoundary a from → IsNext a from Doc to → from + 2 ≤ to

module _ (a : List ℕ) (utf8 : IsUtf8 a) (text : HasText a) (docs : HasDocs a) (b : List ℕ) where
  abbrev IsPrinted : ℕ → ℕ → ℕ → LexemeKind → List Piece → Type 0
  IsPrinted q p to kind rest = drop q b ≡ slice_range a p to ++ after (gap_of a kind p to) (parts (seen a rest))

  pub slice_same : (p to q : ℕ) (rest : List ℕ) → p ≤ to → to ≤ length a → drop q b ≡ slice_range a p to ++ rest → (x y : ℕ) → x + q ≡ y + p → p ≤ x → x < to → get_or b y 0 ≡ get_or a x 0
  slice_same p to q rest le fits e x y spots low high =
      let i = x - p in
      let long = length-between a p to fits in
      let f : q + i ≡ y = omega arith in
      let g : p + i ≡ x = omega arith in
      ap (λ j. get_or b j 0) (sym f) ∙ at_reads 0 b (slice_range a p to) q rest e i (omega arith) ∙ get_or-between a p to i 0 (omega arith) ∙ ap (λ j. get_or a j 0) g

  alone_shown : (rest : List Piece) (kind : LexemeKind) (p to q : ℕ) → (kind ≡ Punctuation Joint → ⊥) → IsNext a p kind to → IsCharBoundary a p → q ≤ length b → IsPrinted q p to kind rest → Shown a b p q kind to
  alone_shown rest kind p to q alone next bound inside e =
      let adv = piece-advances a p kind to next in
      let fits = adv.1 in
      let ahead = adv.0 in
      let n = to - p in
      let long = length-between a p to fits in
      let tail = after (gap_of a kind p to) (parts (seen a rest)) in
      let total = whole_length b (slice_range a p to) tail q n long inside e in
      let first = byte_afterward b (slice_range a p to) tail q n long inside e in
      let is : p + n ≡ to = omega arith in
      let blank : (c : ℕ) → gap_of a kind p to ≡ c ∷ [] → (get_or b (q + n) 0 ≡ c) ⊎ (q + n ≡ length b) = λ c g. elim (gap_first (parts (seen a rest)) (gap_of a kind p to) c g) [
        | inl h ↦ inl (first ∙ h)
        | inr h ↦ inr (omega (arith, ap length h))
      ] in
      record {
        size = n;
        window = record {
          utf8 = utf8;
          ends = subst (IsCharBoundary a) (sym is) (piece-boundary a p kind to utf8 bound next);
          filled = omega arith;
          fits = omega arith;
          holds = omega arith;
          same = λ x y spots low high. slice_same p to q tail (omega arith) fits e x y spots low (omega arith);
          blank = elim (separates a kind p to alone) [
            | inl g ↦ elim (blank 32 g) [ inl h ↦ inl h | inr h ↦ inr (inr h) ]
            | inr g ↦ inr (blank 10 g)
          ];
        };
        at = (λ f. absurd (alone f), λ f. omega arith);
        line = λ f g.
            let two = docs p to bound (subst (λ x. IsNext a p x to) g next) in
            let second : get_or (slice_range a p to) 1 0 ≡ 47 = get_or-between a p to 1 0 (omega arith) ∙ f in
            let gap : gap_of a kind p to ≡ 10 ∷ [] = ap (λ x. gap_of a x p to) g ∙ ap (λ t. cond t (10 ∷ []) (32 ∷ [])) (second_slash (slice_range a p to) second) in
            blank 10 gap;
      }

  more_shown : (kind : LexemeKind) (p to q : ℕ) (rest : List ℕ) → kind ≡ Punctuation Joint → IsNext a p kind to → q ≤ length b → drop q b ≡ slice_range a p to ++ rest → {other : LexemeKind} {end : ℕ} → Shown a b to (q + (to - p)) other end → Shown a b p q kind to
  more_shown kind p to q rest joint next inside e s =
      let adv = piece-advances a p kind to next in
      let fits = adv.1 in
      let ahead = adv.0 in
      let n = to - p in
      let k = n + s.size in
      let w = s.window in
      let filled = w.filled in
      let is : to + s.size ≡ p + k = omega arith in
      let there : q + n + s.size ≡ q + k = omega arith in
      record {
        size = k;
        window = record {
          utf8 = utf8;
          ends = subst (IsCharBoundary a) is w.ends;
          filled = omega arith;
          fits = omega (arith, w.fits);
          holds = omega (arith, w.holds);
          same = λ x y spots low high. elim (cases_lt x to) [
            | inl l ↦ slice_same p to q rest (omega arith) fits e x y spots low l
            | inr l ↦ w.same x y (omega arith) l (omega arith)
          ];
          blank = rw (← there) w.blank;
        };
        at = (λ f. omega arith, λ f. absurd (f joint));
        line = λ f g. absurd (let h : Doc ≡ Punctuation Joint = sym g ∙ joint in cc);
      }

  pub shown : (rest : List Piece) (kind : LexemeKind) (p to q end : ℕ) → IsNext a p kind to → Pieces a to rest end → (kind ≡ Punctuation Joint → Follows rest) → Joined rest → IsCharBoundary a p → q ≤ length b → IsPrinted q p to kind rest → Shown a b p q kind to
  shown [] kind p to q end next filled follow joined bound inside e = elim (joint_or_not kind) [
    | inl j ↦ absurd (follow j)
    | inr j ↦ alone_shown [] kind p to q j next bound inside e
  ]
  shown (piece ∷ rest) kind p to q end next filled follow joined bound inside e = elim (joint_or_not kind) [
    | inr j ↦ alone_shown (piece ∷ rest) kind p to q j next bound inside e
    | inl j ↦
        let follows = follow j in
        let adv = piece-advances a p kind to next in
        let long = length-between a p to adv.1 in
        let tail = after (gap_of a kind p to) (parts (seen a (piece ∷ rest))) in
        let total = whole_length b (slice_range a p to) tail q (to - p) long inside e in
        let at : piece.span ≡ (record { from = to; to = piece.span.to }) = ap (λ f. let s : Span = record { from = f; to = piece.span.to } in s) filled.0 in
        let afterward : drop (q + (to - p)) b ≡ slice_range a to piece.span.to ++ after (gap_of a piece.kind to piece.span.to) (parts (seen a rest)) =
        drop_on b (slice_range a p to) tail q (to - p) long inside e
        ∙ ap (λ g. after g (parts (seen a (piece ∷ rest)))) (ap (λ x. gap_of a x p to) j)
        ∙ ap (after []) (parts-append (lexeme_of a piece.kind piece.span) (seen a rest) ∙ ap (λ s. parts (lexeme_of a piece.kind s) ++ parts (seen a rest)) at ∙ ap (λ ps. ps ++ parts (seen a rest)) (text piece.kind to piece.span.to (piece-boundary a p kind to utf8 bound next) filled.1 follows)) in
        more_shown kind p to q tail j next inside e
        (shown rest piece.kind to piece.span.to (q + (to - p)) end filled.1 filled.2 joined.0 joined.1 (piece-boundary a p kind to utf8 bound next) (omega (arith, total)) afterward)
  ]
