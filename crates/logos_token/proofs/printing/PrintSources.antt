-- The lexemes of a source have the properties that printing its tokens requires.
use Rattle.std.proofs.Common.{◌≡◌, ◌≢◌, ℕ, ◌+◌, ◌-◌, ◌<◌, ◌≤◌, ◌⊎◌, ◌==◌, ◌&&◌, ◌||◌, not, inl, inr, Bool, true, false, cond, List, [], ◌∷◌, ◌++◌, length, get_or, take, slice_range, Option, Some, None, is_some, IsUtf8, encode_utf8, refl, sym, ◌∙◌, ap, subst, arith, get_or-take, length-take-le}
use Rattle.std.proofs.lemmas.Bool.{cases_lt, cases_Bool, and_parts, or_cases, eqb-true, false≢true, true≢false}
use Rattle.std.proofs.lemmas.List.Edits.{between_more, between_none}
use Rattle.std.proofs.lemmas.Str.{encode_ascii}
use Rattle.std.specs.Str.{IsCharBoundary}
use Rattle.logos_lexeme.specs.LexemeCharacters.{character, past, is_space, is_start, is_mark}
use Rattle.logos_lexeme.specs.LexemeOpenings.{comment_opening, line_kind, block_kind, spacing, delimiter_kind, single_kind, opening_at, kind_of}
use Rattle.logos_lexeme.specs.LexemeEnds.{Ends}
use Rattle.logos_lexeme.specs.Lexemes.{IsNext, IsSuffixed}
use Rattle.logos_token.specs.Printing.{Part, opening_text, closing_text}
use Rattle.logos_lexeme.specs.declared.lexeme.Spacing.{Spacing}
use Rattle.logos_lexeme.specs.declared.lexeme.Spacing.TheVariants.{Alone, Joint}
use Rattle.logos_lexeme.specs.declared.lexeme.Delimiter.{Delimiter}
use Rattle.logos_lexeme.specs.declared.lexeme.LexemeKind.{LexemeKind}
use Rattle.logos_lexeme.specs.declared.lexeme.LexemeKind.TheVariants.{Gap, Identifier, Literal, Doc, Punctuation, Opening as OpeningKind, Closing}
use Rattle.logos_lexeme.specs.declared.lexeme.openings.Opening.{Opening}
use Rattle.logos_lexeme.proofs.CharacterLaws.{character-ascii, character-end, past-ascii, inside_from_byte}
use Rattle.logos_token.proofs.reading.PieceLemmas.{piece-advances, piece-boundary}
use Rattle.logos_lexeme.proofs.again.PrintWindows.{Window}
use Rattle.logos_lexeme.proofs.again.PrintEnds.{closes_long}
use Rattle.logos_lexeme.proofs.again.PrintNames.{start-0}
use Rattle.logos_lexeme.proofs.again.PrintLexemes.{is_literal, literal_kind, Opens, by_literal, by_comment, by_other, opens_at, Others, space_there, word_opens, single_opens, nothing_opens, others, comment_cases, line_kind_cases, block_kind_cases, unsuffixed, single_no_literal}
use Rattle.logos_token.proofs.printing.PrintPieces.{gap_of, HasText, HasJoints, HasDocs}
use Rattle.logos_lexeme.proofs.again.PrintFacts.{visible_no_space, start_large, start_no_space, mark_visible, literal_visible, byte_of}
use Rattle.logos_token.proofs.printing.PrintDelimiters.{IsDelimiter, opening, closing, is_delimiter}
use Rattle.logos_token.proofs.printing.PrintAgain.{HasNoSpace}

-- the occurrence of a lexeme at an offset
data Form (a : List ℕ) (p : ℕ) (kind : LexemeKind) (to : ℕ) : Type 0 where
  literal_form : kind ≡ Literal → Form a p kind to
  doc_form : kind ≡ Doc → p + 2 ≤ to → Form a p kind to
  word_form : kind ≡ Identifier → Form a p kind to
  single_form : single_kind a p ≡ Some kind → to ≡ past a p → Form a p kind to

record Occurs (a : List ℕ) (p : ℕ) (kind : LexemeKind) (to : ℕ) : Type 0 where
  form : Form a p kind to
  spaceless : is_space (character a p) ≡ false

single_which : (m l f : Bool) (s : Spacing) (d : Option LexemeKind) (kind : LexemeKind) → cond m (Some (Punctuation s)) (cond l (Some (Punctuation Joint)) (cond f (Some Gap) d)) ≡ Some kind →
    ((m ≡ true) × (kind ≡ Punctuation s)) ⊎ (((l ≡ true) × (kind ≡ Punctuation Joint)) ⊎ (((f ≡ true) × (kind ≡ Gap)) ⊎ (d ≡ Some kind)))
single_which true l f s d kind e = inl (refl, cc)
single_which false true f s d kind e = inr (inl (refl, cc))
single_which false false true s d kind e = inr (inr (inl (refl, cc)))
single_which false false false s d kind e = inr (inr (inr e))

abbrev Which : List ℕ → ℕ → LexemeKind → Type 0
Which a p kind = ((is_mark (character a p) ≡ true) × (kind ≡ Punctuation (spacing a (past a p)))) ⊎ (((((character a p == 39) && is_start (character a (past a p))) ≡ true) × (kind ≡ Punctuation Joint)) ⊎ (((((character a p == 0xFEFF) && (p == 0)) ≡ true) × (kind ≡ Gap)) ⊎ (delimiter_kind (character a p) ≡ Some kind)))

which : (a : List ℕ) (p : ℕ) (kind : LexemeKind) → single_kind a p ≡ Some kind → Which a p kind
unfolding single_kind
which a p kind e = single_which (is_mark (character a p)) ((character a p == 39) && is_start (character a (past a p))) ((character a p == 0xFEFF) && (p == 0)) (spacing a (past a p)) (delimiter_kind (character a p)) kind e

module _ (a : List ℕ) (utf8 : IsUtf8 a) (p to : ℕ) (bound : IsCharBoundary a p) (ahead : p < to) (fits : to ≤ length a) (last : IsCharBoundary a to) where
  -- the source up to there is a window of it
  here : Window a (take to a) p p (to - p)
  here =
      let e : p + (to - p) ≡ to = omega arith in
      let n : length (take to a) ≡ to = length-take-le to a fits in
      record {
        utf8 = utf8;
        ends = subst (IsCharBoundary a) (sym e) last;
        filled = omega arith;
        fits = omega arith;
        holds = omega arith;
        same = λ x y spots low high. let f : y ≡ x = omega arith in ap (λ i. get_or (take to a) i 0) f ∙ get_or-take to a x 0 (omega arith);
        blank = inr (inr (omega arith));
      }

  ascii_spaceless : 33 ≤ get_or a p 0 → get_or a p 0 < 128 → is_space (character a p) ≡ false
  ascii_spaceless low high = ap is_space (character-ascii a p high) ∙ visible_no_space (get_or a p 0) low high

  other_form : (o : Opening) → Others a (take to a) p p (to - p) here bound o → (end : ℕ) → Ends a p o end → kind_of o ≢ Gap → IsSuffixed a (kind_of o) end to → Occurs a p (kind_of o) to
  other_form o (space_there e) end ends no_gap suffixed = absurd (no_gap refl)
  other_form o (word_opens e) end ends no_gap suffixed = record { form = word_form refl; spaceless = e }
  other_form o (single_opens kind e f g) end ends no_gap suffixed = record {
    form = single_form g (unsuffixed a (take to a) p p (to - p) here bound kind end to (λ h. single_no_literal a (take to a) p p (to - p) here bound (g ∙ ap (λ (x : LexemeKind). Some x) h)) suffixed ∙ ends);
    spaceless = e;
  }
  other_form o nothing_opens end ends no_gap suffixed = absurd ends

  doc_long : (kind : LexemeKind) → kind ≡ Doc → (end : ℕ) → IsSuffixed a kind end to → to ≡ end
  doc_long kind doc end suffixed = unsuffixed a (take to a) p p (to - p) here bound kind end to (λ h. absurd (let i : Doc ≡ Literal = sym doc ∙ h in cc)) suffixed

  form_of : (o : Opening) → Opens a p o → (end : ℕ) → Ends a p o end → kind_of o ≢ Gap → IsSuffixed a (kind_of o) end to → Occurs a p (kind_of o) to
  form_of o (by_other e f) end ends no_gap suffixed = other_form _ (others a (take to a) p p (to - p) here bound) end ends no_gap suffixed
  form_of o (by_literal _ e) end ends no_gap suffixed =
      let v = literal_visible a p o e in
      record { form = literal_form (literal_kind a (take to a) p p (to - p) here bound o (is_literal a p o e)); spaceless = ascii_spaceless v.0 v.1 }
  form_of o (by_comment _ e f) end ends no_gap suffixed =
      let r = comment_cases a (take to a) p p (to - p) here bound o f in
      let slash = r.0 in
      elim r.1 [
        | inl s ↦
            let k_is : kind_of o ≡ line_kind a (p + 2) = ap kind_of s.1 in
            let doc : kind_of o ≡ Doc = elim (line_kind_cases a (take to a) p p (to - p) here bound (p + 2)) [ inl g ↦ k_is ∙ g | inr g ↦ absurd (no_gap (k_is ∙ g)) ] in
            let line = subst (λ x. Ends a p x end) s.1 ends in
            let begun = line.begun in
            record { form = doc_form doc (omega (arith, doc_long (kind_of o) doc end suffixed)); spaceless = ascii_spaceless (omega arith) (omega arith) }
        | inr s ↦
            let k_is : kind_of o ≡ block_kind a (p + 2) = ap kind_of s.1 in
            let doc : kind_of o ≡ Doc = elim (block_kind_cases a (take to a) p p (to - p) here bound (p + 2)) [ inl g ↦ k_is ∙ g | inr g ↦ absurd (no_gap (k_is ∙ g)) ] in
            let long = closes_long a (take to a) p p (to - p) here 1 (p + 2) end (subst (λ x. Ends a p x end) s.1 ends) (omega arith) in
            record { form = doc_form doc (omega (arith, doc_long (kind_of o) doc end suffixed)); spaceless = ascii_spaceless (omega arith) (omega arith) }
      ]

  occurs : (kind : LexemeKind) → IsNext a p kind to → kind ≢ Gap → Occurs a p kind to
  occurs kind n no_gap =
      let e = n.is_kind in
      subst (λ x. Occurs a p x to) (sym e) (form_of (opening_at a p) (opens_at a p) n.end n.ends (λ f. no_gap (e ∙ f)) (subst (λ x. IsSuffixed a x n.end to) e n.suffixed))

  -- a gap begins with white space, with a comment or with the mark at the beginning
  other_gap : (o : Opening) → Others a (take to a) p p (to - p) here bound o → (end : ℕ) → Ends a p o end → kind_of o ≡ Gap → is_space (character a p) ≡ false → 0 < p → ⊥
  other_gap o (space_there e) end ends gap spaceless positive = true≢false (sym e ∙ spaceless)
  other_gap o (word_opens e) end ends gap spaceless positive = absurd (cc)
  other_gap o (single_opens kind e f g) end ends gap spaceless positive = elim (which a p kind g) [
    | inl r ↦ absurd (let h : Punctuation (spacing a (past a p)) ≡ Gap = sym r.1 ∙ gap in cc)
    | inr r ↦ elim r [
      | inl s ↦ absurd (let h : Punctuation Joint ≡ Gap = sym s.1 ∙ gap in cc)
      | inr s ↦ elim s [
        | inl t ↦ let u = and_parts (character a p == 0xFEFF) (p == 0) t.0 in let z = eqb-true p 0 u.1 in omega arith
        | inr t ↦ no_gap_delimiter (character a p) kind (is_delimiter (character a p) kind t) gap
      ]
    ]
  ]
    where
      no_gap_delimiter : (c : ℕ) (kind : LexemeKind) → IsDelimiter c kind → kind ≡ Gap → ⊥
      no_gap_delimiter c kind (opening d e f) g = absurd (cc)
      no_gap_delimiter c kind (closing d e f) g = absurd (cc)
  other_gap o nothing_opens end ends gap spaceless positive = ends

  gap_of_none : (o : Opening) → Opens a p o → (end : ℕ) → Ends a p o end → kind_of o ≡ Gap → is_space (character a p) ≡ false → comment_opening a p ≡ None → 0 < p → ⊥
  gap_of_none o (by_other e f) end ends gap spaceless none positive = other_gap _ (others a (take to a) p p (to - p) here bound) end ends gap spaceless positive
  gap_of_none o (by_literal _ e) end ends gap spaceless none positive = absurd (let h : Literal ≡ Gap = sym (literal_kind a (take to a) p p (to - p) here bound o (is_literal a p o e)) ∙ gap in cc)
  gap_of_none o (by_comment _ e f) end ends gap spaceless none positive = absurd (let h : None ≡ Some o = sym none ∙ f in cc)

  no_gap_here : IsNext a p Gap to → is_space (character a p) ≡ false → comment_opening a p ≡ None → 0 < p → ⊥
  no_gap_here n spaceless none positive = gap_of_none (opening_at a p) (opens_at a p) n.end n.ends (sym n.is_kind) spaceless none positive

-- the four facts

module _ (a : List ℕ) (utf8 : IsUtf8 a) where
  occurs_at : (kind : LexemeKind) (p to : ℕ) → IsCharBoundary a p → IsNext a p kind to → kind ≢ Gap → Occurs a p kind to
  occurs_at kind p to bound n no_gap = let adv = piece-advances a p kind to n in occurs a utf8 p to bound adv.0 adv.1 (piece-boundary a p kind to utf8 bound n) kind n no_gap

  pub has_no_space : HasNoSpace a
  has_no_space kind p to bound n no_gap = (occurs_at kind p to bound n no_gap).spaceless

  docs_by : (p to : ℕ) → Form a p Doc to → p + 2 ≤ to
  docs_by p to (literal_form e) = absurd (cc)
  docs_by p to (doc_form e l) = l
  docs_by p to (word_form e) = absurd (cc)
  docs_by p to (single_form e f) = elim (which a p Doc e) [
    | inl r ↦ absurd (let h = r.1 in cc)
    | inr r ↦ elim r [ inl s ↦ absurd (let h = s.1 in cc) | inr s ↦ elim s [ inl t ↦ absurd (let h = t.1 in cc) | inr t ↦ absurd (no_doc (character a p) Doc (is_delimiter (character a p) Doc t) refl) ] ]
  ]
    where
      no_doc : (c : ℕ) (kind : LexemeKind) → IsDelimiter c kind → kind ≡ Doc → ⊥
      no_doc c kind (opening d e f) g = absurd (cc)
      no_doc c kind (closing d e f) g = absurd (cc)

  pub has_docs : HasDocs a
  has_docs p to bound n = docs_by p to (occurs_at Doc p to bound n (λ e. absurd (cc))).form

  -- a lexeme of one ASCII character
  delimiter_small : (c : ℕ) (kind : LexemeKind) → IsDelimiter c kind → c < 128
  delimiter_small c kind (opening d e f) = f
  delimiter_small c kind (closing d e f) = f

  single_small : (p : ℕ) (kind : LexemeKind) → kind ≢ Gap → single_kind a p ≡ Some kind → character a p < 128
  single_small p kind no_gap e = elim (which a p kind e) [
    | inl r ↦ (mark_visible (character a p) r.0).1
    | inr r ↦ elim r [
      | inl s ↦ let t = and_parts (character a p == 39) (is_start (character a (past a p))) s.0 in let c = eqb-true (character a p) 39 t.0 in omega arith
      | inr s ↦ elim s [ inl t ↦ absurd (no_gap t.1) | inr t ↦ delimiter_small (character a p) kind (is_delimiter (character a p) kind t) ]
    ]
  ]

  one_byte : (p to : ℕ) (kind : LexemeKind) → IsCharBoundary a p → p < length a → kind ≢ Gap → single_kind a p ≡ Some kind → to ≡ past a p → (get_or a p 0 ≡ character a p) × (slice_range a p to ≡ character a p ∷ [])
  one_byte p to kind bound inside no_gap e f =
      let small = single_small p kind no_gap e in
      let byte = byte_of a p utf8 bound inside small in
      let is : to ≡ p + 1 = f ∙ past-ascii a p (omega arith) in
      (byte, ap (slice_range a p) is ∙ between_more a p p 0 (omega arith) inside ∙ ap (λ xs. xs ++ get_or a p 0 ∷ []) (between_none a p) ∙ ap (λ c. c ∷ []) byte)

  abbrev Text : ℕ → ℕ → List ℕ → Type 0
  Text p to text = text ≡ slice_range a p to

  mark_text : (p to : ℕ) (spacing : Spacing) → IsCharBoundary a p → p < length a → Form a p (Punctuation spacing) to → Text p to (encode_utf8 (get_or a p 0))
  mark_text p to s bound inside (literal_form e) = absurd (cc)
  mark_text p to s bound inside (doc_form e l) = absurd (cc)
  mark_text p to s bound inside (word_form e) = absurd (cc)
  mark_text p to s bound inside (single_form e f) =
      let one = one_byte p to (Punctuation s) bound inside (λ g. absurd (cc)) e f in
      let small = single_small p (Punctuation s) (λ g. absurd (cc)) e in
      ap encode_utf8 one.0 ∙ encode_ascii (character a p) small ∙ sym one.1

  opening_by : (c : ℕ) (kind : LexemeKind) → IsDelimiter c kind → (d : Delimiter) → kind ≡ OpeningKind d → opening_text d ≡ c ∷ []
  opening_by c kind (opening d e f) d' g = let h : d' ≡ d = cc in ap opening_text h ∙ e
  opening_by c kind (closing d e f) d' g = absurd (cc)

  closing_by : (c : ℕ) (kind : LexemeKind) → IsDelimiter c kind → (d : Delimiter) → kind ≡ Closing d → closing_text d ≡ c ∷ []
  closing_by c kind (opening d e f) d' g = absurd (cc)
  closing_by c kind (closing d e f) d' g = let h : d' ≡ d = cc in ap closing_text h ∙ e

  opening_at_text : (p to : ℕ) (d : Delimiter) → IsCharBoundary a p → p < length a → Form a p (OpeningKind d) to → Text p to (opening_text d)
  opening_at_text p to d bound inside (literal_form e) = absurd (cc)
  opening_at_text p to d bound inside (doc_form e l) = absurd (cc)
  opening_at_text p to d bound inside (word_form e) = absurd (cc)
  opening_at_text p to d bound inside (single_form e f) = elim (which a p (OpeningKind d) e) [
    | inl r ↦ absurd (let h = r.1 in cc)
    | inr r ↦ elim r [
      | inl s ↦ absurd (let h = s.1 in cc)
      | inr s ↦ elim s [
        | inl t ↦ absurd (let h = t.1 in cc)
        | inr t ↦ opening_by (character a p) (OpeningKind d) (is_delimiter (character a p) (OpeningKind d) t) d refl ∙ sym (one_byte p to (OpeningKind d) bound inside (λ g. absurd (cc)) e f).1
      ]
    ]
  ]

  closing_at_text : (p to : ℕ) (d : Delimiter) → IsCharBoundary a p → p < length a → Form a p (Closing d) to → Text p to (closing_text d)
  closing_at_text p to d bound inside (literal_form e) = absurd (cc)
  closing_at_text p to d bound inside (doc_form e l) = absurd (cc)
  closing_at_text p to d bound inside (word_form e) = absurd (cc)
  closing_at_text p to d bound inside (single_form e f) = elim (which a p (Closing d) e) [
    | inl r ↦ absurd (let h = r.1 in cc)
    | inr r ↦ elim r [
      | inl s ↦ absurd (let h = s.1 in cc)
      | inr s ↦ elim s [
        | inl t ↦ absurd (let h = t.1 in cc)
        | inr t ↦ closing_by (character a p) (Closing d) (is_delimiter (character a p) (Closing d) t) d refl ∙ sym (one_byte p to (Closing d) bound inside (λ g. absurd (cc)) e f).1
      ]
    ]
  ]

  part_with : List ℕ → List ℕ → List Part
  part_with text gap = (record { text = text; gap = gap }) ∷ []

  pub has_text : HasText a
  unfolding part_with
  has_text Gap p to bound n no_gap = absurd (no_gap refl)
  has_text Identifier p to bound n no_gap = refl
  has_text Literal p to bound n no_gap = refl
  has_text Doc p to bound n no_gap = refl
  has_text (Punctuation s) p to bound n no_gap = let adv = piece-advances a p (Punctuation s) to n in ap (λ t. part_with t (gap_of a (Punctuation s) p to)) (mark_text p to s bound (omega (arith, adv.0, adv.1)) (occurs_at (Punctuation s) p to bound n no_gap).form)
  has_text (OpeningKind d) p to bound n no_gap = let adv = piece-advances a p (OpeningKind d) to n in ap (λ t. part_with t (gap_of a (OpeningKind d) p to)) (opening_at_text p to d bound (omega (arith, adv.0, adv.1)) (occurs_at (OpeningKind d) p to bound n no_gap).form)
  has_text (Closing d) p to bound n no_gap = let adv = piece-advances a p (Closing d) to n in ap (λ t. part_with t (gap_of a (Closing d) p to)) (closing_at_text p to d bound (omega (arith, adv.0, adv.1)) (occurs_at (Closing d) p to bound n no_gap).form)

  -- after joint punctuation

  record IsCharacterHere (x : ℕ) : Type 0 where
    inside : x < length a
    spaceless : is_space (character a x) ≡ false
    none : comment_opening a x ≡ None

  joint_test : (t : Bool) → cond t Joint Alone ≡ Joint → t ≡ true
  joint_test true e = refl
  joint_test false e = absurd (cc)

  nothing_there : (o : Option Opening) → not (is_some o) ≡ true → o ≡ None
  nothing_there None e = refl
  nothing_there (Some x) e = absurd (false≢true e)

  visible_here : (x : ℕ) → 33 ≤ get_or a x 0 → get_or a x 0 < 128 → comment_opening a x ≡ None → IsCharacterHere x
  visible_here x low high none = record { inside = inside_from_byte a x (omega arith); spaceless = ap is_space (character-ascii a x high) ∙ visible_no_space (get_or a x 0) low high; none = none }

  joint_here : (x : ℕ) → spacing a x ≡ Joint → IsCharacterHere x
  unfolding spacing
  joint_here x e =
      let c = get_or a x 0 in
      let m = is_mark c || (c == 39) in
      let t = and_parts m (not (is_some (comment_opening a x))) (joint_test (m && not (is_some (comment_opening a x))) e) in
      let none = nothing_there (comment_opening a x) t.1 in
      elim (or_cases (is_mark c) (c == 39) t.0) [
        | inl f ↦ let v = mark_visible c f in visible_here x v.0 v.1 none
        | inr f ↦ let g = eqb-true c 39 f in visible_here x (omega arith) (omega arith) none
      ]

  no_slash : (x : ℕ) → (get_or a x 0 == 47) ≡ false → comment_opening a x ≡ None
  unfolding comment_opening
  no_slash x e = rw e refl

  start_here : (x : ℕ) → is_start (character a x) ≡ true → IsCharacterHere x
  start_here x e = record {
    inside = elim (cases_lt x (length a)) [ inl l ↦ l | inr l ↦ absurd (false≢true (sym start-0 ∙ ap is_start (sym (character-end a x l)) ∙ e)) ];
    spaceless = start_no_space (character a x) e;
    none = no_slash x (elim (cases_Bool (get_or a x 0 == 47)) [
      | inr f ↦ f
      | inl f ↦ absurd (let g = eqb-true (get_or a x 0) 47 f in let h = start_large (character a x) e in let i = character-ascii a x (omega arith) in omega arith)
    ]);
  }

  joint_afterward : (p to : ℕ) → Form a p (Punctuation Joint) to → IsCharacterHere to
  joint_afterward p to (literal_form e) = absurd (cc)
  joint_afterward p to (doc_form e l) = absurd (cc)
  joint_afterward p to (word_form e) = absurd (cc)
  joint_afterward p to (single_form e f) = elim (which a p (Punctuation Joint) e) [
    | inl r ↦ let g : spacing a (past a p) ≡ Joint = let h = r.1 in cc in rw f (joint_here (past a p) g)
    | inr r ↦ elim r [
      | inl s ↦ let t = and_parts (character a p == 39) (is_start (character a (past a p))) s.0 in rw f (start_here (past a p) t.1)
      | inr s ↦ elim s [
        | inl t ↦ absurd (let h = t.1 in cc)
        | inr t ↦ no_mark (character a p) (Punctuation Joint) (is_delimiter (character a p) (Punctuation Joint) t) refl
      ]
    ]
  ]
    where
      no_mark : (c : ℕ) (kind : LexemeKind) → IsDelimiter c kind → kind ≡ Punctuation Joint → IsCharacterHere to
      no_mark c kind (opening d e f) g = absurd (cc)
      no_mark c kind (closing d e f) g = absurd (cc)

  pub has_joints : HasJoints a
  has_joints p to [] bound n filled = let h = joint_afterward p to (occurs_at (Punctuation Joint) p to bound n (λ e. absurd (cc))).form in let l = h.inside in omega arith
  has_joints p to (piece ∷ rest) bound n filled = λ gap.
      let h = joint_afterward p to (occurs_at (Punctuation Joint) p to bound n (λ e. absurd (cc))).form in
      let adv = piece-advances a p (Punctuation Joint) to n in
      let next : IsNext a to Gap piece.span.to = subst (λ k. IsNext a to k piece.span.to) gap filled.1 in
      let ahead = piece-advances a to Gap piece.span.to next in
      let bound' = piece-boundary a p (Punctuation Joint) to utf8 bound n in
      no_gap_here a utf8 to piece.span.to bound' ahead.0 ahead.1 (piece-boundary a to Gap piece.span.to utf8 bound' next) next h.spaceless h.none (omega (arith, adv.0))
