-- Names, comments and lexemes of one character in a window.
use Rattle.std.proofs.Common.{◌≡◌, ℕ, ◌+◌, ◌<◌, ◌≤◌, ◌⊎◌, ◌==◌, ◌&&◌, ◌||◌, not, inl, inr, Bool, true, false, cond, List, get_or, Option, Some, None, is_some, MatchOption, refl, sym, ◌∙◌, ap, subst, arith}
use Rattle.std.proofs.lemmas.Bool.{cases_lt, cases_Bool, and_parts, or_cases, eqb-true, eq-eqb, false≢true, true≢false, cond-true, cond-false}
use Rattle.std.proofs.lemmas.Str.{IsCharBoundary-after_ascii}
use Rattle.std.specs.Str.{IsCharBoundary}
use Rattle.unicode_ident.proofs.IdentLemmas.{is_xid_start-ascii, is_xid_continue-ascii}
use Rattle.logos_lexeme.specs.LexemeCharacters.{character, past, is_start, is_continuing, is_mark}
use Rattle.logos_lexeme.specs.LexemeRuns.{Steps, here, step, Run, Passes}
use Rattle.logos_lexeme.specs.LexemeOpenings.{name_at, comment_opening, line_kind, block_kind, spacing}
use Rattle.logos_lexeme.specs.LexemeEnds.{IsName, IsSuffix}
use Rattle.logos_lexeme.specs.declared.lexeme.Spacing.TheVariants.{Alone, Joint}
use Rattle.logos_lexeme.specs.declared.lexeme.LexemeKind.{LexemeKind}
use Rattle.logos_lexeme.specs.declared.lexeme.LexemeKind.TheVariants.{Gap, Doc}
use Rattle.logos_lexeme.specs.declared.lexeme.openings.Opening.{Opening}
use Rattle.logos_lexeme.specs.declared.lexeme.openings.Opening.TheVariants.{Line, Block}
use Rattle.logos_lexeme.proofs.CharacterLaws.{past-boundary, past-ascii, past-moves, inside_from_byte, character-ascii}
use Rattle.logos_lexeme.proofs.EndLaws.{run-le}
use Rattle.logos_lexeme.proofs.again.PrintWindows.{Window, blank_fails, blank_character, same_character, same_past}
use Rattle.logos_lexeme.proofs.again.PrintEnds.{run_same}

-- a space, a line feed and the end of a text are not in these classes

pub start-32 : is_start 32 ≡ false
unfolding is_start
start-32 = rw (is_xid_start-ascii 32 (omega arith)) refl

pub start-10 : is_start 10 ≡ false
unfolding is_start
start-10 = rw (is_xid_start-ascii 10 (omega arith)) refl

pub start-0 : is_start 0 ≡ false
unfolding is_start
start-0 = rw (is_xid_start-ascii 0 (omega arith)) refl

pub start-34 : is_start 34 ≡ false
unfolding is_start
start-34 = rw (is_xid_start-ascii 34 (omega arith)) refl

pub start-35 : is_start 35 ≡ false
unfolding is_start
start-35 = rw (is_xid_start-ascii 35 (omega arith)) refl

pub start-47 : is_start 47 ≡ false
unfolding is_start
start-47 = rw (is_xid_start-ascii 47 (omega arith)) refl

pub start-39 : is_start 39 ≡ false
unfolding is_start
start-39 = rw (is_xid_start-ascii 39 (omega arith)) refl

pub start-114 : is_start 114 ≡ true
unfolding is_start
start-114 = rw (is_xid_start-ascii 114 (omega arith)) refl

pub continuing-32 : is_continuing 32 ≡ false
unfolding is_continuing
continuing-32 = rw (is_xid_continue-ascii 32 (omega arith)) refl

pub continuing-10 : is_continuing 10 ≡ false
unfolding is_continuing
continuing-10 = rw (is_xid_continue-ascii 10 (omega arith)) refl

pub continuing-0 : is_continuing 0 ≡ false
unfolding is_continuing
continuing-0 = rw (is_xid_continue-ascii 0 (omega arith)) refl

pub continuing-34 : is_continuing 34 ≡ false
unfolding is_continuing
continuing-34 = rw (is_xid_continue-ascii 34 (omega arith)) refl

pub continuing-35 : is_continuing 35 ≡ false
unfolding is_continuing
continuing-35 = rw (is_xid_continue-ascii 35 (omega arith)) refl

pub continuing-39 : is_continuing 39 ≡ false
unfolding is_continuing
continuing-39 = rw (is_xid_continue-ascii 39 (omega arith)) refl

pub mark-32 : is_mark 32 ≡ false
unfolding is_mark
mark-32 = refl

pub mark-10 : is_mark 10 ≡ false
unfolding is_mark
mark-10 = refl

pub mark-0 : is_mark 0 ≡ false
unfolding is_mark
mark-0 = refl

pub mark-39 : is_mark 39 ≡ false
unfolding is_mark
mark-39 = refl

abbrev pub raw_name : List ℕ → ℕ → Bool
raw_name bytes at = ((get_or bytes at 0 == 114) && (get_or bytes (at + 1) 0 == 35)) && is_start (character bytes (at + 2))

-- the parts of a raw name
pub raw_parts : (bytes : List ℕ) (at : ℕ) → raw_name bytes at ≡ true → (get_or bytes at 0 ≡ 114) × (get_or bytes (at + 1) 0 ≡ 35) × (is_start (character bytes (at + 2)) ≡ true)
raw_parts bytes at e =
    let both = and_parts ((get_or bytes at 0 == 114) && (get_or bytes (at + 1) 0 == 35)) (is_start (character bytes (at + 2))) e in
    let two = and_parts (get_or bytes at 0 == 114) (get_or bytes (at + 1) 0 == 35) both.0 in
    (eqb-true (get_or bytes at 0) 114 two.0, eqb-true (get_or bytes (at + 1) 0) 35 two.1, both.1)

name-raw : (bytes : List ℕ) (at : ℕ) → raw_name bytes at ≡ true → name_at bytes at ≡ Some (at + 2)
unfolding name_at
name-raw bytes at e = cond-true (raw_name bytes at) (Some (at + 2)) (cond (is_start (character bytes at)) (Some at) None) e

name-plain : (bytes : List ℕ) (at : ℕ) → raw_name bytes at ≡ false → is_start (character bytes at) ≡ true → name_at bytes at ≡ Some at
unfolding name_at
name-plain bytes at e f = cond-false (raw_name bytes at) (Some (at + 2)) (cond (is_start (character bytes at)) (Some at) None) e ∙ cond-true (is_start (character bytes at)) (Some at) None f

name-nothing : (bytes : List ℕ) (at : ℕ) → raw_name bytes at ≡ false → is_start (character bytes at) ≡ false → name_at bytes at ≡ None
unfolding name_at
name-nothing bytes at e f = cond-false (raw_name bytes at) (Some (at + 2)) (cond (is_start (character bytes at)) (Some at) None) e ∙ cond-false (is_start (character bytes at)) (Some at) None f

-- an identifier begins with `r#` or with a character that may begin one
pub data Names (bytes : List ℕ) (at : ℕ) : Option ℕ → Type 0 where
  raw : raw_name bytes at ≡ true → Names bytes at (Some (at + 2))
  plain : is_start (character bytes at) ≡ true → Names bytes at (Some at)
  nothing : is_start (character bytes at) ≡ false → Names bytes at None

pub names : (bytes : List ℕ) (at : ℕ) → Names bytes at (name_at bytes at)
names bytes at = elim (cases_Bool (raw_name bytes at)) [
  | inl e ↦ subst (Names bytes at) (sym (name-raw bytes at e)) (raw e)
  | inr e ↦ elim (cases_Bool (is_start (character bytes at))) [
    | inl f ↦ subst (Names bytes at) (sym (name-plain bytes at e f)) (plain f)
    | inr f ↦ subst (Names bytes at) (sym (name-nothing bytes at e f)) (nothing f)
  ]
]

first_passes : (test : ℕ → Bool) (bytes : List ℕ) (x z : ℕ) → Steps (Passes test bytes) x z → x < z → test (character bytes x) ≡ true
first_passes test bytes x z here l = absurd (omega arith)
first_passes test bytes x z (step s r) l = s.passes

module _ (a b : List ℕ) (p q k : ℕ) (w : Window a b p q k) where
  abbrev Letters : List ℕ → ℕ → ℕ → Type 0
  Letters bytes name to = Run (Passes is_continuing bytes) (past bytes name) to

  letters_same : (x y : ℕ) → x + q ≡ y + p → p ≤ x → IsCharBoundary a x → Letters a x (p + k) → Letters b y (q + k)
  letters_same x y e low bound r =
      let ahead = past-moves a x in
      let le = run-le is_continuing a (past a x) (p + k) r in
      let f = same_past a b p q k w x y e low (omega arith) bound in
      run_same a b p q k w is_continuing continuing-32 continuing-10 continuing-0 (past a x) (past b y) (f, omega arith) (past-boundary a x w.utf8 bound (let g = w.fits in omega arith)) r

  raw_same : (x y : ℕ) → x + q ≡ y + p → p ≤ x → IsCharBoundary a x → raw_name a x ≡ true → Letters a (x + 2) (p + k) → IsName b y (q + k)
  raw_same x y e low bound t r =
      let parts = raw_parts a x t in
      let r1 = parts.1 in
      let ahead = past-moves a (x + 2) in
      let le = run-le is_continuing a (past a (x + 2)) (p + k) r in
      let next : IsCharBoundary a (x + 1 + 1) = IsCharBoundary-after_ascii a (x + 1) w.utf8 (inside_from_byte a (x + 1) (omega arith)) (omega arith) in
      let plus : x + 1 + 1 ≡ x + 2 = omega arith in
      let bound2 : IsCharBoundary a (x + 2) = subst (IsCharBoundary a) plus next in
      let one : (get_or b y 0 == 114) ≡ true = eq-eqb (get_or b y 0) 114 (w.same x y e low (omega arith) ∙ parts.0) in
      let two : (get_or b (y + 1) 0 == 35) ≡ true = eq-eqb (get_or b (y + 1) 0) 35 (w.same (x + 1) (y + 1) (omega arith) (omega arith) (omega arith) ∙ parts.1) in
      let three : is_start (character b (y + 2)) ≡ true = ap is_start (same_character a b p q k w (x + 2) (y + 2) (omega arith) (omega arith) (omega arith) bound2) ∙ parts.2 in
      let is_raw : raw_name b y ≡ true = rw (one, two, three) refl in
      rw (name-raw b y is_raw) (letters_same (x + 2) (y + 2) (omega arith) (omega arith) bound2 r)

  plain_same : (x y : ℕ) → x + q ≡ y + p → p ≤ x → IsCharBoundary a x → is_start (character a x) ≡ true → Letters a x (p + k) → IsName b y (q + k)
  plain_same x y e low bound t r =
      let ahead = past-moves a x in
      let le = run-le is_continuing a (past a x) (p + k) r in
      let start : is_start (character b y) ≡ true = ap is_start (same_character a b p q k w x y e low (omega arith) bound) ∙ t in
      let not_raw : raw_name b y ≡ true → ⊥ = λ u.
      let parts = raw_parts b y u in
      let hash = parts.1 in
      let letter : get_or a x 0 ≡ 114 = sym (w.same x y e low (omega arith)) ∙ parts.0 in
      let one = past-ascii a x (omega arith) in
      elim (cases_lt (x + 1) (p + k)) [
        | inl l ↦
            let same : get_or a (x + 1) 0 ≡ 35 = sym (w.same (x + 1) (y + 1) (omega arith) (omega arith) l) ∙ hash in
            let first : is_continuing (character a (past a x)) ≡ true = first_passes is_continuing a (past a x) (p + k) r.steps (omega arith) in
            let c : character a (past a x) ≡ 35 = ap (character a) one ∙ character-ascii a (x + 1) (omega arith) ∙ same in
            false≢true (sym continuing-35 ∙ ap is_continuing (sym c) ∙ first)
        | inr l ↦ false≢true (sym (blank_fails a b p q k w (λ c. c == 35) refl refl refl (y + 1) (omega arith)) ∙ eq-eqb (get_or b (y + 1) 0) 35 hash)
      ] in
      let is_plain : raw_name b y ≡ false = elim (cases_Bool (raw_name b y)) [ inl u ↦ absurd (not_raw u) | inr u ↦ u ] in
      rw (name-plain b y is_plain start) (letters_same x y e low bound r)

  name_by : (x y : ℕ) → x + q ≡ y + p → p ≤ x → IsCharBoundary a x → (o : Option ℕ) → Names a x o → MatchOption o ⊥ (λ n. Letters a n (p + k)) → IsName b y (q + k)
  name_by x y e low bound o (raw t) r = raw_same x y e low bound t r
  name_by x y e low bound o (plain t) r = plain_same x y e low bound t r
  name_by x y e low bound o (nothing t) r = absurd r

  pub name_same : (x y : ℕ) → x + q ≡ y + p → p ≤ x → IsCharBoundary a x → IsName a x (p + k) → IsName b y (q + k)
  name_same x y e low bound r = name_by x y e low bound (name_at a x) (names a x) r

  pub name_blank : (y : ℕ) → y ≡ q + k → name_at b y ≡ None
  name_blank y e =
      let r : raw_name b y ≡ false = rw (blank_fails a b p q k w (λ c. c == 114) refl refl refl y e) refl in
      name-nothing b y r (blank_character a b p q k w is_start start-32 start-10 start-0 y e)

  suffix_some : (y : ℕ) (to : ℕ) (o : Option ℕ) → MatchOption o ⊥ (λ n. Letters b n to) → MatchOption o (to ≡ y) (λ n. Letters b n to)
  suffix_some y to None r = absurd r
  suffix_some y to (Some n) r = r

  suffix_by : (x y : ℕ) → x + q ≡ y + p → p ≤ x → IsCharBoundary a x → (o : Option ℕ) → Names a x o → MatchOption o (p + k ≡ x) (λ n. Letters a n (p + k)) → IsSuffix b y (q + k)
  suffix_by x y e low bound o (raw t) r = suffix_some y (q + k) (name_at b y) (raw_same x y e low bound t r)
  suffix_by x y e low bound o (plain t) r = suffix_some y (q + k) (name_at b y) (plain_same x y e low bound t r)
  suffix_by x y e low bound o (nothing t) r = rw (name_blank y (omega arith)) (omega arith)

  pub suffix_same : (x y : ℕ) → x + q ≡ y + p → p ≤ x → IsCharBoundary a x → IsSuffix a x (p + k) → IsSuffix b y (q + k)
  suffix_same x y e low bound r = suffix_by x y e low bound (name_at a x) (names a x) r

  -- no name where there was none
  pub no_name : IsCharBoundary a p → is_start (character a p) ≡ false → name_at b q ≡ None
  no_name bound t =
      let filled = w.filled in
      let c = same_character a b p q k w p q (omega arith) (omega arith) (omega arith) bound in
      let start : is_start (character b q) ≡ false = ap is_start c ∙ t in
      let not_raw : raw_name b q ≡ true → ⊥ = λ u.
      let letter = (raw_parts b q u).0 in
      let same : character b q ≡ 114 = character-ascii b q (omega arith) ∙ letter in
      false≢true (sym start ∙ ap is_start same ∙ start-114) in
      let plain : raw_name b q ≡ false = elim (cases_Bool (raw_name b q)) [ inl u ↦ absurd (not_raw u) | inr u ↦ u ] in
      name-nothing b q plain start

  -- no comment where there was none

  abbrev comment_tests : Bool → Bool → Bool → LexemeKind → LexemeKind → Option Opening
  comment_tests s l c m n = cond (not s) None (cond l (Some (Line m)) (cond c (Some (Block n)) None))

  no_tests : (s l c : Bool) (m n : LexemeKind) → comment_tests s l c m n ≡ None → (s ≡ false) ⊎ ((l ≡ false) × (c ≡ false))
  no_tests false l c m n e = inl refl
  no_tests true true c m n e = absurd (cc)
  no_tests true false true m n e = absurd (cc)
  no_tests true false false m n e = inr (refl, refl)

  same_or_blank : (x y c : ℕ) → x + q ≡ y + p → p ≤ x → x ≤ p + k → (32 == c) ≡ false → (10 == c) ≡ false → (0 == c) ≡ false → (get_or a x 0 == c) ≡ false → (get_or b y 0 == c) ≡ false
  same_or_blank x y c e low high s l n t = elim (cases_lt x (p + k)) [
    | inl m ↦ ap (λ d. d == c) (w.same x y e low m) ∙ t
    | inr m ↦ blank_fails a b p q k w (λ d. d == c) s l n y (omega arith)
  ]

  pub no_comment : (x y : ℕ) → x + q ≡ y + p → p ≤ x → x < p + k → comment_opening a x ≡ None → comment_opening b y ≡ None
  unfolding comment_opening
  no_comment x y e low high none = elim (no_tests (get_or a x 0 == 47) (get_or a (x + 1) 0 == 47) (get_or a (x + 1) 0 == 42) (line_kind a (x + 2)) (block_kind a (x + 2)) none) [
    | inl f ↦ let g : (get_or b y 0 == 47) ≡ false = ap (λ c. c == 47) (w.same x y e low high) ∙ f in rw g refl
    | inr f ↦
        let g : (get_or b (y + 1) 0 == 47) ≡ false = same_or_blank (x + 1) (y + 1) 47 (omega arith) (omega arith) (omega arith) refl refl refl f.0 in
        let h : (get_or b (y + 1) 0 == 42) ≡ false = same_or_blank (x + 1) (y + 1) 42 (omega arith) (omega arith) (omega arith) refl refl refl f.1 in
        elim (cases_Bool (get_or b y 0 == 47)) [ inl s ↦ rw (s, g, h) refl | inr s ↦ rw s refl ]
  ]

  -- documentation in a line
  line_test : (t : Bool) → cond t Doc Gap ≡ Doc → t ≡ true
  line_test true e = refl
  line_test false e = absurd (cc)

  pub line_doc : (x y : ℕ) → x + q ≡ y + p → p ≤ x → x < p + k → line_kind a x ≡ Doc → line_kind b y ≡ Doc
  unfolding line_kind
  line_doc x y e low high is =
      let c = get_or a x 0 in
      let d = get_or a (x + 1) 0 in
      let t = line_test ((c == 33) || ((c == 47) && not (d == 47))) is in
      rw (w.same x y e low high) (elim (or_cases (c == 33) ((c == 47) && not (d == 47)) t) [
        | inl f ↦ rw f refl
        | inr f ↦
            let g = and_parts (c == 47) (not (d == 47)) f in
            let h : (d == 47) ≡ false = elim (cases_Bool (d == 47)) [ inl i ↦ absurd (false≢true (sym (ap not i) ∙ g.1)) | inr i ↦ i ] in
            let j : (get_or b (y + 1) 0 == 47) ≡ false = same_or_blank (x + 1) (y + 1) 47 (omega arith) (omega arith) (omega arith) refl refl refl h in
            elim (cases_Bool (c == 33)) [ inl i ↦ rw i refl | inr i ↦ rw (i, g.0, j) refl ]
      ])

  pub block_doc : (x y : ℕ) → x + q ≡ y + p → p ≤ x → x + 1 < p + k → block_kind b y ≡ block_kind a x
  unfolding block_kind
  block_doc x y e low high = rw (w.same x y e low (omega arith), w.same (x + 1) (y + 1) (omega arith) (omega arith) high) refl

  -- spacing

  joint_test : (t : Bool) → cond t Joint Alone ≡ Joint → t ≡ true
  joint_test true e = refl
  joint_test false e = absurd (cc)

  nothing_there : {A : Type 0} (o : Option A) → is_some o ≡ false → o ≡ None
  nothing_there None e = refl
  nothing_there (Some x) e = absurd (true≢false e)

  not_true : (t : Bool) → not t ≡ true → t ≡ false
  not_true false e = refl
  not_true true e = absurd (false≢true e)

  pub joint_same : (x y : ℕ) → x + q ≡ y + p → p ≤ x → x < p + k → spacing a x ≡ Joint → spacing b y ≡ Joint
  unfolding spacing
  joint_same x y e low high is =
      let m = is_mark (get_or a x 0) || (get_or a x 0 == 39) in
      let t = and_parts m (not (is_some (comment_opening a x))) (joint_test (m && not (is_some (comment_opening a x))) is) in
      let none = nothing_there (comment_opening a x) (not_true (is_some (comment_opening a x)) t.1) in
      rw (w.same x y e low high, t.0, no_comment x y e low high none) refl

  pub alone_blank : (y : ℕ) → y ≡ q + k → spacing b y ≡ Alone
  unfolding spacing
  alone_blank y e = rw (blank_fails a b p q k w is_mark mark-32 mark-10 mark-0 y e, blank_fails a b p q k w (λ c. c == 39) refl refl refl y e) refl
