-- The kind of the byte before a point determines the look-around assertions that hold there.
use Rattle.std.proofs.Common.{◌≡◌, ℕ, Bool, true, false, not, ◌||◌, ◌&&◌, ap₂, ◌==◌, List, Option, Some, None, is_none, refl, sym, ap, ◌∙◌, eqb-true, if◌then◌else◌}
use Rattle.std.proofs.Math.Path.{fun_ext}
use Rattle.logos_hir.specs.Text.{byte_before, byte_after}
use Rattle.logos_hir.specs.Looks.{is_byte, is_word, differ, holds_between}
use Rattle.logos_hir.specs.declared.hir.Look.{Look}
use Rattle.logos_hir.specs.declared.hir.Look.TheVariants.{Start, End, StartLF, EndLF, StartCRLF, EndCRLF, WordAscii, WordAsciiNegate}
use Rattle.logos_positions.specs.Core.{holds_at}
use Rattle.logos_positions.specs.Kinds.{is_word_byte, side_before, test_at, kind_of_byte, kind_before, context_at}
use Rattle.logos_positions.specs.declared.positions.look.ByteKind.{ByteKind}
use Rattle.logos_positions.specs.declared.positions.look.ByteKind.TheVariants as kind

kind_by : Bool → Bool → Bool → ByteKind
kind_by w c l = if w then kind.Word else (if c then kind.Cr else (if l then kind.Lf else kind.Other))

none_kind : (w c l : Bool) → is_none (side_before (kind_by w c l)) ≡ false
unfolding kind_by
none_kind true c l = refl
none_kind false true l = refl
none_kind false false true = refl
none_kind false false false = refl

word_kind : (w c l : Bool) → is_word (side_before (kind_by w c l)) ≡ w
unfolding kind_by
word_kind true c l = refl
word_kind false true l = refl
word_kind false false true = refl
word_kind false false false = refl

cr_kind : (w c l : Bool) → (w ≡ true → c ≡ false) → is_byte 13 (side_before (kind_by w c l)) ≡ c
unfolding kind_by
cr_kind true c l h = sym (h refl)
cr_kind false true l h = refl
cr_kind false false true h = refl
cr_kind false false false h = refl

lf_kind : (w c l : Bool) → (w ≡ true → l ≡ false) → (c ≡ true → l ≡ false) → is_byte 10 (side_before (kind_by w c l)) ≡ l
unfolding kind_by
lf_kind true c l h k = sym (h refl)
lf_kind false true l h k = sym (k refl)
lf_kind false false true h k = refl
lf_kind false false false h k = refl

-- a byte with a property is none without it
not_this : (test : ℕ → Bool) (b n : ℕ) → test n ≡ false → test b ≡ true → (b == n) ≡ false
not_this test b n out is = go (b == n) refl
  where
    go : (t : Bool) → (b == n) ≡ t → (b == n) ≡ false
    go true e = absurd (differ_true (sym is ∙ ap test (eqb-true b n e) ∙ out))
      where
        differ_true : true ≡ false → ⊥
        differ_true h = cc
    go false e = e

module _ (b : ℕ) where
  same_none : is_none (side_before (kind_of_byte b)) ≡ false
  unfolding kind_by
  same_none = none_kind (is_word_byte b) (b == 13) (b == 10)

  same_word : is_word (side_before (kind_of_byte b)) ≡ is_word (Some b)
  unfolding kind_by
  same_word = word_kind (is_word_byte b) (b == 13) (b == 10)

  same_cr : is_byte 13 (side_before (kind_of_byte b)) ≡ (b == 13)
  unfolding kind_by
  same_cr = cr_kind (is_word_byte b) (b == 13) (b == 10) (not_this is_word_byte b 13 refl)

  same_lf : is_byte 10 (side_before (kind_of_byte b)) ≡ (b == 10)
  unfolding kind_by
  same_lf = lf_kind (is_word_byte b) (b == 13) (b == 10) (not_this is_word_byte b 10 refl) (not_this (λ x. x == 13) b 10 refl)

pub same_side : (l : Look) (o after : Option ℕ) → holds_between l (side_before (kind_before o)) after ≡ holds_between l o after
same_side l None after = refl
same_side Start (Some b) after = same_none b
same_side End (Some b) after = refl
same_side StartLF (Some b) after = rw (same_none b, same_lf b) refl
same_side EndLF (Some b) after = refl
same_side StartCRLF (Some b) after = rw (same_none b, same_lf b, same_cr b) refl
same_side EndCRLF (Some b) after = rw (same_cr b) refl
same_side WordAscii (Some b) after = rw (same_word b) refl
same_side WordAsciiNegate (Some b) after = rw (same_word b) refl

pub test_of_context : (bytes : List ℕ) (at : ℕ) → test_at (context_at bytes at) ≡ holds_at bytes at
test_of_context bytes at = fun_ext (λ l. same_side l (byte_before bytes at) (byte_after bytes at))

-- bytes of one kind are one for the looks in front of them
module _ (x y : ℕ) (same : kind_of_byte x ≡ kind_of_byte y) where
  word_after : is_word (Some x) ≡ is_word (Some y)
  word_after = sym (same_word x) ∙ ap (λ k. is_word (side_before k)) same ∙ same_word y

  cr_after : (x == 13) ≡ (y == 13)
  cr_after = sym (same_cr x) ∙ ap (λ k. is_byte 13 (side_before k)) same ∙ same_cr y

  lf_after : (x == 10) ≡ (y == 10)
  lf_after = sym (same_lf x) ∙ ap (λ k. is_byte 10 (side_before k)) same ∙ same_lf y

  after_side : (l : Look) (o : Option ℕ) → holds_between l o (Some x) ≡ holds_between l o (Some y)
  after_side Start o = refl
  after_side End o = refl
  after_side StartLF o = refl
  after_side EndLF o = lf_after
  after_side StartCRLF o = ap (λ b. (is_none o || is_byte 10 o) || (is_byte 13 o && not b)) lf_after
  after_side EndCRLF o = ap₂ (λ a b. a || (b && not (is_byte 13 o))) cr_after lf_after
  after_side WordAscii o = ap (differ (is_word o)) word_after
  after_side WordAsciiNegate o = ap (λ b. not (differ (is_word o) b)) word_after

  pub test_after : (before : ByteKind) → test_at (record { before = before; after = Some x }) ≡ test_at (record { before = before; after = Some y })
  test_after before = fun_ext (λ l. after_side l (side_before before))
