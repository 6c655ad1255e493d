-- The core pattern of a class of characters.
use Rattle.std.proofs.Common.{◌≡◌, ℕ, zero, suc, ◌+◌, ◌-◌, ◌^◌, ◌<◌, ◌≤◌, ◌↔◌, true, false, List, [], ◌∷◌, ◌++◌, length, take, drop, Option, Some, None, option_and_then, ◌⊎◌, inl, inr, ⊎_elim, refl, sym, ap, ◌∙◌, subst, arith, add-one, encode_utf8, ◌==◌, eq-eqb, slice_get, length-append}
use Rattle.std.proofs.lemmas.List.{length-take, length-drop, take-append-drop}
use Rattle.std.proofs.lemmas.Option.{same_Some}
use Rattle.std.proofs.lemmas.Bool.{and_parts, and_from}
use Rattle.std.proofs.lemmas.Bool.Decides.{nat_tests}
use lib.Utf8.{scalar}
use Rattle.logos_hir.specs.Tree as tree
use Rattle.logos_hir.specs.Text.{OccursAt}
use Rattle.logos_hir.specs.Matches.{Matches}
use Rattle.logos_hir.proofs.tree.Laws.{encoded}
use Rattle.logos_positions.specs.Core as core
use Rattle.logos_positions.specs.Core.{At, Reader, Occurs}
use Rattle.logos_positions.specs.inside.Characters.{IsOfScalars, IsCharOf}
use Rattle.logos_hir.specs.ByteRanges.{is_in}
use Rattle.logos_positions.specs.Positions.{Position, byte_of, member, within, Reads, begun}
use Rattle.logos_positions.specs.inside.Reader.{is_char_in, Spells, IsReaderOf, IsBegunAt}
use Rattle.logos_positions.specs.IsCore.{IsCoreOf}
use Rattle.logos_positions.proofs.classes.ReaderLemmas.{leaf_matches, leaf_begins}
use Rattle.logos_positions.proofs.classes.TextLemmas.{OccursAt-of_Spells, Spells-of_OccursAt, Spells-end, InRanges-of_is_in, is_in-of_InRanges}

pub scalars_only : (ranges : List (ℕ × ℕ)) → IsOfScalars (is_char_in ranges)
scalars_only ranges k h = (and_parts (scalar k) (is_in ranges k) h).0

-- the position to which the bytes lead from the beginning of a character, and from another position
abbrev follow_all : Reader → Option ℕ → List ℕ → Option ℕ
follow_all r o [] = o
follow_all r o (b ∷ bytes) = follow_all r (option_and_then (λ q. r.follow q b) o) bytes

abbrev read_all : Reader → List ℕ → Option ℕ
read_all r [] = None
read_all r (b ∷ bytes) = follow_all r (r.first b) bytes

follow_snoc : (r : Reader) (o : Option ℕ) (bytes : List ℕ) (x : ℕ) → follow_all r o (bytes ++ x ∷ []) ≡ option_and_then (λ q. r.follow q x) (follow_all r o bytes)
follow_snoc r o [] x = refl
follow_snoc r o (b ∷ bytes) x = follow_snoc r (option_and_then (λ q. r.follow q b) o) bytes x

read_snoc : (r : Reader) (b : ℕ) (bytes : List ℕ) (x : ℕ) → read_all r ((b ∷ bytes) ++ x ∷ []) ≡ option_and_then (λ q. r.follow q x) (read_all r (b ∷ bytes))
read_snoc r b bytes x = follow_snoc r (r.first b) bytes x

Spells-snoc : (bytes text : List ℕ) (x i m : ℕ) → Spells bytes text i m → slice_get bytes m ≡ Some x → Spells bytes (text ++ x ∷ []) i (suc m)
Spells-snoc bytes [] x i m h is = (subst (λ k. slice_get bytes k ≡ Some x) h is, ap suc h)
Spells-snoc bytes (b ∷ text) x i m h is = (h.0, Spells-snoc bytes text x (suc i) m h.1 is)

-- the bytes between two points are one text
Spells-one : (bytes text other : List ℕ) (i j : ℕ) → Spells bytes text i j → Spells bytes other i j → text ≡ other
Spells-one bytes [] [] i j f g = refl
Spells-one bytes [] (b ∷ other) i j f g = absurd (omega (arith, f, Spells-end bytes other (suc i) j g.1))
Spells-one bytes (b ∷ text) [] i j f g = absurd (omega (arith, g, Spells-end bytes text (suc i) j f.1))
Spells-one bytes (b ∷ text) (c ∷ other) i j f g =
    let e : b ≡ c = same_Some b c (sym f.0 ∙ g.0) in
    let t = Spells-one bytes text other (suc i) j f.1 g.1 in
    cc

-- the position of the reader is the one to which the bytes lead
Occurs-read : (r : Reader) (bytes : List ℕ) (i m p : ℕ) → Occurs r bytes i m p → (text : List ℕ) × Spells bytes text i m × (read_all r text ≡ Some p)
Occurs-read r bytes i zero p h = absurd h
Occurs-read r bytes i (suc m) p (x, is, le, inl (at, first)) =
    (x ∷ [], (subst (λ k. slice_get bytes k ≡ Some x) (sym at) is, ap suc (sym at)), first)
Occurs-read r bytes i (suc m) p (x, is, le, inr (q, le', before, follow)) =
    let u = Occurs-read r bytes i m q before in
    (u.0 ++ x ∷ [], Spells-snoc bytes u.0 x i m u.1 is, go u.0 u.2)
  where
    go : (text : List ℕ) → read_all r text ≡ Some q → read_all r (text ++ x ∷ []) ≡ Some p
    go [] e = absurd (cc)
    go (b ∷ text) e = read_snoc r b text x ∙ ap (option_and_then (λ k. r.follow k x)) e ∙ follow

-- the number of a position of a class
abbrev char_number : Reader → Position → Option ℕ
char_number r (byte_of n) = None
char_number r (member []) = Some 0
char_number r (member (b ∷ bytes)) = read_all r (b ∷ bytes)
char_number r (within n position) = None

module _ (ranges : List (ℕ × ℕ)) (r : Reader) (is : IsReaderOf (is_char_in ranges) r) (bytes : List ℕ) where
  char_matches : (i j : ℕ) → Occurs r bytes i j 0 ↔ Matches (tree.char_class ranges) bytes i j
  char_matches i j =
      let f = leaf_matches (is_char_in ranges) r is bytes (scalars_only ranges) i j in (
        λ h. let c = f.0 h in
            let p = and_parts (scalar c.char) (is_in ranges c.char) c.within in
            (c.char, c.scalar, InRanges-of_is_in ranges c.char p.1, OccursAt-of_Spells bytes (encode_utf8 c.char) i j c.spelled),
        λ h. f.1 (record {
          char = h.0;
          scalar = h.1;
          within = and_from (scalar h.0) (is_in ranges h.0) h.1 (is_in-of_InRanges ranges h.0 h.2);
          spelled = Spells-of_OccursAt bytes (encode_utf8 h.0) i j h.3;
        }),
      )

-- the beginning of a text
begun_whole : (n : ℕ) (text : List ℕ) → suc n ≡ length text → begun n text ≡ []
begun_whole n text e = let f : (n + 1 == length text) ≡ true = eq-eqb (n + 1) (length text) (omega arith) in rw f refl

begun_part : (n : ℕ) (text : List ℕ) → suc n < length text → begun n text ≡ take (suc n) text
begun_part n text lt = let f : (n + 1 == length text) ≡ false = not_eq (n + 1) (length text) (omega arith) in rw (f, add-one) refl
  where
    not_eq : (a b : ℕ) → (a ≡ b → ⊥) → (a == b) ≡ false
    not_eq a b d = grind (arith, nat_tests)

take_all : (n : ℕ) (xs : List ℕ) → length xs ≤ n → take n xs ≡ xs
take_all n [] le = nil n
  where
    nil : (n : ℕ) → ◌≡◌ {A = List ℕ} (take n []) []
    nil zero = refl
    nil (suc n) = refl
take_all zero (x ∷ xs) le = absurd (omega arith)
take_all (suc n) (x ∷ xs) le = ap (λ l. x ∷ l) (take_all n xs (omega arith))

take_front : (xs ys : List ℕ) → take (length xs) (xs ++ ys) ≡ xs
take_front [] ys = refl
take_front (x ∷ xs) ys = ap (λ l. x ∷ l) (take_front xs ys)

lt_or_eq : (n m : ℕ) → n < m → (suc n < m) ⊎ (suc n ≡ m)
lt_or_eq n m h = grind arith

zero_or_more : (p : ℕ) → (p ≡ 0) ⊎ (0 < p)
zero_or_more p = grind arith

number_of_text : (r : Reader) (text : List ℕ) → 0 < length text → char_number r (member text) ≡ read_all r text
number_of_text r [] some = absurd (omega arith)
number_of_text r (b ∷ text) some = refl

module _ (ranges : List (ℕ × ℕ)) (r : Reader) (is : IsReaderOf (is_char_in ranges) r) (bytes : List ℕ) (i at p : ℕ) where
  abbrev ByPosition : Type 0
  ByPosition = (position : Position) × Reads (tree.char_class ranges) bytes i position at × (char_number r position ≡ Some p)

  -- a character that is read whole
  whole_read : p ≡ 0 → Occurs r bytes i (suc at) p → ByPosition
  whole_read e h =
      let m = (char_matches ranges r is bytes i (suc at)).0 (subst (Occurs r bytes i (suc at)) e h) in
      let text = encode_utf8 m.0 in
      let some : 0 < length text = encoded m.0 in
      let n : suc (length text - 1) ≡ length text = omega arith in
      let all : take (length text - 1 + 1) text ≡ text = take_all (length text - 1 + 1) text (omega arith) in
      let occurs : OccursAt (take (length text - 1 + 1) text) bytes i (at + 1) =
      subst (λ t. OccursAt t bytes i (at + 1)) (sym all) (subst (λ k. OccursAt text bytes i k) (sym (add-one at)) m.3) in (
        member [],
        (m.0, length text - 1, m.1, m.2, omega arith, omega (arith, m.3.end), ap member (sym (begun_whole (length text - 1) text n)), occurs),
        ap Some (sym e),
      )

  -- a character that is begun
  begun_read : 0 < p → p ≤ r.others → Occurs r bytes i (suc at) p → ByPosition
  begun_read more le h =
      let b = (leaf_begins (is_char_in ranges) r is bytes (scalars_only ranges) i (suc at)).0 (p, more, le, h) in
      let read = b.read in
      let w = b.beginning.whole in
      let q = and_parts (scalar w.char) (is_in ranges w.char) w.within in
      let s = Occurs-read r bytes i (suc at) p h in
      let same : s.0 ≡ read = Spells-one bytes s.0 read i (suc at) s.1 b.spelled in
      let end = Spells-end bytes read i (suc at) b.spelled in
      let some = b.beginning.begun in
      let n : suc (length read - 1) ≡ length read = omega (arith, some) in
      let long : length (encode_utf8 w.char) ≡ length read + length b.beginning.rest = ap length w.spelled ∙ length-append read b.beginning.rest in
      let part : suc (length read - 1) < length (encode_utf8 w.char) = omega (arith, long, b.beginning.unended, n) in
      let front : take (suc (length read - 1)) (encode_utf8 w.char) ≡ read =
      ap (λ k. take k (encode_utf8 w.char)) n ∙ ap (take (length read)) w.spelled ∙ take_front read b.beginning.rest in
      let occurs : OccursAt (take (length read - 1 + 1) (encode_utf8 w.char)) bytes i (at + 1) =
      subst (λ t. OccursAt t bytes i (at + 1)) (sym (ap (λ k. take k (encode_utf8 w.char)) (add-one (length read - 1)) ∙ front))
      (subst (λ k. OccursAt read bytes i k) (sym (add-one at)) (OccursAt-of_Spells bytes read i (suc at) b.spelled)) in (
        member read,
        (
          w.char,
          length read - 1,
          w.scalar,
          InRanges-of_is_in ranges w.char q.1,
          omega (arith, part),
          omega (arith, end, n),
          ap member (sym (begun_part (length read - 1) (encode_utf8 w.char) part ∙ front)),
          occurs,
        ),
        number_of_text r read some ∙ ap (read_all r) (sym same) ∙ s.2,
      )

  read_position : ByPosition → Occurs r bytes i (suc at) p
  read_position (position, (c, n, scalar_c, within_c, lt, is_at, is_position, occurs), number) =
      ⊎_elim
      (λ part.
      let text = take (suc n) (encode_utf8 c) in
      let long = length-take (suc n) (encode_utf8 c) in
      let size : length text ≡ suc n = omega (arith, long) in
      let spelled : Spells bytes text i (suc at) =
      Spells-of_OccursAt bytes text i (suc at) (subst (λ t. OccursAt t bytes i (suc at)) (ap (λ k. take k (encode_utf8 c)) (add-one n))
      (subst (λ k. OccursAt (take (n + 1) (encode_utf8 c)) bytes i k) (add-one at) occurs)) in
      let whole : IsCharOf (is_char_in ranges) (text ++ drop (suc n) (encode_utf8 c)) =
      record {
        char = c;
        scalar = scalar_c;
        within = and_from (scalar c) (is_in ranges c) scalar_c (is_in-of_InRanges ranges c within_c);
        spelled = sym (take-append-drop (suc n) (encode_utf8 c));
      } in
      let left = length-drop (suc n) (encode_utf8 c) in
      let b : IsBegunAt (is_char_in ranges) bytes i (suc at) =
      record { read = text; beginning = record { rest = drop (suc n) (encode_utf8 c); whole = whole; begun = omega (arith, size); unended = omega (arith, left, part) }; spelled = spelled } in
      let u = (leaf_begins (is_char_in ranges) r is bytes (scalars_only ranges) i (suc at)).1 b in
      let s = Occurs-read r bytes i (suc at) u.0 u.3 in
      let same : s.0 ≡ text = Spells-one bytes s.0 text i (suc at) s.1 spelled in
      let f : char_number r position ≡ Some u.0 =
      ap (char_number r) (is_position ∙ ap member (begun_part n (encode_utf8 c) part)) ∙ number_of_text r text (omega (arith, size)) ∙ ap (read_all r) (sym same) ∙ s.2 in
      subst (Occurs r bytes i (suc at)) (same_Some u.0 p (sym f ∙ number)) u.3)
      (λ whole.
      let f : char_number r position ≡ Some 0 = ap (char_number r) (is_position ∙ ap member (begun_whole n (encode_utf8 c) whole)) in
      let all : take (n + 1) (encode_utf8 c) ≡ encode_utf8 c = take_all (n + 1) (encode_utf8 c) (omega arith) in
      let m : Matches (tree.char_class ranges) bytes i (suc at) =
      (c, scalar_c, within_c, subst (λ k. OccursAt (encode_utf8 c) bytes i k) (add-one at) (subst (λ t. OccursAt t bytes i (at + 1)) all occurs)) in
      subst (Occurs r bytes i (suc at)) (same_Some 0 p (sym f ∙ number)) ((char_matches ranges r is bytes i (suc at)).1 m))
      (lt_or_eq n (length (encode_utf8 c)) lt)

  reads_by_position : core.Reads bytes (core.character r) (At i) p (suc at) ↔ ByPosition
  reads_by_position = (
    λ h. let s = subst (λ k. Occurs r bytes k (suc at) p) h.1 h.2 in
        ⊎_elim (λ e. whole_read e s) (λ more. begun_read more s.2 s) (zero_or_more p),
    λ v. (i, refl, read_position v),
  )

pub core_class : (ranges : List (ℕ × ℕ)) (r : Reader) → IsReaderOf (is_char_in ranges) r → r.others < 2 ^ 16 →
    IsCoreOf (tree.char_class ranges) (core.character r)
core_class ranges r is few = record {
  matches = λ bytes i j. char_matches ranges r is bytes i j;
  number = char_number r;
  reads = λ bytes i at p. reads_by_position ranges r is bytes i at p;
  free = λ e. tt;
  small = omega (arith, few);
}
