-- The core pattern of a tree, node by node.
use Rattle.std.proofs.Common.{◌≡◌, ℕ, zero, suc, ◌+◌, ◌-◌, ◌<◌, ◌↔◌, ◌==◌, List, [], ◌∷◌, length, take, slice_get, Option, Some, None, inl, inr, eq-eqb, eqb-true, refl, sym, ap, ◌∙◌, subst, arith, add-one}
use Rattle.std.proofs.lemmas.List.{length-take}
use Rattle.std.proofs.lemmas.Option.{same_Some}
use Rattle.logos_hir.specs.declared.hir.Look.{Look}
use Rattle.logos_hir.specs.Text.{OccursAt}
use Rattle.logos_hir.specs.Tree as tree
use Rattle.logos_hir.specs.Tree.{Tree}
use Rattle.logos_hir.specs.Matches.{Matches}
use Rattle.logos_positions.specs.Core as core
use Rattle.logos_positions.specs.Core.{Core, At, Leaves, width, IsFree}
use Rattle.logos_hir.specs.ByteRanges.{is_in}
use Rattle.logos_positions.specs.Positions.{Position, byte_of, member, within}
use Rattle.logos_positions.specs.inside.Reader.{Spells}
use Rattle.logos_positions.specs.Repeat.{spelled}
use Rattle.logos_positions.specs.IsCore.{IsCoreOf}
use Rattle.logos_positions.proofs.trees.ReadLemmas.{Reads-start, Reads-from}
use Rattle.logos_positions.proofs.classes.TextLemmas.{OccursAt-of_Spells, Spells-of_OccursAt, Spells-end, InRanges-of_is_in, is_in-of_InRanges}

pub core_empty : IsCoreOf tree.empty core.empty
core_empty = record {
  matches = λ bytes i j. (λ e. sym e, λ e. sym e);
  number = λ position. None;
  reads = λ bytes i at p. (λ h. absurd h, λ h. absurd h.1);
  free = λ e. tt;
  small = omega arith;
}

pub core_look : (l : Look) → IsCoreOf (tree.look l) (core.look l)
core_look l = record {
  matches = λ bytes i j. (λ h. (sym h.1, h.0), λ h. (h.1, sym h.0));
  number = λ position. None;
  reads = λ bytes i at p. (λ h. absurd h, λ h. absurd h.1);
  free = λ e. absurd (cc);
  small = omega arith;
}

pub core_capture : (t : Tree) (c : Core) → IsCoreOf t c → IsCoreOf (tree.capture t) c
core_capture t c h = record { matches = h.matches; number = h.number; reads = h.reads; free = h.free; small = h.small }

-- a byte of the ranges
abbrev class_number : Position → Option ℕ
class_number (byte_of n) = None
class_number (member bytes) = Some 0
class_number (within n position) = None

module _ (ranges : List (ℕ × ℕ)) (bytes : List ℕ) where
  byte_matches : (i j : ℕ) → core.Matches bytes (core.byte_in (is_in ranges)) i j ↔ Matches (tree.byte_class ranges) bytes i j
  byte_matches i j = (
    λ h. (h.0.byte, InRanges-of_is_in ranges h.0.byte h.0.within, OccursAt-of_Spells bytes (h.0.byte ∷ []) i j (h.0.is, h.1)),
    λ h. let s = Spells-of_OccursAt bytes (h.0 ∷ []) i j h.2 in (record { byte = h.0; is = s.0; within = is_in-of_InRanges ranges h.0 h.1 }, s.1),
  )

pub core_bytes : (ranges : List (ℕ × ℕ)) → IsCoreOf (tree.byte_class ranges) (core.byte_in (is_in ranges))
core_bytes ranges = record {
  matches = λ bytes i j. byte_matches ranges bytes i j;
  number = class_number;
  reads = λ bytes i at p. (
    λ h. (
      member [],
      (
        refl,
        subst (λ k. Matches (tree.byte_class ranges) bytes i k) (sym (add-one at))
            ((byte_matches ranges bytes i (suc at)).0 (subst (λ k. core.Matches bytes (core.byte_in (is_in ranges)) k (suc at)) h.1.1 h.1.2)),
      ),
      ap Some (sym h.0),
    ),
    λ h. (sym (zero_of h.0 p h.1.0 h.2), (i, refl, (byte_matches ranges bytes i (suc at)).1 (subst (λ k. Matches (tree.byte_class ranges) bytes i k) (add-one at) h.1.1))),
  );
  free = λ e. tt;
  small = omega arith;
}
  where
    zero_of : (position : Position) (p : ℕ) → position ≡ member [] → class_number position ≡ Some p → 0 ≡ p
    zero_of position p e f = same_Some 0 p (ap class_number (sym e) ∙ f)

-- the bytes of a literal
abbrev literal_number : Position → Option ℕ
literal_number (byte_of n) = Some n
literal_number (member bytes) = None
literal_number (within n position) = None

module _ (bytes : List ℕ) where
  spelled_matches : (text : List ℕ) (i j : ℕ) → core.Matches bytes (spelled text) i j ↔ Spells bytes text i j
  spelled_matches [] i j = (λ h. h, λ h. h)
  spelled_matches (b ∷ text) i j = (
    λ h. let is : slice_get bytes i ≡ Some b = h.1.0.is ∙ ap Some (eqb-true _ _ h.1.0.within) in
        (is, (spelled_matches text (suc i) j).0 (subst (λ k. core.Matches bytes (spelled text) k j) h.1.1 h.2)),
    λ h. (suc i, (record { byte = b; is = h.0; within = eq-eqb b b refl }, refl), (spelled_matches text (suc i) j).1 h.1),
  )

  -- the position p of a literal reads exactly if the text up to its byte is there
  spelled_reads : (text : List ℕ) (i p m : ℕ) → core.Reads bytes (spelled text) (At i) p m → (p < length text) × Spells bytes (take (suc p) text) i m
  spelled_reads [] i p m h = absurd h
  spelled_reads (b ∷ text) i zero m (inl (lt, (z, (k, e, (is_in, end))))) =
      (omega arith, (ap (slice_get bytes) (sym e) ∙ is_in.is ∙ ap Some (eqb-true _ _ is_in.within), end ∙ ap suc e))
  spelled_reads (b ∷ text) i zero m (inr (le, h)) = absurd (omega (arith, le))
  spelled_reads (b ∷ text) i (suc p) m (inl (lt, h)) = absurd (omega (arith, lt))
  spelled_reads (b ∷ text) i (suc p) m (inr (le, h)) =
      let v = Reads-start bytes (spelled text) (Leaves bytes (core.byte_in (λ x. x == b)) (At i)) (suc p - 1) m h in
      let back : suc p - 1 ≡ p = omega arith in
      let cut : v.0 ≡ suc i = v.1.2.1 ∙ ap suc v.1.1 in
      let u = spelled_reads text (suc i) p m (subst (λ k. core.Reads bytes (spelled text) (At k) p m) cut (subst (λ k. core.Reads bytes (spelled text) (At v.0) k m) back v.2)) in
      let there = v.1.2.0 in
      (omega (arith, u.0), (ap (slice_get bytes) (sym v.1.1) ∙ there.is ∙ ap Some (eqb-true _ _ there.within), u.1))

  reads_spelled : (text : List ℕ) (i p m : ℕ) → p < length text → Spells bytes (take (suc p) text) i m → core.Reads bytes (spelled text) (At i) p m
  reads_spelled [] i p m lt h = absurd (omega arith)
  reads_spelled (b ∷ text) i zero m lt h = inl (omega arith, (refl, (i, refl, (record { byte = b; is = h.0; within = eq-eqb b b refl }, h.1))))
  reads_spelled (b ∷ text) i (suc p) m lt h =
      let back : p ≡ suc p - 1 = omega arith in
      inr (
        omega arith,
        Reads-from bytes (spelled text) (Leaves bytes (core.byte_in (λ x. x == b)) (At i)) (suc i) (suc p - 1) m
            (i, refl, (record { byte = b; is = h.0; within = eq-eqb b b refl }, refl))
            (subst (λ k. core.Reads bytes (spelled text) (At (suc i)) k m) back (reads_spelled text (suc i) p m (omega arith) h.1)),
      )

pub spelled_width : (text : List ℕ) → width (spelled text) ≡ length text
spelled_width [] = refl
spelled_width (b ∷ text) = let e = spelled_width text in omega arith

spelled_free : (text : List ℕ) → IsFree (spelled text)
spelled_free [] = tt
spelled_free (b ∷ text) = (tt, spelled_free text)

length_taken : (n : ℕ) (xs : List ℕ) → n < length xs → length (take (suc n) xs) ≡ suc n
length_taken n xs lt = let e = length-take (suc n) xs in omega arith

pub core_literal : (text : List ℕ) → IsCoreOf (tree.literal text) (spelled text)
core_literal text = record {
  matches = λ bytes i j. (
    λ h. OccursAt-of_Spells bytes text i j ((spelled_matches bytes text i j).0 h),
    λ h. (spelled_matches bytes text i j).1 (Spells-of_OccursAt bytes text i j h),
  );
  number = literal_number;
  reads = λ bytes i at p. (
    λ h. let u = spelled_reads bytes text i p (suc at) h in
        let end = Spells-end bytes (take (suc p) text) i (suc at) u.1 in
        let n = length_taken p text u.0 in (
          byte_of p,
          (
            p,
            u.0,
            refl,
            omega (arith, end, n),
            subst (λ k. OccursAt (take k text) bytes i (at + 1)) (sym (add-one p))
                (subst (λ k. OccursAt (take (suc p) text) bytes i k) (sym (add-one at)) (OccursAt-of_Spells bytes (take (suc p) text) i (suc at) u.1)),
          ),
          refl,
        ),
    λ h. let e : h.1.0 ≡ p = same_Some h.1.0 p (ap literal_number (sym h.1.2) ∙ h.2) in
        subst (λ k. core.Reads bytes (spelled text) (At i) k (suc at)) e
        (reads_spelled bytes text i h.1.0 (suc at) h.1.1
        (Spells-of_OccursAt bytes (take (suc h.1.0) text) i (suc at)
        (subst (λ k. OccursAt (take k text) bytes i (suc at)) (add-one h.1.0) (subst (λ k. OccursAt (take (h.1.0 + 1) text) bytes i k) (add-one at) h.1.4)))),
  );
  free = λ e. spelled_free text;
  small = let e = spelled_width text in omega arith;
}
