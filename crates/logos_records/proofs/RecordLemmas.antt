-- Objects, one after another.
use Rattle.std.proofs.Common.{◌≡◌, ◌≤◌, ◌<◌, ◌+◌, ℕ, suc, List, [], ◌∷◌, ◌++◌, length, get_or, take, drop, map, sym, ap, ◌∙◌, arith, subst}
use Rattle.std.proofs.lemmas.List.{at_drop_all, at_drop_more, drop_all, drop_more}
use Rattle.std.specs.List.{flat_map}
use Rattle.json.specs.Token.{Token, begin_object, end_object}
use Rattle.logos_answers.proofs.InputLemmas.{map_take}
use Rattle.logos_inspect.specs.declared.leaves.LeafRow.{LeafRow}
use Rattle.logos_json.proofs.LineLemmas.{gains_then, one_put, puts_nothing, puts_then}
use Rattle.logos_json.specs.Lines.{Ends, Gains, LinesValue, Puts}
use Rattle.logos_json.specs.Members.{object}
use Rattle.logos_records.specs.Leaves.{leaf_members, leaf_objects}

-- An object with these members was pushed as a line.
pub object_put : {members : List Token} {old begun middle ended new : LinesValue} → Gains (begin_object ∷ []) old begun → Gains members begun middle → Gains (end_object ∷ []) middle ended → Ends ended new →
    Puts (object members ∷ []) old new
object_put a b c d = one_put (gains_then a (gains_then b c)) d

-- The object of the next leaf, and those of the rest.
pub next_leaf : (name : List ℕ) (rows : List LeafRow) (i : ℕ) (d : LeafRow) {old middle new : LinesValue} → i < length rows → Puts (object (leaf_members name i (get_or rows i d)) ∷ []) old middle →
    Puts (leaf_objects name (i + 1) (drop (i + 1) rows)) middle new → Puts (leaf_objects name i (drop i rows)) old new
next_leaf name rows i d {old} {middle} {new} l a b =
    let k : i + 1 ≡ suc i = omega arith in
    let rest = subst (λ n. Puts (leaf_objects name n (drop (i + 1) rows)) middle new) k b in
    subst (λ list. Puts (leaf_objects name i list) old new) (sym (drop_more rows i d l)) (puts_then a rest)

-- No leaf is left.
pub no_leaf : (name : List ℕ) (rows : List LeafRow) (i : ℕ) (lines : LinesValue) → length rows ≤ i → Puts (leaf_objects name i (drop i rows)) lines lines
no_leaf name rows i lines l = subst (λ list. Puts (leaf_objects name i list) lines lines) (sym (drop_all i rows l)) (puts_nothing lines)

module _ {X : Type 0} (bytes : X → List ℕ) (f : List ℕ → List (List Token)) (xs : List X) (k : ℕ) where
  -- The lines of the next input, and those of the rest.
  pub next_input : (x : X) {old middle new : LinesValue} → k < length xs → x ≡ get_or xs k x → Puts (f (bytes x)) old middle → Puts (flat_map f (map bytes (drop (k + 1) xs))) middle new →
      Puts (flat_map f (map bytes (drop k xs))) old new
  next_input x {old} {middle} {new} l e one rest =
      subst (λ lines. Puts lines old new)
      (ap (λ y. f (bytes y) ++ flat_map f (map bytes (drop (k + 1) xs))) e ∙ sym (at_drop_more (λ ys. flat_map f (map bytes ys)) xs k x l)) (puts_then one rest)

  -- No input is left.
  pub no_input : (lines : LinesValue) → length xs ≤ k → Puts (flat_map f (map bytes (drop k xs))) lines lines
  no_input lines l = subst (λ shown. Puts shown lines lines) (sym (at_drop_all (λ ys. flat_map f (map bytes ys)) xs k l)) (puts_nothing lines)

-- The lines of the first inputs of a list, by other names of it.
pub first_put : {X : Type 0} (bytes : X → List ℕ) (f : List ℕ → List (List Token)) (most : ℕ) (xs given first : List X) {old new : LinesValue} → first ≡ take most given → given ≡ xs →
    Puts (flat_map f (map bytes first)) old new → Puts (flat_map f (take most (map bytes xs))) old new
first_put bytes f most xs given first {old} {new} e same p =
    subst (λ ys. Puts (flat_map f ys) old new) (ap (map bytes) e ∙ ap (λ ys. map bytes (take most ys)) same ∙ map_take bytes most xs) p
