-- At the end of the bytes and after it only the empty span matches, and only patterns that match
-- the empty string.
use Rattle.std.proofs.Common.{◌≡◌, ℕ, zero, suc, ◌-◌, ◌<◌, ◌≤◌, ◌⊎◌, inl, inr, Bool, true, false, ◌||◌, List, [], ◌∷◌, length, drop, min, slice_range, IsTrue, IsFalse, ◌==◌, encode_utf8, refl, sym, ◌∙◌, ap, subst, arith}
use Rattle.std.proofs.lemmas.Bool.{cases_lt}
use Rattle.std.proofs.lemmas.List.{length-take, length-drop}
use Rattle.std.specs.List.{list_any}
use Rattle.logos_hir.specs.Text.{OccursAt}
use Rattle.logos_hir.specs.Tree.{Tree, empty, literal, byte_class, char_class, look, repetition, capture, concat, alternation, Trees, none, also}
use Rattle.logos_hir.specs.Matches.{Matches, MatchesInOrder, SomeMatches, Pieces}
use Rattle.logos_hir.specs.Passable.{passable, all_passable, some_passable}
use Rattle.logos_hir.proofs.tree.Bounds.{matches_within}
use Rattle.logos_hir.proofs.tree.Laws.{is_zero, encoded, either_true, both_true}
use Rattle.logos_automaton.specs.Munch.{Rule, RuleMatches}

module _ (bytes : List ℕ) (from : ℕ) (out : length bytes ≤ from) where
  no_byte : (text : List ℕ) (to : ℕ) → OccursAt text bytes from to → length text ≡ 0
  no_byte text to s =
      let size : length (slice_range bytes from to) ≡ length text = ap length s.here in
      let counted : min (to - from) (length bytes - from) ≡ length text =
      ap (min (to - from)) (sym (length-drop from bytes)) ∙ sym (length-take (to - from) (drop from bytes)) ∙ size in
      omega (arith, counted, out)

  abbrev Empty : ℕ → Bool → Type 0
  Empty to passed = (to ≡ from) × IsTrue passed

  empty_text : (text : List ℕ) (to : ℕ) → OccursAt text bytes from to → Empty to (length text == 0)
  empty_text text to s = let z = no_byte text to s in (omega (arith, s.end, z), is_zero (length text) z)

  some_text : (text : List ℕ) (to : ℕ) → 0 < length text → OccursAt text bytes from to → ⊥
  some_text text to l s = let z = no_byte text to s in omega (arith, z, l)

  empty_pieces : (body : Tree) → ((to : ℕ) → Matches body bytes from to → Empty to (passable body)) → (n to : ℕ) → Pieces (Matches body bytes) n from to → (to ≡ from) × ((n ≡ 0) ⊎ IsTrue (passable body))
  empty_pieces body each zero to p = (sym p, inl refl)
  empty_pieces body each (suc n) to (cut, first, rest) =
      let e = each cut first in
      let r = empty_pieces body each n to (subst (λ (at : ℕ). Pieces (Matches body bytes) n at to) e.0 rest) in
      (r.0, inr e.1)

  counted : (least n : ℕ) (passed : Bool) → least ≤ n → (n ≡ 0) ⊎ IsTrue passed → IsTrue ((least == 0) || passed)
  counted least n passed l (inl z) = either_true (least == 0) passed (inl (is_zero least (omega (arith, l, z))))
  counted least n passed l (inr t) = either_true (least == 0) passed (inr t)

  mutual
    pub empty_outside : (t : Tree) (to : ℕ) → Matches t bytes from to → Empty to (passable t)
    empty_outside empty to m = (sym m, refl)
    empty_outside (literal text) to m = empty_text text to m
    empty_outside (byte_class ranges) to m = absurd (some_text (m.0 ∷ []) to (omega arith) m.2)
    empty_outside (char_class ranges) to m = absurd (some_text (encode_utf8 m.0) to (encoded m.0) m.3)
    empty_outside (look l) to m = (sym m.0, refl)
    empty_outside (repetition least most greedy body) to m =
        let p = empty_pieces body (empty_outside body) m.0 to m.2 in
        (p.0, counted least m.0 (passable body) m.1.0 p.1)
    empty_outside (capture body) to m = empty_outside body to m
    empty_outside (concat parts) to m = parts_outside parts to m
    empty_outside (alternation branches) to m = branches_outside branches to m

    pub parts_outside : (ts : Trees) (to : ℕ) → MatchesInOrder ts bytes from to → Empty to (all_passable ts)
    parts_outside none to m = (sym m, refl)
    parts_outside (also t ts) to (cut, first, rest) =
        let e = empty_outside t cut first in
        let r = parts_outside ts to (subst (λ (at : ℕ). MatchesInOrder ts bytes at to) e.0 rest) in
        (r.0, both_true (passable t) (all_passable ts) e.1 r.1)

    pub branches_outside : (ts : Trees) (to : ℕ) → SomeMatches ts bytes from to → Empty to (some_passable ts)
    branches_outside none to m = absurd m
    branches_outside (also t ts) to (inl m) = let e = empty_outside t to m in (e.0, either_true (passable t) (some_passable ts) (inl e.1))
    branches_outside (also t ts) to (inr m) = let e = branches_outside ts to m in (e.0, either_true (passable t) (some_passable ts) (inr e.1))

neither : (a b : Bool) → (a || b) ≡ false → (a ≡ false) × (b ≡ false)
neither true b e = absurd (cc)
neither false b e = (refl, e)

-- a span that matches lies within the bytes
pub rule_inside : (rules : List Rule) (leaf : ℕ) (bytes : List ℕ) (from to : ℕ) → IsFalse (list_any (λ rule. passable rule.tree) rules) →
    RuleMatches rules leaf bytes from to → (from ≤ to) × (to ≤ length bytes)
rule_inside [] leaf bytes from to f m = absurd m
rule_inside (rule ∷ rules) zero bytes from to f m = go (cases_lt from (length bytes))
  where
    go : (from < length bytes) ⊎ (length bytes ≤ from) → (from ≤ to) × (to ≤ length bytes)
    go (inl l) = matches_within rule.tree bytes from to m (omega arith)
    go (inr l) =
        let e = empty_outside bytes from l rule.tree to m in
        let t : passable rule.tree ≡ true = e.1 in
        let n : passable rule.tree ≡ false = (neither _ _ f).0 in
        absurd (cc)
rule_inside (rule ∷ rules) (suc leaf) bytes from to f m = rule_inside rules leaf bytes from to (neither _ _ f).1 m
