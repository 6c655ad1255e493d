-- A match depends on the bytes of its span and on the byte after them; on the byte before them only
-- where a look-around assertion leads.
use Rattle.std.proofs.Common.{◌≡◌, ◌↔◌, ℕ, zero, suc, ◌+◌, ◌-◌, ◌≤◌, ◌<◌, ◌⊎◌, inl, inr, Bool, true, false, ◌&&◌, ◌||◌, List, [], ◌∷◌, ◌++◌, length, drop, slice_get, slice_range, ◌==◌, IsTrue, IsFalse, refl, sym, ◌∙◌, ap, subst, arith, encode_utf8, length-append, append-nil}
use Rattle.std.proofs.lemmas.List.{drop-append-le, take-append-le, length-drop}
use Rattle.std.proofs.lemmas.Bool.Decides.{nat_tests}
use Rattle.std.proofs.Math.Seq.{drop-append-add}
use Rattle.logos_hir.specs.Text.{OccursAt, byte_before, byte_after}
use Rattle.logos_hir.specs.Tree.{Tree, empty, literal, byte_class, char_class, look, repetition, capture, concat, alternation, Trees, none, also}
use Rattle.logos_hir.specs.Looks.{holds_between}
use Rattle.logos_hir.specs.Matches.{Matches, MatchesInOrder, SomeMatches, Pieces}
use Rattle.logos_hir.specs.Passable.{passable, leads, leads_in_order, some_leads}
use Rattle.logos_hir.proofs.tree.Bounds.{Within, pieces_within, matches_within, parts_within}
use Rattle.logos_hir.proofs.tree.Laws.{passes}
use Rattle.logos_automaton.specs.Munch.{Rule, RuleMatches}
use Rattle.std.specs.List.{list_any}

-- From the position d of a and the position e of b on, k bytes are the same, and the byte after
-- them too.
pub record AreAlike (a b : List ℕ) (d e k : ℕ) : Type 0 where
  pub spans : (i j : ℕ) → i ≤ j → j ≤ k → slice_range a (d + i) (d + j) ≡ slice_range b (e + i) (e + j)
  pub bytes : (i : ℕ) → i ≤ k → slice_get a (d + i) ≡ slice_get b (e + i)
  pub inside : d + k ≤ length a
  pub inside_too : e + k ≤ length b

pub alike_back : (a b : List ℕ) (d e k : ℕ) → AreAlike a b d e k → AreAlike b a e d k
alike_back a b d e k h = record {
  spans = λ i j l m. sym (h.spans i j l m);
  bytes = λ i l. sym (h.bytes i l);
  inside = h.inside_too;
  inside_too = h.inside;
}

pub before_at : (xs : List ℕ) (n : ℕ) → byte_before xs (suc n) ≡ slice_get xs n
before_at xs n = rw (not_zero n) (ap (slice_get xs) (omega arith))
  where
    not_zero : (n : ℕ) → (suc n == 0) ≡ false
    not_zero n = grind (arith, nat_tests)

or_false : (a b : Bool) → (a || b) ≡ false → (a ≡ false) × (b ≡ false)
or_false true b e = absurd (cc)
or_false false b e = (refl, e)

and_rest : (a b : Bool) → IsTrue a → (a && b) ≡ false → b ≡ false
and_rest true b t e = e
and_rest false b t e = absurd (cc)

-- the position is not the first one, or nothing leads
abbrev Free : ℕ → Bool → Type 0
Free i leading = (0 < i) ⊎ (leading ≡ false)

shift_pieces : (R Q : ℕ → ℕ → Type 0) (d e k size : ℕ) (leading : Bool) → ((x y : ℕ) → R x y → Within size x y) → d + k ≤ size →
    ((i j : ℕ) → i ≤ j → j ≤ k → Free i leading → R (d + i) (d + j) → Q (e + i) (e + j)) →
    (n i j : ℕ) → i ≤ j → j ≤ k → Free i leading → Pieces R n (d + i) (d + j) → Pieces Q n (e + i) (e + j)
shift_pieces R Q d e k size leading within fits each zero i j l m f p = omega (arith, p)
shift_pieces R Q d e k size leading within fits each (suc n) i j l m f (cut, first, rest) =
    let one = within (d + i) cut first (omega arith) in
    let others = pieces_within R size within n cut (d + j) rest one.1 in
    go (cut - d) (omega (arith, one.0)) (omega (arith, one.0)) (omega (arith, others.0)) (shift_pieces R Q d e k size leading within fits each n)
  where
    later : (c : ℕ) → i ≤ c → Free i leading → Free c leading
    later c l (inl x) = inl (omega arith)
    later c l (inr x) = inr x

    go : (c : ℕ) → cut ≡ d + c → i ≤ c → c ≤ j →
        ((i j : ℕ) → i ≤ j → j ≤ k → Free i leading → Pieces R n (d + i) (d + j) → Pieces Q n (e + i) (e + j)) → Pieces Q (suc n) (e + i) (e + j)
    go c q lo hi ih = (e + c, each i c lo (omega arith) f (subst (λ x. R (d + i) x) q first), ih c j hi m (later c lo f) (subst (λ x. Pieces R n x (d + j)) q rest))

module _ (a b : List ℕ) (d e k : ℕ) (h : AreAlike a b d e k) where
  shift_text : (text : List ℕ) (i j : ℕ) → i ≤ j → j ≤ k → OccursAt text a (d + i) (d + j) → OccursAt text b (e + i) (e + j)
  shift_text text i j l m s = let q : d + j ≡ d + i + length text = s.end in record { end = omega arith; here = sym (h.spans i j l m) ∙ s.here }

  same_before : (i : ℕ) → 0 < i → i ≤ k → byte_before a (d + i) ≡ byte_before b (e + i)
  same_before zero z l = absurd (omega arith)
  same_before (suc i) z l =
      let x : d + suc i ≡ suc (d + i) = omega arith in
      let y : e + suc i ≡ suc (e + i) = omega arith in
      ap (byte_before a) x ∙ before_at a (d + i) ∙ h.bytes i (omega arith) ∙ sym (before_at b (e + i)) ∙ sym (ap (byte_before b) y)

  mutual
    pub shift : (t : Tree) (i j : ℕ) → i ≤ j → j ≤ k → Free i (leads t) → Matches t a (d + i) (d + j) → Matches t b (e + i) (e + j)
    shift empty i j l m f x = omega (arith, x)
    shift (literal text) i j l m f x = shift_text text i j l m x
    shift (byte_class ranges) i j l m f x = (x.0, x.1, shift_text (x.0 ∷ []) i j l m x.2)
    shift (char_class ranges) i j l m f x = (x.0, x.1, x.2, shift_text (encode_utf8 x.0) i j l m x.3)
    shift (look kind) i j l m (inl f) x = (
      omega (arith, x.0),
      subst (λ o. IsTrue (holds_between kind o (byte_after b (e + i)))) (same_before i f (omega arith))
          (subst (λ o. IsTrue (holds_between kind (byte_before a (d + i)) o)) (h.bytes i (omega arith)) x.1),
    )
    shift (look kind) i j l m (inr f) x = absurd (cc)
    shift (repetition least most greedy body) i j l m f x =
        (x.0, x.1, shift_pieces (Matches body a) (Matches body b) d e k (length a) (leads body) (matches_within body a) h.inside (shift body) x.0 i j l m f x.2)
    shift (capture body) i j l m f x = shift body i j l m f x
    shift (concat parts) i j l m f x = shift_parts parts i j l m f x
    shift (alternation branches) i j l m f x = shift_branches branches i j l m f x

    pub shift_parts : (ts : Trees) (i j : ℕ) → i ≤ j → j ≤ k → Free i (leads_in_order ts) → MatchesInOrder ts a (d + i) (d + j) → MatchesInOrder ts b (e + i) (e + j)
    shift_parts none i j l m f x = omega (arith, x)
    shift_parts (also t ts) i j l m f (cut, first, rest) =
        let one = matches_within t a (d + i) cut first (let w = h.inside in omega arith) in
        let others = parts_within ts a cut (d + j) rest one.1 in
        go (cut - d) (omega (arith, one.0)) (omega (arith, one.0)) (omega (arith, others.0)) f (shift t) (shift_parts ts)
      where
        go : (c : ℕ) → cut ≡ d + c → i ≤ c → c ≤ j → Free i (leads t || (passable t && leads_in_order ts)) →
            ((i j : ℕ) → i ≤ j → j ≤ k → Free i (leads t) → Matches t a (d + i) (d + j) → Matches t b (e + i) (e + j)) →
            ((i j : ℕ) → i ≤ j → j ≤ k → Free i (leads_in_order ts) → MatchesInOrder ts a (d + i) (d + j) → MatchesInOrder ts b (e + i) (e + j)) →
            MatchesInOrder (also t ts) b (e + i) (e + j)
        go c q lo hi f here there =
            (e + c, here i c lo (omega arith) (one f) at_first, there c j hi m (two (c) refl f) (subst (λ x. MatchesInOrder ts a x (d + j)) q rest))
          where
            at_first : Matches t a (d + i) (d + c)
            at_first = subst (λ x. Matches t a (d + i) x) q first

            one : Free i (leads t || (passable t && leads_in_order ts)) → Free i (leads t)
            one (inl x) = inl x
            one (inr x) = inr (or_false _ _ x).0

            two : (n : ℕ) → n ≡ c → Free i (leads t || (passable t && leads_in_order ts)) → Free c (leads_in_order ts)
            two n z (inl x) = inl (omega arith)
            two (suc n) z (inr x) = inl (omega arith)
            two zero z (inr x) =
                let p : i ≡ c = omega arith in
                let same : Matches t a (d + i) (d + i) = subst (λ y. Matches t a (d + i) (d + y)) (sym p) at_first in
                let w = h.inside in
                inr (and_rest _ _ (passes t a (d + i) (omega arith) same) (or_false _ _ x).1)

    pub shift_branches : (ts : Trees) (i j : ℕ) → i ≤ j → j ≤ k → Free i (some_leads ts) → SomeMatches ts a (d + i) (d + j) → SomeMatches ts b (e + i) (e + j)
    shift_branches none i j l m f x = x
    shift_branches (also t ts) i j l m f (inl x) = inl (shift t i j l m (one f) x)
      where
        one : Free i (leads t || some_leads ts) → Free i (leads t)
        one (inl x) = inl x
        one (inr x) = inr (or_false _ _ x).0
    shift_branches (also t ts) i j l m f (inr x) = inr (shift_branches ts i j l m (two f) x)
      where
        two : Free i (leads t || some_leads ts) → Free i (some_leads ts)
        two (inl x) = inl x
        two (inr x) = inr (or_false _ _ x).1

-- a text within another, and the byte after it, or the ends of both
get_after : (pre ys : List ℕ) (n : ℕ) → slice_get (pre ++ ys) (length pre + n) ≡ slice_get ys n
get_after [] ys n = ap (slice_get ys) (omega arith)
get_after (x ∷ pre) ys n = let e : length (x ∷ pre) + n ≡ suc (length pre + n) = omega arith in ap (slice_get (x ∷ pre ++ ys)) e ∙ get_after pre ys n

get_within : (xs ys : List ℕ) (n : ℕ) → n < length xs → slice_get (xs ++ ys) n ≡ slice_get xs n
get_within [] ys n l = absurd (omega arith)
get_within (x ∷ xs) ys zero l = refl
get_within (x ∷ xs) ys (suc n) l = get_within xs ys n (omega arith)

pub alike_within : (pre w post : List ℕ) (k : ℕ) → (k < length w) ⊎ ((k ≡ length w) × (post ≡ [])) → AreAlike (pre ++ (w ++ post)) w (length pre) 0 k
alike_within pre w post k f = record {
  spans = λ i j l m. same_span i j l (le f j m);
  bytes = λ i l. get_after pre (w ++ post) i ∙ same_byte i l f ∙ ap (slice_get w) (omega arith);
  inside = let n = length-append pre (w ++ post) in let n' = length-append w post in let q = le f k (omega arith) in omega arith;
  inside_too = let q = le f k (omega arith) in omega arith;
}
  where
    le : (k < length w) ⊎ ((k ≡ length w) × (post ≡ [])) → (j : ℕ) → j ≤ k → j ≤ length w
    le (inl f) j m = omega arith
    le (inr f) j m = omega (arith, f.0)

    same_byte : (i : ℕ) → i ≤ k → (k < length w) ⊎ ((k ≡ length w) × (post ≡ [])) → slice_get (w ++ post) i ≡ slice_get w i
    same_byte i l (inl f) = get_within w post i (omega arith)
    same_byte i l (inr f) = ap (λ x. slice_get (w ++ x) i) f.1 ∙ ap (λ x. slice_get x i) (append-nil w)

    same_span : (i j : ℕ) → i ≤ j → j ≤ length w → slice_range (pre ++ (w ++ post)) (length pre + i) (length pre + j) ≡ slice_range w (0 + i) (0 + j)
    same_span i j l m =
        let p : length pre + j - (length pre + i) ≡ j - i = omega arith in
        let r : drop (length pre + i) (pre ++ (w ++ post)) ≡ drop i w ++ post = drop-append-add pre (w ++ post) i ∙ drop-append-le i w post (omega arith) in
        let n = length-drop i w in
        let z : 0 + i ≡ i = omega arith in
        let y : 0 + j - i ≡ j - i = omega arith in
        rw (p, r, z, y) (take-append-le (j - i) (drop i w) post (omega arith))

-- the match of a rule from the start of a text, within another text
rules_shift : (rules : List Rule) (leaf : ℕ) (a b : List ℕ) (d e k : ℕ) → AreAlike a b d e k → IsFalse (list_any (λ rule. leads rule.tree) rules) →
    RuleMatches rules leaf a (d + 0) (d + k) → RuleMatches rules leaf b (e + 0) (e + k)
rules_shift [] leaf a b d e k h f m = m
rules_shift (rule ∷ rules) zero a b d e k h f m = shift a b d e k h rule.tree 0 k (omega arith) (omega arith) (inr (or_false _ _ f).0) m
rules_shift (rule ∷ rules) (suc leaf) a b d e k h f m = rules_shift rules leaf a b d e k h (or_false _ _ f).1 m

pub rule_within_text : (rules : List Rule) (leaf : ℕ) (pre w post : List ℕ) (k : ℕ) → IsFalse (list_any (λ rule. leads rule.tree) rules) →
    (k < length w) ⊎ ((k ≡ length w) × (post ≡ [])) →
    RuleMatches rules leaf (pre ++ (w ++ post)) (length pre) (length pre + k) ↔ RuleMatches rules leaf w 0 k
rule_within_text rules leaf pre w post k f l =
    let h = alike_within pre w post k l in
    let x : length pre + 0 ≡ length pre = omega arith in
    let y : 0 + k ≡ k = omega arith in (
      λ m. subst (λ (z : ℕ). RuleMatches rules leaf w 0 z) y (rules_shift rules leaf _ w (length pre) 0 k h f (subst (λ (z : ℕ). RuleMatches rules leaf (pre ++ (w ++ post)) z (length pre + k)) (sym x) m)),
      λ m. subst (λ (z : ℕ). RuleMatches rules leaf (pre ++ (w ++ post)) z (length pre + k)) x
          (rules_shift rules leaf w (pre ++ (w ++ post)) 0 (length pre) k (alike_back _ _ _ _ _ h) f (subst (λ (z : ℕ). RuleMatches rules leaf w 0 z) (sym y) m)),
    )
