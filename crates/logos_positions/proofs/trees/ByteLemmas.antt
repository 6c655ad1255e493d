-- Classes of bytes: as literals of one byte, as ranges, and as a choice.
use Rattle.std.proofs.Common.{◌≡◌, ℕ, zero, suc, ◌+◌, ◌<◌, ◌≤◌, ◌⊎◌, ◌==◌, inl, inr, ⊎_elim, Bool, true, false, ◌||◌, ◌&&◌, nat_le, min, max, List, [], ◌∷◌, ◌++◌, length, drop, set, get_or, slice_get, IfSome, drop-cons, add-one, Option, Some, None, option_map, refl, sym, ap, ◌∙◌, arith}
use Rattle.std.proofs.lemmas.Bool.Decides.{nat_tests}
use Rattle.std.proofs.lemmas.Option.{same_Some}
use Rattle.std.proofs.Math.ListN.{drop_of_length-le}
use Rattle.logos_hir.specs.ByteRanges.{is_in}
use Rattle.logos_hir.specs.Hir.{pairs}
use Rattle.logos_hir.specs.Tree as tree
use Rattle.logos_hir.specs.Tree.{Trees}
use Rattle.logos_hir.specs.declared.hir.Range.{Range}
use Rattle.logos_positions.specs.Core as core
use Rattle.logos_positions.specs.Core.{At, IsIn, Leaves, byte_in, alt}
use Rattle.logos_positions.specs.IsCore.{IsCoreOf, IsCoreOfBranches}
use Rattle.logos_positions.specs.inside.Joined.{AreNear, is_within}
use Rattle.logos_positions.proofs.trees.IsCoreLemmas.{core_literal}

-- a byte of one class is one of another class that has it
in_class : (f g : ℕ → Bool) → ((x : ℕ) → f x ≡ true → g x ≡ true) → (bytes : List ℕ) (i : ℕ) → IsIn f bytes i → IsIn g bytes i
in_class f g same bytes i u = record { byte = u.byte; is = u.is; within = same u.byte u.within }

-- a literal of one byte is a class
core_byte : (b : ℕ) (has : ℕ → Bool) → ((x : ℕ) → has x ≡ (x == b)) → IsCoreOf (tree.literal (b ∷ [])) (byte_in has)
core_byte b has same = record {
  matches = λ bytes i j. (
    λ m. (c.matches bytes i j).0 (j, (to bytes i m.0, m.1), refl),
    λ m. let u = (c.matches bytes i j).1 m in (from bytes i u.1.0, u.2 ∙ u.1.1),
  );
  number = c.number;
  reads = λ bytes i at p. (
    λ r. (c.reads bytes i at p).0 (inl (omega (arith, r.0), (r.0, to_leaves bytes (At i) (suc at) r.1))),
    λ u. ⊎_elim (λ v. (v.1.0, from_leaves bytes (At i) (suc at) v.1.1)) (λ v. absurd v.1) ((c.reads bytes i at p).1 u),
  );
  free = λ e. tt;
  small = let s = c.small in omega arith;
}
  where
    c : IsCoreOf (tree.literal (b ∷ [])) (core.cat (byte_in (λ x. x == b)) core.empty)
    c = core_literal (b ∷ [])

    to : (bytes : List ℕ) (i : ℕ) → IsIn has bytes i → IsIn (λ x. x == b) bytes i
    to bytes i = in_class has (λ x. x == b) (λ x e. sym (same x) ∙ e) bytes i

    from : (bytes : List ℕ) (i : ℕ) → IsIn (λ x. x == b) bytes i → IsIn has bytes i
    from bytes i = in_class (λ x. x == b) has (λ x e. same x ∙ e) bytes i

    to_leaves : (bytes : List ℕ) (S : ℕ → Type 0) (m : ℕ) → Leaves bytes (byte_in has) S m → Leaves bytes (byte_in (λ x. x == b)) S m
    to_leaves bytes S m l = let e = l.2 in (l.0, l.1, (to bytes l.0 e.0, e.1))

    from_leaves : (bytes : List ℕ) (S : ℕ → Type 0) (m : ℕ) → Leaves bytes (byte_in (λ x. x == b)) S m → Leaves bytes (byte_in has) S m
    from_leaves bytes S m l = let e = l.2 in (l.0, l.1, (from bytes l.0 e.0, e.1))

-- the range of one byte
one_byte : (b x : ℕ) → is_in ((b, b) ∷ []) x ≡ (x == b)
one_byte b x = grind (arith, nat_tests)

pub byte_literal : (text : List ℕ) (d : ℕ) (ranges : List Range) (r : Range) → 1 ≤ length text → length text < 2 → ranges ≡ r ∷ [] →
    r ≡ record { first = get_or text 0 d; last = get_or text 0 d } → IsCoreOf (tree.literal text) (byte_in (is_in (pairs ranges)))
byte_literal [] d ranges r some few made is = absurd (omega (arith, some))
byte_literal (b ∷ []) d ranges r some few made is = rw (made, is) (core_byte b (is_in ((b, b) ∷ [])) (one_byte b))
byte_literal (b ∷ c ∷ text) d ranges r some few made is = absurd (omega (arith, few))

or_true : (b : Bool) → (b || true) ≡ true
or_true true = refl
or_true false = refl

or_parts : (a b : Bool) → (a || b) ≡ true → (a ≡ true) ⊎ (b ≡ true)
or_parts true b e = inl refl
or_parts false b e = inr e

numbered : (o : Option ℕ) (p : ℕ) → option_map (λ (q : ℕ). 0) o ≡ Some p → (q : ℕ) × (o ≡ Some q) × (p ≡ 0)
numbered None p e = absurd (cc)
numbered (Some q) p e = (q, refl, sym (same_Some 0 p e))

-- two classes as one
module _ (f g has : ℕ → Bool) (either : (x : ℕ) → has x ≡ (f x || g x)) where
  in_first : (bytes : List ℕ) (i : ℕ) → IsIn f bytes i → IsIn has bytes i
  in_first bytes i = in_class f has (λ x e. either x ∙ ap (λ b. b || g x) e) bytes i

  in_second : (bytes : List ℕ) (i : ℕ) → IsIn g bytes i → IsIn has bytes i
  in_second bytes i = in_class g has (λ x e. either x ∙ ap (λ b. f x || b) e ∙ or_true (f x)) bytes i

  in_either : (bytes : List ℕ) (i : ℕ) → IsIn has bytes i → IsIn f bytes i ⊎ IsIn g bytes i
  in_either bytes i u =
      ⊎_elim (λ e. inl (record { byte = u.byte; is = u.is; within = e })) (λ e. inr (record { byte = u.byte; is = u.is; within = e }))
      (or_parts (f u.byte) (g u.byte) (sym (either u.byte) ∙ u.within))

  -- branches that are the choice of two classes
  pub branches_class : (ts : Trees) (n : ℕ) → IsCoreOfBranches ts n (alt (byte_in f) (byte_in g)) → IsCoreOfBranches ts n (byte_in has)
  branches_class ts n c = record {
    matches = λ bytes i j. (
      λ m. (c.matches bytes i j).0 (⊎_elim (λ u. inl (u, m.1)) (λ u. inr (u, m.1)) (in_either bytes i m.0)),
      λ m. ⊎_elim (λ u. (in_first bytes i u.0, u.1)) (λ u. (in_second bytes i u.0, u.1)) ((c.matches bytes i j).1 m),
    );
    number = λ position. option_map (λ q. 0) (c.number position);
    reads = λ bytes i at p. (
      λ r. let l = r.1 in
          let m = l.2 in
          ⊎_elim
          (λ u. let v = (c.reads bytes i at 0).0 (inl (omega arith, (refl, (l.0, l.1, (u, m.1))))) in
          (v.0, v.1, ap (option_map (λ q. 0)) v.2 ∙ ap Some (sym r.0)))
          (λ u. let v = (c.reads bytes i at 1).0 (inr (omega arith, (refl, (l.0, l.1, (u, m.1))))) in
          (v.0, v.1, ap (option_map (λ q. 0)) v.2 ∙ ap Some (sym r.0)))
          (in_either bytes l.0 m.0),
      λ u. let k = numbered (c.number u.0) p u.2 in
          ⊎_elim
          (λ r. let l = r.1.1 in
          let m = l.2 in (k.2, (l.0, l.1, (in_first bytes l.0 m.0, m.1))))
          (λ r. let l = r.1.1 in
          let m = l.2 in (k.2, (l.0, l.1, (in_second bytes l.0 m.0, m.1))))
          ((c.reads bytes i at k.0).1 (u.0, u.1, k.1)),
    );
    free = λ e. tt;
    small = let s = c.small in omega arith;
  }

-- two ranges as one
hull_has : (r s h : Range) → AreNear r s → h.first ≡ min r.first s.first → h.last ≡ max r.last s.last → (x : ℕ) → is_within h x ≡ (is_within r x || is_within s x)
hull_has r s h near first last x = rw (first, last) (go r.first r.last s.first s.last near.0 near.1)
  where
    go : (a b c d : ℕ) → a ≤ d + 1 → c ≤ b + 1 → (nat_le (min a c) x && nat_le x (max b d)) ≡ ((nat_le a x && nat_le x b) || (nat_le c x && nat_le x d))
    go a b c d u v = grind (arith, nat_tests)

pub near_at : (rs : List Range) (i : ℕ) (d s : Range) → i < length rs → IfSome (slice_get rs i) (λ r. AreNear r s) → AreNear (get_or rs i d) s
near_at [] i d s lt h = absurd (omega arith)
near_at (r ∷ rs) zero d s lt h = h
near_at (r ∷ rs) (suc i) d s lt h = near_at rs i d s (omega arith) h

-- a range is widened by another one
pub range_widened : (rs : List Range) (i : ℕ) (d s h : Range) → i < length rs → AreNear (get_or rs i d) s →
    h.first ≡ min (get_or rs i d).first s.first → h.last ≡ max (get_or rs i d).last s.last →
    (x : ℕ) → is_in (pairs (set rs i h)) x ≡ (is_in (pairs rs) x || is_within s x)
range_widened [] i d s h lt near first last x = absurd (omega arith)
range_widened (r ∷ rs) zero d s h lt near first last x =
    ap (λ b. b || is_in (pairs rs) x) (hull_has r s h near first last x) ∙ swap (is_within r x) (is_within s x) (is_in (pairs rs) x)
  where
    swap : (a b c : Bool) → ((a || b) || c) ≡ ((a || c) || b)
    swap true b c = refl
    swap false true true = refl
    swap false true false = refl
    swap false false true = refl
    swap false false false = refl
range_widened (r ∷ rs) (suc i) d s h lt near first last x =
    ap (λ b. is_within r x || b) (range_widened rs i d s h (omega arith) near first last x) ∙ group (is_within r x) (is_in (pairs rs) x) (is_within s x)
  where
    group : (a b c : Bool) → (a || (b || c)) ≡ ((a || b) || c)
    group true b c = refl
    group false b c = refl

-- a range is added
pub range_added : (rs : List Range) (s : Range) (x : ℕ) → is_in (pairs (rs ++ s ∷ [])) x ≡ (is_in (pairs rs) x || is_within s x)
range_added [] s x = or_false (is_within s x)
  where
    or_false : (b : Bool) → (b || false) ≡ b
    or_false true = refl
    or_false false = refl
range_added (r ∷ rs) s x = ap (λ b. is_within r x || b) (range_added rs s x) ∙ group (is_within r x) (is_in (pairs rs) x) (is_within s x)
  where
    group : (a b c : Bool) → (a || (b || c)) ≡ ((a || b) || c)
    group true b c = refl
    group false b c = refl

-- one more range of the other class is added
pub union_more : (one other : List Range) (i : ℕ) (d : Range) (old new : List Range) (x : ℕ) → i < length other →
    (is_in (pairs old) x || is_in (pairs (drop i other)) x) ≡ (is_in (pairs one) x || is_in (pairs other) x) →
    is_in (pairs new) x ≡ (is_in (pairs old) x || is_within (get_or other i d) x) →
    (is_in (pairs new) x || is_in (pairs (drop (i + 1) other)) x) ≡ (is_in (pairs one) x || is_in (pairs other) x)
union_more one other i d old new x lt before added =
    let e : drop i other ≡ get_or other i d ∷ drop (i + 1) other = drop-cons other i d lt ∙ ap (λ k. get_or other i d ∷ drop k other) (sym (add-one i)) in
    ap (λ b. b || is_in (pairs (drop (i + 1) other)) x) added ∙ ungroup (is_in (pairs old) x) (is_within (get_or other i d) x) (is_in (pairs (drop (i + 1) other)) x)
    ∙ sym (ap (λ rs. is_in (pairs old) x || is_in (pairs rs) x) e) ∙ before
  where
    ungroup : (a b c : Bool) → ((a || b) || c) ≡ (a || (b || c))
    ungroup true b c = refl
    ungroup false b c = refl

-- all ranges of the other class are added
pub union_done : (one other : List Range) (i : ℕ) (made : List Range) (x : ℕ) → length other ≤ i →
    (is_in (pairs made) x || is_in (pairs (drop i other)) x) ≡ (is_in (pairs one) x || is_in (pairs other) x) →
    is_in (pairs made) x ≡ (is_in (pairs one) x || is_in (pairs other) x)
union_done one other i made x past all =
    sym (or_false (is_in (pairs made) x)) ∙ sym (ap (λ rs. is_in (pairs made) x || is_in (pairs rs) x) (drop_of_length-le other past)) ∙ all
  where
    or_false : (b : Bool) → (b || false) ≡ b
    or_false true = refl
    or_false false = refl
