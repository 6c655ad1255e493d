-- The positions step as the pattern reads.
use Rattle.std.proofs.Common.{◌≡◌, ℕ, zero, suc, ◌+◌, ◌-◌, ◌<◌, ◌≤◌, Bool, true, List, Some, ◌⊎◌, inl, inr, ⊎_elim, slice_get, refl, sym, ap, ◌∙◌, subst, arith}
use Rattle.std.proofs.lemmas.Option.{same_Some}
use Rattle.logos_positions.specs.Core.{Core, holds_at, Reader, void, character, Occurs, empty, byte_in, look, cat, alt, plus, width, Many, none, more, Matches, Leaves, Begins, Reads, Exits, Steps}
use Rattle.logos_hir.specs.declared.hir.Look.{Look}

-- a larger set of positions, entered where the smaller was, is left where the smaller was
pub Exits-map : (t : Core) (test : Look → Bool) (M N : ℕ → Type 0) (d e : Type 0) →
    ((q : ℕ) → q < width t → M q → N q) → (d → e) → Exits t test M d → Exits t test N e
Exits-map void test M N d e f g h = h
Exits-map empty test M N d e f g h = g h
Exits-map (byte_in c) test M N d e f g h = f 0 (omega arith) h
Exits-map (character l) test M N d e f g h = f 0 (omega arith) h
Exits-map (look l) test M N d e f g h = (g h.0, h.1)
Exits-map (cat a b) test M N d e f g h =
    Exits-map b test _ _ _ _ (λ q lt. f (width a + q) (omega arith))
    (Exits-map a test M N d e (λ q lt. f q (omega arith)) g) h
Exits-map (alt a b) test M N d e f g h =
    ⊎_elim (λ x. inl (Exits-map a test M N d e (λ q lt. f q (omega arith)) g x))
    (λ x. inr (Exits-map b test _ _ d e (λ q lt. f (width a + q) (omega arith)) g x)) h
Exits-map (plus a) test M N d e f g h = Exits-map a test M N d e f g h

-- entering in a second way adds at most the way through
pub Exits-or : (t : Core) (test : Look → Bool) (M : ℕ → Type 0) (d e : Type 0) → Exits t test M (d ⊎ e) → Exits t test M d ⊎ e
Exits-or void test M d e h = inl h
Exits-or empty test M d e h = h
Exits-or (byte_in c) test M d e h = inl h
Exits-or (character l) test M d e h = inl h
Exits-or (look l) test M d e h = ⊎_elim (λ x. inl (x, h.1)) inr h.0
Exits-or (cat a b) test M d e h =
    Exits-or b test (λ q. M (width a + q)) (Exits a test M d) e
    (Exits-map b test _ _ _ _ (λ q lt m. m) (Exits-or a test M d e) h)
Exits-or (alt a b) test M d e h =
    ⊎_elim (λ x. ⊎_elim (λ y. inl (inl y)) inr (Exits-or a test M d e x))
    (λ x. ⊎_elim (λ y. inl (inr y)) inr (Exits-or b test _ d e x)) h
Exits-or (plus a) test M d e h = Exits-or a test M d e h

pub Steps-map : (t : Core) (test : Look → Bool) (x : ℕ) (M N : ℕ → Type 0) (d e : Type 0) (p : ℕ) →
    ((q : ℕ) → q < width t → M q → N q) → (d → e) → Steps t test x M d p → Steps t test x N e p
Steps-map void test x M N d e p f g h = h
Steps-map empty test x M N d e p f g h = h
Steps-map (byte_in c) test x M N d e p f g h = (h.0, g h.1, h.2)
Steps-map (character l) test x M N d e p f g h =
    (h.0, ⊎_elim (λ u. inl (g u.0, u.1)) (λ u. inr (u.0, u.1, f u.0 (omega (arith, u.1)) u.2, u.3)) h.1)
Steps-map (look l) test x M N d e p f g h = h
Steps-map (cat a b) test x M N d e p f g h =
    ⊎_elim (λ u. inl (u.0, Steps-map a test x M N d e p (λ q lt. f q (omega arith)) g u.1))
    (λ u. inr (
      u.0,
      Steps-map b test x _ _ _ _ (p - width a) (λ q lt. f (width a + q) (omega arith))
          (Exits-map a test M N d e (λ q lt. f q (omega arith)) g) u.1,
    )) h
Steps-map (alt a b) test x M N d e p f g h =
    ⊎_elim (λ u. inl (u.0, Steps-map a test x M N d e p (λ q lt. f q (omega arith)) g u.1))
    (λ u. inr (u.0, Steps-map b test x _ _ d e (p - width a) (λ q lt. f (width a + q) (omega arith)) g u.1)) h
Steps-map (plus a) test x M N d e p f g h =
    Steps-map a test x M N _ _ p f (⊎_elim (λ u. inl (g u)) (λ u. inr (Exits-map a test M N ⊥ ⊥ f (λ z. z) u))) h

-- a match goes forward
module _ (R : ℕ → ℕ → Type 0) (each : (i j : ℕ) → R i j → i ≤ j) where
  pub Many-forward : (i j : ℕ) → Many R i j → i ≤ j
  Many-forward i j none = omega arith
  Many-forward i j (more l _ rs r) = omega (arith, Many-forward i l rs, each l j r)

module _ (l : Reader) (bytes : List ℕ) where
  -- a leaf reads a byte at least
  pub Occurs-after : (i m p : ℕ) → Occurs l bytes i m p → i < m
  Occurs-after i zero p h = absurd h
  Occurs-after i (suc m) p h =
      ⊎_elim (λ u. let at : i ≡ m = u.0 in omega arith) (λ u. omega (arith, Occurs-after i m u.0 u.2)) h.3

module _ (bytes : List ℕ) where
  pub Matches-forward : (t : Core) (i j : ℕ) → Matches bytes t i j → i ≤ j
  Matches-forward void i j m = absurd m
  Matches-forward empty i j m = omega arith
  Matches-forward (byte_in c) i j m = omega arith
  Matches-forward (character l) i j m = omega (arith, Occurs-after l bytes i j 0 m)
  Matches-forward (look l) i j m = omega arith
  Matches-forward (cat a b) i j m = omega (arith, Matches-forward a i m.0 m.1, Matches-forward b m.0 j m.2)
  Matches-forward (alt a b) i j m = ⊎_elim (Matches-forward a i j) (Matches-forward b i j) m
  Matches-forward (plus a) i j m =
      omega (arith, Many-forward (Matches bytes a) (Matches-forward a) i m.0 m.1, Matches-forward a m.0 j m.2)

  pub Leaves-map : (t : Core) (S T : ℕ → Type 0) (m : ℕ) → ((k : ℕ) → S k → T k) → Leaves bytes t S m → Leaves bytes t T m
  Leaves-map t S T m f h = (h.0, f h.0 h.1, h.2)

  pub Begins-map : (a : Core) (S T : ℕ → Type 0) (m : ℕ) → ((k : ℕ) → S k → T k) → Begins bytes a S m → Begins bytes a T m
  Begins-map a S T m f h = (h.0, f h.0 h.1, h.2)

  pub Reads-map : (t : Core) (S T : ℕ → Type 0) (p m : ℕ) → ((k : ℕ) → S k → T k) → Reads bytes t S p m → Reads bytes t T p m
  Reads-map void S T p m f h = h
  Reads-map empty S T p m f h = h
  Reads-map (byte_in c) S T p m f h = (h.0, Leaves-map (byte_in c) S T m f h.1)
  Reads-map (character l) S T p m f h = (h.0, f h.0 h.1, h.2)
  Reads-map (look l) S T p m f h = h
  Reads-map (cat a b) S T p m f h =
      ⊎_elim (λ u. inl (u.0, Reads-map a S T p m f u.1))
      (λ u. inr (u.0, Reads-map b _ _ (p - width a) m (λ k. Leaves-map a S T k f) u.1)) h
  Reads-map (alt a b) S T p m f h =
      ⊎_elim (λ u. inl (u.0, Reads-map a S T p m f u.1))
      (λ u. inr (u.0, Reads-map b S T (p - width a) m f u.1)) h
  Reads-map (plus a) S T p m f h = Reads-map a _ _ p m (λ k. Begins-map a S T k f) h

  -- the positions of the two parts of a pattern
  module _ (w p : ℕ) (X Y : Type 0) where
    abbrev Parts : Type 0
    Parts = ((p < w) × X) ⊎ ((w ≤ p) × Y)

    left_part : p < w → Parts → X
    left_part lt h = ⊎_elim (λ u. u.1) (λ u. absurd (omega arith)) h

    right_part : w ≤ p → Parts → Y
    right_part le h = ⊎_elim (λ u. absurd (omega arith)) (λ u. u.1) h

  right_position : (w q : ℕ) (P : ℕ → Type 0) → P (w + q - w) → P q
  right_position w q P h = let e : w + q - w ≡ q = omega arith in subst P e h

  position_right : (w q : ℕ) (P : ℕ → Type 0) → P q → P (w + q - w)
  position_right w q P h = let e : q ≡ w + q - w = omega arith in subst P e h

  before_or_at : (l j : ℕ) → l ≤ j → (l < j) ⊎ (l ≡ j)
  before_or_at l j le = grind arith

  -- the last round that read a byte is one of the body; those after it read nothing
  begins_exits : (a : Core) →
      ((S : ℕ → Type 0) (m : ℕ) → Leaves bytes a S m → Exits a (holds_at bytes m) (λ q. Reads bytes a S q m) (S m)) →
      (S : ℕ → Type 0) (i j : ℕ) → S i → Many (Matches bytes a) i j →
      S j ⊎ Exits a (holds_at bytes j) (λ q. Reads bytes (plus a) S q j) ⊥
  begins_exits a ih S i j s none = inl s
  begins_exits a ih S i j s (more l _ rs r) =
      ⊎_elim
      (λ lt. inr (Exits-map a (holds_at bytes j) _ _ _ _
      (λ q below. Reads-map a (λ k. (k < j) × Begins bytes a S k) (Begins bytes a S) q j (λ k u. u.1))
      (λ u. omega arith)
      (ih (λ k. (k < j) × Begins bytes a S k) j (l, (lt, (i, s, rs)), r))))
      (λ e. subst (λ k. S k ⊎ Exits a (holds_at bytes k) (λ q. Reads bytes (plus a) S q k) ⊥) e
      (begins_exits a ih S i l s rs))
      (before_or_at l j (Matches-forward a l j r))

  -- the pattern is left at m exactly if the positions that read the last byte, and entering at m,
  -- lead out
  pub Exits-of_Leaves : (t : Core) (S : ℕ → Type 0) (m : ℕ) →
      Leaves bytes t S m → Exits t (holds_at bytes m) (λ q. Reads bytes t S q m) (S m)
  Exits-of_Leaves void S m h = h.2
  Exits-of_Leaves empty S m h = subst S (sym h.2) h.1
  Exits-of_Leaves (byte_in c) S m h = (refl, h)
  Exits-of_Leaves (character l) S m h = h
  Exits-of_Leaves (look l) S m h =
      (subst S (sym h.2.1) h.1, subst (λ k. holds_at bytes k l ≡ true) (sym h.2.1) h.2.0)
  Exits-of_Leaves (cat a b) S m h =
      Exits-map b (holds_at bytes m) _ _ _ _
      (λ q lt r. inr (omega arith, position_right (width a) q (λ k. Reads bytes b (Leaves bytes a S) k m) r))
      (λ u. Exits-map a (holds_at bytes m) _ _ _ _ (λ q lt r. inl (lt, r)) (λ z. z) (Exits-of_Leaves a S m u))
      (Exits-of_Leaves b (Leaves bytes a S) m (h.2.0, (h.0, h.1, h.2.1), h.2.2))
  Exits-of_Leaves (alt a b) S m h =
      ⊎_elim
      (λ u. inl (Exits-map a (holds_at bytes m) _ _ _ _ (λ q lt r. inl (lt, r)) (λ z. z) (Exits-of_Leaves a S m (h.0, h.1, u))))
      (λ u. inr (Exits-map b (holds_at bytes m) _ _ _ _
      (λ q lt r. inr (omega arith, position_right (width a) q (λ k. Reads bytes b S k m) r)) (λ z. z)
      (Exits-of_Leaves b S m (h.0, h.1, u))))
      h.2
  Exits-of_Leaves (plus a) S m h =
      let u = Exits-map a (holds_at bytes m) _ (λ q. Reads bytes (plus a) S q m) _ (S m ⊎ Exits a (holds_at bytes m) (λ q. Reads bytes (plus a) S q m) ⊥)
      (λ q lt r. r) (λ v. begins_exits a (Exits-of_Leaves a) S v.0 m v.1 v.2)
      (Exits-of_Leaves a (Begins bytes a S) m (h.2.0, (h.0, h.1, h.2.1), h.2.2)) in
      ⊎_elim (λ y. y) (Exits-map a (holds_at bytes m) _ _ ⊥ (S m) (λ q lt r. r) absurd)
      (Exits-or a (holds_at bytes m) (λ q. Reads bytes (plus a) S q m) (S m) _ u)

  pub Leaves-of_Exits : (t : Core) (S : ℕ → Type 0) (m : ℕ) →
      Exits t (holds_at bytes m) (λ q. Reads bytes t S q m) (S m) → Leaves bytes t S m
  Leaves-of_Exits void S m h = absurd h
  Leaves-of_Exits empty S m h = (m, h, refl)
  Leaves-of_Exits (byte_in c) S m h = h.1
  Leaves-of_Exits (character l) S m h = h
  Leaves-of_Exits (look l) S m h = (m, h.0, (h.1, refl))
  Leaves-of_Exits (cat a b) S m h =
      let u : Leaves bytes b (Leaves bytes a S) m =
      Leaves-of_Exits b (Leaves bytes a S) m
      (Exits-map b (holds_at bytes m) _ _ _ _
      (λ q lt r. right_position (width a) q (λ k. Reads bytes b (Leaves bytes a S) k m) (right_part _ _ _ _ (omega arith) r))
      (λ v. Leaves-of_Exits a S m
      (Exits-map a (holds_at bytes m) _ _ _ _ (λ q lt r. left_part _ _ _ _ lt r) (λ z. z) v)) h) in
      (u.1.0, u.1.1, (u.0, u.1.2, u.2))
  Leaves-of_Exits (alt a b) S m h =
      ⊎_elim
      (λ x. let u : Leaves bytes a S m = Leaves-of_Exits a S m
      (Exits-map a (holds_at bytes m) _ _ _ _ (λ q lt r. left_part _ _ _ _ lt r) (λ z. z) x) in (u.0, u.1, inl u.2))
      (λ x. let u : Leaves bytes b S m = Leaves-of_Exits b S m
      (Exits-map b (holds_at bytes m) _ _ _ _
      (λ q lt r. right_position (width a) q (λ k. Reads bytes b S k m) (right_part _ _ _ _ (omega arith) r)) (λ z. z) x) in
      (u.0, u.1, inr u.2))
      h
  Leaves-of_Exits (plus a) S m h =
      let u : Leaves bytes a (Begins bytes a S) m = Leaves-of_Exits a (Begins bytes a S) m
      (Exits-map a (holds_at bytes m) _ _ _ _ (λ q lt r. r) (λ s. (m, s, none)) h) in
      (u.1.0, u.1.1, (u.0, u.1.2, u.2))

  Exits-of_Begins : (a : Core) (S : ℕ → Type 0) (m : ℕ) →
      Begins bytes a S m → S m ⊎ Exits a (holds_at bytes m) (λ q. Reads bytes (plus a) S q m) ⊥
  Exits-of_Begins a S m h = begins_exits a (Exits-of_Leaves a) S h.0 m h.1 h.2

  Begins-of_Exits : (a : Core) (S : ℕ → Type 0) (m : ℕ) →
      S m ⊎ Exits a (holds_at bytes m) (λ q. Reads bytes (plus a) S q m) ⊥ → Begins bytes a S m
  Begins-of_Exits a S m h =
      ⊎_elim (λ s. (m, s, none))
      (λ x. let u : Leaves bytes a (Begins bytes a S) m = Leaves-of_Exits a (Begins bytes a S) m
      (Exits-map a (holds_at bytes m) _ _ _ _ (λ q lt r. r) absurd x) in
      (u.1.0, u.1.1, more u.0 m u.1.2 u.2)) h

  -- the byte at m is read at p exactly if a step from the positions before it leads there
  pub Steps-of_Reads : (t : Core) (S : ℕ → Type 0) (m x p : ℕ) → slice_get bytes m ≡ Some x →
      Reads bytes t S p (suc m) → Steps t (holds_at bytes m) x (λ q. Reads bytes t S q m) (S m) p
  Steps-of_Reads void S m x p is h = h
  Steps-of_Reads empty S m x p is h = h
  Steps-of_Reads (byte_in c) S m x p is h =
      let at : h.1.0 ≡ m = omega arith in
      let found = h.1.2.0 in
      let same : found.byte ≡ x = same_Some _ _ (sym found.is ∙ ap (slice_get bytes) at ∙ is) in
      (h.0, subst S at h.1.1, ap c (sym same) ∙ found.within)
  Steps-of_Reads (character l) S m x p is h =
      let same : h.2.0 ≡ x = same_Some _ _ (sym h.2.1 ∙ is) in (
        h.2.2,
        ⊎_elim (λ u. inl (subst S u.0 h.1, ap l.first (sym same) ∙ u.1))
            (λ u. inr (u.0, u.1, (h.0, h.1, u.2), ap (l.follow u.0) (sym same) ∙ u.3)) h.2.3,
      )
  Steps-of_Reads (look l) S m x p is h = h
  Steps-of_Reads (cat a b) S m x p is h =
      ⊎_elim
      (λ u. inl (u.0, Steps-map a (holds_at bytes m) x _ _ _ _ p (λ q lt r. inl (lt, r)) (λ z. z) (Steps-of_Reads a S m x p is u.1)))
      (λ u. inr (
        u.0,
        Steps-map b (holds_at bytes m) x _ _ _ _ (p - width a)
            (λ q lt r. inr (omega arith, position_right (width a) q (λ k. Reads bytes b (Leaves bytes a S) k m) r))
            (λ v. Exits-map a (holds_at bytes m) _ _ _ _ (λ q lt r. inl (lt, r)) (λ z. z) (Exits-of_Leaves a S m v))
            (Steps-of_Reads b (Leaves bytes a S) m x (p - width a) is u.1),
      ))
      h
  Steps-of_Reads (alt a b) S m x p is h =
      ⊎_elim
      (λ u. inl (u.0, Steps-map a (holds_at bytes m) x _ _ _ _ p (λ q lt r. inl (lt, r)) (λ z. z) (Steps-of_Reads a S m x p is u.1)))
      (λ u. inr (
        u.0,
        Steps-map b (holds_at bytes m) x _ _ _ _ (p - width a)
            (λ q lt r. inr (omega arith, position_right (width a) q (λ k. Reads bytes b S k m) r)) (λ z. z)
            (Steps-of_Reads b S m x (p - width a) is u.1),
      ))
      h
  Steps-of_Reads (plus a) S m x p is h =
      Steps-map a (holds_at bytes m) x _ _ _ _ p (λ q lt r. r) (Exits-of_Begins a S m)
      (Steps-of_Reads a (Begins bytes a S) m x p is h)

  pub Reads-of_Steps : (t : Core) (S : ℕ → Type 0) (m x p : ℕ) → slice_get bytes m ≡ Some x →
      Steps t (holds_at bytes m) x (λ q. Reads bytes t S q m) (S m) p → Reads bytes t S p (suc m)
  Reads-of_Steps void S m x p is h = h
  Reads-of_Steps empty S m x p is h = h
  Reads-of_Steps (byte_in c) S m x p is h = (h.0, (m, h.1, (record { byte = x; is = is; within = h.2 }, refl)))
  Reads-of_Steps (character l) S m x p is h =
      ⊎_elim (λ u. (m, u.0, (x, is, h.0, inl (refl, u.1))))
      (λ u. (u.2.0, u.2.1, (x, is, h.0, inr (u.0, u.1, u.2.2, u.3)))) h.1
  Reads-of_Steps (look l) S m x p is h = h
  Reads-of_Steps (cat a b) S m x p is h =
      ⊎_elim
      (λ u. inl (
        u.0,
        Reads-of_Steps a S m x p is
            (Steps-map a (holds_at bytes m) x _ _ _ _ p (λ q lt r. left_part _ _ _ _ lt r) (λ z. z) u.1),
      ))
      (λ u. inr (
        u.0,
        Reads-of_Steps b (Leaves bytes a S) m x (p - width a) is
            (Steps-map b (holds_at bytes m) x _ _ _ _ (p - width a)
            (λ q lt r. right_position (width a) q (λ k. Reads bytes b (Leaves bytes a S) k m) (right_part _ _ _ _ (omega arith) r))
            (λ v. Leaves-of_Exits a S m (Exits-map a (holds_at bytes m) _ _ _ _ (λ q lt r. left_part _ _ _ _ lt r) (λ z. z) v))
            u.1),
      ))
      h
  Reads-of_Steps (alt a b) S m x p is h =
      ⊎_elim
      (λ u. inl (
        u.0,
        Reads-of_Steps a S m x p is
            (Steps-map a (holds_at bytes m) x _ _ _ _ p (λ q lt r. left_part _ _ _ _ lt r) (λ z. z) u.1),
      ))
      (λ u. inr (
        u.0,
        Reads-of_Steps b S m x (p - width a) is
            (Steps-map b (holds_at bytes m) x _ _ _ _ (p - width a)
            (λ q lt r. right_position (width a) q (λ k. Reads bytes b S k m) (right_part _ _ _ _ (omega arith) r)) (λ z. z)
            u.1),
      ))
      h
  Reads-of_Steps (plus a) S m x p is h =
      Reads-of_Steps a (Begins bytes a S) m x p is
      (Steps-map a (holds_at bytes m) x _ _ _ _ p (λ q lt r. r) (Begins-of_Exits a S m) h)
