-- Steps over lists of positions.
use Rattle.std.proofs.Common.{◌≡◌, ℕ, zero, suc, ◌+◌, ◌-◌, ◌*◌, ◌<◌, ◌↔◌, ◌⊎◌, ◌||◌, Bool, IsTrue, List, refl, sym, ap, subst, inl, inr, ⊎_elim, arith}
use Rattle.std.proofs.lemmas.Bool.{or_cases, or_left, or_right}
use Rattle.logos_positions.specs.Core.{Core, empty, cat, alt, plus, width, Exits}
use Rattle.logos_positions.specs.Marks.{Has}
use Rattle.logos_positions.specs.Repeat.{in_front, up_to, at_least}
use Rattle.logos_hir.specs.declared.hir.Look.{Look}
use Rattle.logos_positions.proofs.steps.PositionLemmas.{Exits-map, Exits-or}

pub iff_trans : {A B C : Type 0} → A ↔ B → B ↔ C → A ↔ C
iff_trans f g = (λ a. g.0 (f.0 a), λ c. f.1 (g.1 c))

pub iff_sym : {A B : Type 0} → A ↔ B → B ↔ A
iff_sym f = (f.1, f.0)

pub iff_refl : (A : Type 0) → A ↔ A
iff_refl A = (λ a. a, λ a. a)

pub Exits-iff : (t : Core) (test : Look → Bool) (M N : ℕ → Type 0) (d e : Type 0) →
    ((q : ℕ) → q < width t → M q ↔ N q) → d ↔ e → Exits t test M d ↔ Exits t test N e
Exits-iff t test M N d e f g =
    (Exits-map t test M N d e (λ q lt. (f q lt).0) g.0, Exits-map t test N M e d (λ q lt. (f q lt).1) g.1)

pub or_iff : (a b : Bool) (A B : Type 0) → IsTrue a ↔ A → IsTrue b ↔ B → IsTrue (a || b) ↔ (A ⊎ B)
or_iff a b A B f g = (
  λ h. ⊎_elim (λ x. inl (f.0 x)) (λ y. inr (g.0 y)) (or_cases a b h),
  λ h. ⊎_elim (λ x. or_left a b (f.1 x)) (λ y. or_right a b (g.1 y)) h,
)

module _ (test : Look → Bool) (xs : List ℕ) where
  moved : (i j : ℕ) → i ≡ j → Has xs i ↔ Has xs j
  moved i j e = (subst (Has xs) e, subst (Has xs) (sym e))

  -- the positions of a pattern that begin at `base`
  pub Exits-from : (t : Core) (base start : ℕ) (d e : Type 0) → base ≡ start → d ↔ e →
      Exits t test (λ q. Has xs (base + q)) d ↔ Exits t test (λ q. Has xs (start + q)) e
  Exits-from t base start d e same g = Exits-iff t test _ _ d e (λ q lt. moved _ _ (ap (λ k. k + q) same)) g

  -- past the first of two
  pub Exits-past : (a b : Core) (base w : ℕ) (d : Type 0) (left : Bool) → w ≡ width a →
      IsTrue left ↔ Exits a test (λ q. Has xs (base + q)) d →
      Exits b test (λ q. Has xs (base + w + q)) (IsTrue left) ↔ Exits (cat a b) test (λ q. Has xs (base + q)) d
  Exits-past a b base w d left is f = Exits-iff b test _ _ _ _ (λ q lt. moved _ _ (omega arith)) f

  pub exits_cat : (a b : Core) (base w : ℕ) (d : Type 0) (left result : Bool) → w ≡ width a →
      IsTrue left ↔ Exits a test (λ q. Has xs (base + q)) d →
      IsTrue result ↔ Exits b test (λ q. Has xs (base + w + q)) (IsTrue left) →
      IsTrue result ↔ Exits (cat a b) test (λ q. Has xs (base + q)) d
  exits_cat a b base w d left result is f g = iff_trans g (Exits-past a b base w d left is f)

  pub exits_alt : (a b : Core) (base w : ℕ) (d : Type 0) (first second : Bool) → w ≡ width a →
      IsTrue first ↔ Exits a test (λ q. Has xs (base + q)) d →
      IsTrue second ↔ Exits b test (λ q. Has xs (base + w + q)) d →
      IsTrue (first || second) ↔ Exits (alt a b) test (λ q. Has xs (base + q)) d
  exits_alt a b base w d first second is f g =
      or_iff first second _ _ f (iff_trans g (Exits-iff b test _ _ _ _ (λ q lt. moved _ _ (omega arith)) (iff_refl d)))

  -- n copies and then b
  pub Exits-in_front : (n : ℕ) (a b : Core) (base : ℕ) (d : Type 0) →
      Exits b test (λ q. Has xs (base + width a * n + q)) (Exits (in_front n a empty) test (λ q. Has xs (base + q)) d)
      ↔ Exits (in_front n a b) test (λ q. Has xs (base + q)) d
  Exits-in_front zero a b base d = Exits-iff b test _ _ _ _ (λ q lt. moved _ _ (omega arith)) (iff_refl d)
  Exits-in_front (suc n) a b base d =
      let shift : (k : Core) (e : Type 0) → Exits k test (λ q. Has xs (base + width a + q)) e ↔ Exits k test (λ q. Has xs (base + (width a + q))) e =
      λ k e. Exits-iff k test _ _ _ _ (λ q lt. moved _ _ (omega arith)) (iff_refl e) in
      iff_trans
      (Exits-iff b test _ _ _ _ (λ q lt. moved _ (base + width a + width a * n + q) (omega arith)) (iff_sym (shift (in_front n a empty) _)))
      (iff_trans (Exits-in_front n a b (base + width a) (Exits a test (λ q. Has xs (base + q)) d)) (shift (in_front n a b) _))

  pub exits_then : (n : ℕ) (a b : Core) (base w : ℕ) (d : Type 0) (front result : Bool) → w ≡ width a →
      IsTrue front ↔ Exits (in_front n a empty) test (λ q. Has xs (base + q)) d →
      IsTrue result ↔ Exits b test (λ q. Has xs (base + w * n + q)) (IsTrue front) →
      IsTrue result ↔ Exits (in_front n a b) test (λ q. Has xs (base + q)) d
  exits_then n a b base w d front result is f g =
      iff_trans g (iff_trans (Exits-from b _ _ _ _ (ap (λ k. base + k * n) is) f) (Exits-in_front n a b base d))

  pub exits_star : (a : Core) (base : ℕ) (entered last : Bool) →
      IsTrue last ↔ Exits a test (λ q. Has xs (base + q)) (IsTrue entered) →
      IsTrue (last || entered) ↔ Exits (at_least 0 a) test (λ q. Has xs (base + q)) (IsTrue entered)
  exits_star a base entered last f = or_iff last entered _ _ f (iff_refl (IsTrue entered))

  pub exits_plus : (min : ℕ) (a : Core) (base w : ℕ) (d : Type 0) (front result : Bool) → (min ≡ 0 → ⊥) → w ≡ width a →
      IsTrue front ↔ Exits (in_front (min - 1) a empty) test (λ q. Has xs (base + q)) d →
      IsTrue result ↔ Exits a test (λ q. Has xs (base + w * (min - 1) + q)) (IsTrue front) →
      IsTrue result ↔ Exits (at_least min a) test (λ q. Has xs (base + q)) d
  exits_plus zero a base w d front result some is f g = absurd (some refl)
  exits_plus (suc n) a base w d front result some is f g =
      let back : suc n - 1 ≡ n = omega arith in
      exits_then n a (plus a) base w d front result is
      (rw back at f) (rw back at g)

  -- the rest of at most n copies, past one
  pub Exits-past_up_to : (n : ℕ) (a : Core) (base w : ℕ) (any entered left : Bool) → w ≡ width a →
      IsTrue left ↔ Exits a test (λ q. Has xs (base + q)) (IsTrue entered) →
      (IsTrue (any || entered) ⊎ Exits (up_to n a) test (λ q. Has xs (base + w + q)) (IsTrue left))
      ↔ (IsTrue any ⊎ Exits (up_to (suc n) a) test (λ q. Has xs (base + q)) (IsTrue entered))
  Exits-past_up_to n a base w any entered left is f =
      let g = Exits-past a (up_to n a) base w (IsTrue entered) left is f in (
        λ h. ⊎_elim (λ x. ⊎_elim inl (λ y. inr (inr y)) (or_cases any entered x)) (λ y. inr (inl (g.0 y))) h,
        λ h. ⊎_elim (λ x. inl (or_left any entered x))
            (λ y. ⊎_elim (λ z. inr (g.1 z)) (λ z. inl (or_right any entered z)) y) h,
      )

  -- the way round a loop is open if the loop is entered or its body left
  pub again_iff : (a : Core) (base : ℕ) (entered left : Bool) →
      IsTrue left ↔ Exits a test (λ q. Has xs (base + q)) (IsTrue entered) →
      IsTrue (entered || left) ↔ (IsTrue entered ⊎ Exits a test (λ q. Has xs (base + q)) ⊥)
  again_iff a base entered left f = (
    λ h. ⊎_elim inl (λ k. ⊎_elim inr inl
        (Exits-or a test _ ⊥ (IsTrue entered) (Exits-map a test _ _ _ _ (λ q lt m. m) inr (f.0 k)))) (or_cases entered left h),
    λ h. ⊎_elim (or_left entered left) (λ k. or_right entered left (f.1 (Exits-map a test _ _ _ _ (λ q lt m. m) absurd k))) h,
  )
