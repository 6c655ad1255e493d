-- The meaning of the states of the automaton for the bytes that were read.
use Rattle.std.proofs.Common.{◌≡◌, ℕ, zero, suc, ◌+◌, ◌-◌, ◌<◌, ◌↔◌, ◌⊎◌, ◌==◌, Bool, true, false, IsTrue, List, [], ◌∷◌, Option, Some, None, slice_get, if◌then◌else◌, refl, sym, ap, ◌∙◌, subst, inl, inr, ⊎_elim, true≢false, arith}
use Rattle.std.proofs.lemmas.Option.{same_Some}
use Rattle.logos_hir.specs.Text.{byte_before, byte_after}
use Rattle.logos_hir.specs.declared.hir.Look.{Look}
use Rattle.logos_positions.specs.Core.{Core, void, empty, byte_in, character, look, cat, alt, plus, width, IsFree, holds_at, Exits, Steps}
use Rattle.logos_automaton.specs.Keys.{State, start_state, IsNext, IsLast, is_start, next_kind}
use Rattle.logos_positions.specs.Kinds.{test_at, kind_of_byte, kind_before, is_word_byte}
use Rattle.logos_positions.specs.Marks.{Has, IsSet}
use Rattle.logos_automaton.specs.Munch.{Rule, RuleMatches}
use Rattle.logos_automaton.specs.Rules.{AreRuleCores, AreFree}
use Rattle.logos_positions.specs.Run.{Marked, width_of, StepsIn, ExitsIn, MarkedIn}
use Rattle.logos_positions.specs.declared.positions.look.ByteKind.TheVariants as kind
use Rattle.logos_positions.proofs.steps.LookLemmas.{test_of_context}
use Rattle.logos_positions.proofs.steps.PositionLemmas.{Exits-map, Steps-map}
use Rattle.logos_positions.proofs.trees.ReadLemmas.{Marked-exits}
use Rattle.logos_positions.proofs.steps.SeveralLemmas.{StepsIn-map, ExitsIn-map, no_positions, none_there}
use Rattle.logos_positions.proofs.steps.StepLemmas.{iff_trans, iff_sym}
use Rattle.logos_positions.proofs.steps.SteppedLemmas.{Exits-void, Steps-void}
use Rattle.logos_automaton.proofs.munch.Window.{before_at}

-- a pattern without look-around assertions does not depend on which of them hold
pub Exits-free : (t : Core) → IsFree t → (f g : Look → Bool) (M : ℕ → Type 0) (d : Type 0) → Exits t f M d → Exits t g M d
Exits-free void h f g M d x = x
Exits-free empty h f g M d x = x
Exits-free (byte_in c) h f g M d x = x
Exits-free (character r) h f g M d x = x
Exits-free (look l) h f g M d x = absurd h
Exits-free (cat a b) h f g M d x =
    Exits-free b h.1 f g (λ q. M (width a + q)) (Exits a g M d)
    (Exits-map b f _ _ (Exits a f M d) (Exits a g M d) (λ q lt u. u) (Exits-free a h.0 f g M d) x)
Exits-free (alt a b) h f g M d x = ⊎_elim (λ u. inl (Exits-free a h.0 f g M d u)) (λ u. inr (Exits-free b h.1 f g (λ q. M (width a + q)) d u)) x
Exits-free (plus a) h f g M d x = Exits-free a h f g M d x

pub Steps-free : (t : Core) → IsFree t → (f g : Look → Bool) (x : ℕ) (M : ℕ → Type 0) (d : Type 0) (p : ℕ) → Steps t f x M d p → Steps t g x M d p
Steps-free void h f g x M d p s = s
Steps-free empty h f g x M d p s = s
Steps-free (byte_in c) h f g x M d p s = s
Steps-free (character r) h f g x M d p s = s
Steps-free (look l) h f g x M d p s = absurd h
Steps-free (cat a b) h f g x M d p s =
    ⊎_elim (λ u. inl (u.0, Steps-free a h.0 f g x M d p u.1))
    (λ u. inr (
      u.0,
      Steps-free b h.1 f g x (λ q. M (width a + q)) (Exits a g M d) (p - width a)
          (Steps-map b f x _ _ (Exits a f M d) (Exits a g M d) (p - width a) (λ q lt v. v) (Exits-free a h.0 f g M d) u.1),
    )) s
Steps-free (alt a b) h f g x M d p s =
    ⊎_elim (λ u. inl (u.0, Steps-free a h.0 f g x M d p u.1))
    (λ u. inr (u.0, Steps-free b h.1 f g x (λ q. M (width a + q)) d (p - width a) u.1)) s
Steps-free (plus a) h f g x M d p s =
    Steps-free a h f g x M (d ⊎ Exits a g M ⊥) p
    (Steps-map a f x M M (d ⊎ Exits a f M ⊥) (d ⊎ Exits a g M ⊥) p (λ q lt v. v) (⊎_elim inl (λ u. inr (Exits-free a h f g M ⊥ u))) s)

pub StepsIn-free : (ts : List Core) → AreFree ts → (f g : Look → Bool) (x : ℕ) (M : ℕ → Type 0) (d : Type 0) (p : ℕ) → StepsIn ts f x M d p → StepsIn ts g x M d p
StepsIn-free [] h f g x M d p s = s
StepsIn-free (t ∷ ts) h f g x M d p s =
    ⊎_elim (λ u. inl (u.0, Steps-free t h.0 f g x M d p u.1))
    (λ u. inr (u.0, StepsIn-free ts h.1 f g x (λ q. M (width t + q)) d (p - width t) u.1)) s

pub ExitsIn-free : (ts : List Core) (k : ℕ) → AreFree ts → (f g : Look → Bool) (M : ℕ → Type 0) (d : Type 0) → ExitsIn ts k f M d → ExitsIn ts k g M d
ExitsIn-free [] k h f g M d x = x
ExitsIn-free (t ∷ ts) zero h f g M d x = Exits-free t h.0 f g M d x
ExitsIn-free (t ∷ ts) (suc k) h f g M d x = ExitsIn-free ts k h.1 f g (λ q. M (width t + q)) d x

-- without positions and not begun, there is nothing
pub StepsIn-void : (ts : List Core) (test : Look → Bool) (x : ℕ) (M : ℕ → Type 0) (d : Type 0) (p : ℕ) → ((q : ℕ) → M q → ⊥) → (d → ⊥) → StepsIn ts test x M d p → ⊥
StepsIn-void [] test x M d p none out s = s
StepsIn-void (t ∷ ts) test x M d p none out s =
    ⊎_elim
    (λ u. Steps-void t test x p (Steps-map t test x M (λ q. ⊥) d ⊥ p (λ q lt. none q) out u.1))
    (λ u. StepsIn-void ts test x (λ q. M (width t + q)) d (p - width t) (λ q. none (width t + q)) out u.1) s

pub ExitsIn-void : (ts : List Core) (k : ℕ) (test : Look → Bool) (M : ℕ → Type 0) (d : Type 0) → ((q : ℕ) → M q → ⊥) → (d → ⊥) → ExitsIn ts k test M d → ⊥
ExitsIn-void [] k test M d none out x = x
ExitsIn-void (t ∷ ts) zero test M d none out x = Exits-void t test (Exits-map t test M (λ q. ⊥) d ⊥ (λ q lt. none q) out x)
ExitsIn-void (t ∷ ts) (suc k) test M d none out x = ExitsIn-void ts k test (λ q. M (width t + q)) d (λ q. none (width t + q)) out x

module _ (w : List ℕ) where
  first_marked : (t : Core) (ts : List Core) (m q : ℕ) → q < width t → MarkedIn (t ∷ ts) w m q ↔ Marked t w m q
  first_marked t ts m q lt = (λ h. ⊎_elim (λ u. u.1) (λ u. absurd (omega (arith, u.0))) h, λ h. inl (lt, h))

  rest_marked : (t : Core) (ts : List Core) (m q : ℕ) → MarkedIn (t ∷ ts) w m (width t + q) ↔ MarkedIn ts w m q
  rest_marked t ts m q =
      let e : width t + q - width t ≡ q = omega arith in (
        λ h. ⊎_elim (λ u. absurd (omega (arith, u.0))) (λ u. subst (MarkedIn ts w m) e u.1) h,
        λ h. inr (omega arith, subst (MarkedIn ts w m) (sym e) h),
      )

  -- one more byte
  pub StepsIn-marked : (ts : List Core) (m x q : ℕ) → slice_get w m ≡ Some x →
      StepsIn ts (holds_at w m) x (MarkedIn ts w m) (m ≡ 0) q ↔ MarkedIn ts w (suc m) q
  StepsIn-marked [] m x q is = (λ h. h, λ h. h)
  StepsIn-marked (t ∷ ts) m x q is = (
    λ s. ⊎_elim
        (λ u. inl (u.0, (x, is, Steps-map t (holds_at w m) x (MarkedIn (t ∷ ts) w m) (Marked t w m) (m ≡ 0) (m ≡ 0) q (λ p lt. (first_marked t ts m p lt).0) (λ e. e) u.1)))
        (λ u. inr (
          u.0,
          (StepsIn-marked ts m x (q - width t) is).0
              (StepsIn-map ts (holds_at w m) x (λ p. MarkedIn (t ∷ ts) w m (width t + p)) (MarkedIn ts w m) (m ≡ 0) (m ≡ 0) (q - width t) (λ p lt. (rest_marked t ts m p).0) (λ e. e) u.1),
        )) s,
    λ h. ⊎_elim
        (λ u. inl (
          u.0,
          Steps-map t (holds_at w m) x (Marked t w m) (MarkedIn (t ∷ ts) w m) (m ≡ 0) (m ≡ 0) q (λ p lt. (first_marked t ts m p lt).1) (λ e. e)
              (subst (λ y. Steps t (holds_at w m) y (Marked t w m) (m ≡ 0) q) (same_Some _ _ (sym u.1.1 ∙ is)) u.1.2),
        ))
        (λ u. inr (
          u.0,
          StepsIn-map ts (holds_at w m) x (MarkedIn ts w m) (λ p. MarkedIn (t ∷ ts) w m (width t + p)) (m ≡ 0) (m ≡ 0) (q - width t) (λ p lt. (rest_marked t ts m p).1) (λ e. e)
              ((StepsIn-marked ts m x (q - width t) is).1 u.1),
        )) h,
  )

  -- the patterns that can be left are those that match
  pub leaves_match : (rules : List Rule) (ts : List Core) → AreRuleCores rules ts → (k m : ℕ) →
      ExitsIn ts k (holds_at w m) (MarkedIn ts w m) (m ≡ 0) ↔ RuleMatches rules k w 0 m
  leaves_match [] [] h k m = (λ x. absurd x, λ x. absurd x)
  leaves_match [] (t ∷ ts) h k m = absurd h
  leaves_match (rule ∷ rules) [] h k m = absurd h
  leaves_match (rule ∷ rules) (t ∷ ts) h zero m =
      iff_trans (
        Exits-map t (holds_at w m) (MarkedIn (t ∷ ts) w m) (Marked t w m) (m ≡ 0) (m ≡ 0) (λ p lt. (first_marked t ts m p lt).0) (λ e. e),
        Exits-map t (holds_at w m) (Marked t w m) (MarkedIn (t ∷ ts) w m) (m ≡ 0) (m ≡ 0) (λ p lt. (first_marked t ts m p lt).1) (λ e. e),
      )
      (iff_trans (iff_sym (Marked-exits w t m)) (h.0.matches w 0 m))
  leaves_match (rule ∷ rules) (t ∷ ts) h (suc k) m =
      iff_trans (
        ExitsIn-map ts k (holds_at w m) (λ p. MarkedIn (t ∷ ts) w m (width t + p)) (MarkedIn ts w m) (m ≡ 0) (m ≡ 0) (λ p lt. (rest_marked t ts m p).0) (λ e. e),
        ExitsIn-map ts k (holds_at w m) (MarkedIn ts w m) (λ p. MarkedIn (t ∷ ts) w m (width t + p)) (m ≡ 0) (m ≡ 0) (λ p lt. (rest_marked t ts m p).1) (λ e. e),
      )
      (leaves_match rules ts h.1 k m)

  none_marked : (ts : List Core) (q : ℕ) → MarkedIn ts w 0 q → ⊥
  none_marked [] q h = h
  none_marked (t ∷ ts) q h = ⊎_elim (λ u. u.1) (λ u. none_marked ts (q - width t) u.1) h

  -- The state determines which positions have read the byte before m, and the kind of that byte.
  pub record IsAfter (ts : List Core) (m : ℕ) (s : State) : Type 0 where
    pub set : IsSet s.positions (width_of ts)
    pub has : (q : ℕ) → Has s.positions q ↔ MarkedIn ts w m q
    pub start : IsTrue (is_start s.kind) ↔ (m ≡ 0)
    pub seen : AreFree ts ⊎ ((m ≡ 0 → ⊥) × (s.positions ≡ [])) ⊎ (s.kind ≡ kind_before (byte_before w m))

  pub after_nothing : (ts : List Core) → IsAfter ts 0 start_state
  after_nothing ts = record {
    set = record { rising = no_positions.rising; below = λ k lt. absurd (omega (arith, lt)) };
    has = λ q. (λ h. absurd (none_there q h), λ h. absurd (none_marked ts q h));
    start = (λ e. refl, λ e. refl);
    seen = inr (inr refl);
  }

  module _ (ts : List Core) (m : ℕ) (s : State) (after : IsAfter ts m s) where
    entered : (m ≡ 0 → ⊥) → IsTrue (is_start s.kind) → ⊥
    entered later e = later (after.start.0 e)

    no_marks : s.positions ≡ [] → (q : ℕ) → MarkedIn ts w m q → ⊥
    no_marks e q h = none_there q (subst (λ xs. Has xs q) e ((after.has q).1 h))

    -- the kind that is remembered is as good as the byte
    same_test : s.kind ≡ kind_before (byte_before w m) → test_at (record { before = s.kind; after = byte_after w m }) ≡ holds_at w m
    same_test e = ap (λ k. test_at (record { before = k; after = byte_after w m })) e ∙ test_of_context w m

    pub right_steps : (x q : ℕ) → slice_get w m ≡ Some x →
        StepsIn ts (test_at (record { before = s.kind; after = Some x })) x (Has s.positions) (IsTrue (is_start s.kind)) q ↔ MarkedIn ts w (suc m) q
    right_steps x q is = iff_trans (by_kind after.seen) (StepsIn-marked ts m x q is)
      where
        test : Look → Bool
        test = test_at (record { before = s.kind; after = Some x })

        into : StepsIn ts (test_at (record { before = s.kind; after = Some x })) x (Has s.positions) (IsTrue (is_start s.kind)) q →
            StepsIn ts (test_at (record { before = s.kind; after = Some x })) x (MarkedIn ts w m) (m ≡ 0) q
        into = StepsIn-map ts (test_at (record { before = s.kind; after = Some x })) x (Has s.positions) (MarkedIn ts w m) (IsTrue (is_start s.kind)) (m ≡ 0) q (λ p lt. (after.has p).0) after.start.0

        back : StepsIn ts (test_at (record { before = s.kind; after = Some x })) x (MarkedIn ts w m) (m ≡ 0) q →
            StepsIn ts (test_at (record { before = s.kind; after = Some x })) x (Has s.positions) (IsTrue (is_start s.kind)) q
        back = StepsIn-map ts (test_at (record { before = s.kind; after = Some x })) x (MarkedIn ts w m) (Has s.positions) (m ≡ 0) (IsTrue (is_start s.kind)) q (λ p lt. (after.has p).1) after.start.1

        by_kind : AreFree ts ⊎ ((m ≡ 0 → ⊥) × (s.positions ≡ [])) ⊎ (s.kind ≡ kind_before (byte_before w m)) →
            StepsIn ts (test_at (record { before = s.kind; after = Some x })) x (Has s.positions) (IsTrue (is_start s.kind)) q ↔ StepsIn ts (holds_at w m) x (MarkedIn ts w m) (m ≡ 0) q
        by_kind (inl free) = (
          λ h. StepsIn-free ts free (test_at (record { before = s.kind; after = Some x })) (holds_at w m) x (MarkedIn ts w m) (m ≡ 0) q (into h),
          λ h. back (StepsIn-free ts free (holds_at w m) (test_at (record { before = s.kind; after = Some x })) x (MarkedIn ts w m) (m ≡ 0) q h),
        )
        by_kind (inr (inl none)) = (
          λ h. absurd (StepsIn-void ts _ x (MarkedIn ts w m) (m ≡ 0) q (no_marks none.1) none.0 (into h)),
          λ h. absurd (StepsIn-void ts _ x (MarkedIn ts w m) (m ≡ 0) q (no_marks none.1) none.0 h),
        )
        by_kind (inr (inr e)) =
            let same : test_at (record { before = s.kind; after = Some x }) ≡ holds_at w m = ap (λ o. test_at (record { before = s.kind; after = o })) (sym is) ∙ same_test e in (
              λ h. subst (λ f. StepsIn ts f x (MarkedIn ts w m) (m ≡ 0) q) same (into h),
              λ h. back (subst (λ f. StepsIn ts f x (MarkedIn ts w m) (m ≡ 0) q) (sym same) h),
            )

    pub right_exits : (side : Option ℕ) (k : ℕ) → byte_after w m ≡ side →
        ExitsIn ts k (test_at (record { before = s.kind; after = side })) (Has s.positions) (IsTrue (is_start s.kind)) ↔ ExitsIn ts k (holds_at w m) (MarkedIn ts w m) (m ≡ 0)
    right_exits side k is = by_kind after.seen
      where
        into : ExitsIn ts k (test_at (record { before = s.kind; after = side })) (Has s.positions) (IsTrue (is_start s.kind)) →
            ExitsIn ts k (test_at (record { before = s.kind; after = side })) (MarkedIn ts w m) (m ≡ 0)
        into = ExitsIn-map ts k (test_at (record { before = s.kind; after = side })) (Has s.positions) (MarkedIn ts w m) (IsTrue (is_start s.kind)) (m ≡ 0) (λ p lt. (after.has p).0) after.start.0

        back : ExitsIn ts k (test_at (record { before = s.kind; after = side })) (MarkedIn ts w m) (m ≡ 0) →
            ExitsIn ts k (test_at (record { before = s.kind; after = side })) (Has s.positions) (IsTrue (is_start s.kind))
        back = ExitsIn-map ts k (test_at (record { before = s.kind; after = side })) (MarkedIn ts w m) (Has s.positions) (m ≡ 0) (IsTrue (is_start s.kind)) (λ p lt. (after.has p).1) after.start.1

        by_kind : AreFree ts ⊎ ((m ≡ 0 → ⊥) × (s.positions ≡ [])) ⊎ (s.kind ≡ kind_before (byte_before w m)) →
            ExitsIn ts k (test_at (record { before = s.kind; after = side })) (Has s.positions) (IsTrue (is_start s.kind)) ↔ ExitsIn ts k (holds_at w m) (MarkedIn ts w m) (m ≡ 0)
        by_kind (inl free) = (
          λ h. ExitsIn-free ts k free (test_at (record { before = s.kind; after = side })) (holds_at w m) (MarkedIn ts w m) (m ≡ 0) (into h),
          λ h. back (ExitsIn-free ts k free (holds_at w m) (test_at (record { before = s.kind; after = side })) (MarkedIn ts w m) (m ≡ 0) h),
        )
        by_kind (inr (inl none)) = (
          λ h. absurd (ExitsIn-void ts k _ (MarkedIn ts w m) (m ≡ 0) (no_marks none.1) none.0 (into h)),
          λ h. absurd (ExitsIn-void ts k _ (MarkedIn ts w m) (m ≡ 0) (no_marks none.1) none.0 h),
        )
        by_kind (inr (inr e)) =
            let same : test_at (record { before = s.kind; after = side }) ≡ holds_at w m = ap (λ o. test_at (record { before = s.kind; after = o })) (sym is) ∙ same_test e in (
              λ h. subst (λ f. ExitsIn ts k f (MarkedIn ts w m) (m ≡ 0)) same (into h),
              λ h. back (subst (λ f. ExitsIn ts k f (MarkedIn ts w m) (m ≡ 0)) (sym same) h),
            )

    -- the state after one more byte
    pub next_after : (looks : Bool) (x : ℕ) (next : State) → (looks ≡ false → AreFree ts) → slice_get w m ≡ Some x → IsNext ts looks s x next → IsAfter ts (suc m) next
    next_after looks x next free is step = record {
      set = step.positions.set;
      has = λ q. iff_trans (step.positions.has q) (right_steps x q is);
      start = (λ e. absurd (not_start looks next.positions (subst (λ k. IsTrue (is_start k)) step.kind e)), λ e. absurd (omega (arith, e)));
      seen = remembered looks next.positions refl step.kind free;
    }
      where
        never_start : IsTrue (is_start (kind_of_byte x)) → ⊥
        never_start = go (is_word_byte x) (x == 13) (x == 10)
          where
            go : (a b c : Bool) → IsTrue (is_start (if a then kind.Word else (if b then kind.Cr else (if c then kind.Lf else kind.Other)))) → ⊥
            go true b c e = true≢false (sym e)
            go false true c e = true≢false (sym e)
            go false false true e = true≢false (sym e)
            go false false false e = true≢false (sym e)

        not_start : (looks : Bool) (positions : List ℕ) → IsTrue (is_start (next_kind looks positions x)) → ⊥
        not_start looks [] e = true≢false (sym e)
        not_start false (p ∷ positions) e = true≢false (sym e)
        not_start true (p ∷ positions) e = never_start e

        remembered : (looks : Bool) (positions : List ℕ) → next.positions ≡ positions → next.kind ≡ next_kind looks positions x → (looks ≡ false → AreFree ts) →
            AreFree ts ⊎ ((suc m ≡ 0 → ⊥) × (next.positions ≡ [])) ⊎ (next.kind ≡ kind_before (byte_before w (suc m)))
        remembered looks [] e k f = inr (inl (λ z. omega (arith, z), e))
        remembered false (p ∷ positions) e k f = inl (f refl)
        remembered true (p ∷ positions) e k f = inr (inr (k ∙ ap kind_before (sym (before_at w m ∙ is))))

    -- the leaves that a state reached by a byte lists
    pub lists_by_byte : (rules : List Rule) (looks : Bool) (x : ℕ) (next : State) → AreRuleCores rules ts → slice_get w m ≡ Some x → IsNext ts looks s x next →
        (k : ℕ) → Has next.matches k ↔ RuleMatches rules k w 0 m
    lists_by_byte rules looks x next are is step k =
        iff_trans (step.matches.has k) (iff_trans (right_exits (Some x) k is) (leaves_match rules ts are k m))

    -- the leaves that a state reached by the end lists
    pub lists_at_end : (rules : List Rule) (next : State) → AreRuleCores rules ts → byte_after w m ≡ None → IsLast ts s next →
        (k : ℕ) → Has next.matches k ↔ RuleMatches rules k w 0 m
    lists_at_end rules next are is last k =
        iff_trans (last.matches.has k) (iff_trans (right_exits None k is) (leaves_match rules ts are k m))
