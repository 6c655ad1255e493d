-- Bytes that a pattern does not distinguish.
use Rattle.std.proofs.Common.{◌≡◌, ℕ, zero, suc, ◌+◌, ◌-◌, ◌<◌, ◌≤◌, ◌↔◌, ◌⊎◌, Bool, true, false, IsTrue, List, [], ◌∷◌, length, map, drop, slice_index, slice_index_or, refl, sym, ◌∙◌, subst, inl, inr, ⊎_elim, true≢false, arith}
use Rattle.logos_automaton.specs.inside.Alike.{MayPass, MayLeave, OpensAlike, GoesAlike, AreReadAlike}
use Rattle.logos_positions.specs.Core.{Core, void, empty, byte_in, character, look, cat, alt, plus, width, Exits, Steps}
use Rattle.logos_positions.specs.Marks.{Has}
use Rattle.logos_positions.specs.Node.{core_of}
use Rattle.logos_positions.specs.Run.{StepsIn}
use Rattle.logos_positions.specs.Several.{AreStarts}
use Rattle.logos_positions.specs.declared.node.Node.{Node}
use Rattle.logos_hir.specs.declared.hir.Look.{Look}
use Rattle.logos_positions.proofs.steps.PositionLemmas.{Steps-map}
use Rattle.logos_positions.proofs.steps.SeveralLemmas.{StepsIn-map, node_at, first_start, next_start, Unmarked, none_in, passed_to, next_core}
use Rattle.logos_positions.proofs.steps.SteppedLemmas.{Steps-void}

-- a pattern that is left was entered or has a mark from which it is left
leaves_or_passes : (t : Core) (test : Look → Bool) (M : ℕ → Type 0) (d : Type 0) → Exits t test M d → MayLeave t M ⊎ (d × MayPass t)
leaves_or_passes void test M d h = absurd h
leaves_or_passes empty test M d h = inr (h, tt)
leaves_or_passes (byte_in c) test M d h = inl h
leaves_or_passes (character r) test M d h = inl h
leaves_or_passes (look l) test M d h = inr (h.0, tt)
leaves_or_passes (cat a b) test M d h =
    ⊎_elim (λ u. inl (inr u))
    (λ u. ⊎_elim (λ l. inl (inl (l, u.1))) (λ p. inr (p.0, (p.1, u.1))) (leaves_or_passes a test M d u.0))
    (leaves_or_passes b test (λ q. M (width a + q)) (Exits a test M d) h)
leaves_or_passes (alt a b) test M d h =
    ⊎_elim
    (λ u. ⊎_elim (λ l. inl (inl l)) (λ p. inr (p.0, inl p.1)) (leaves_or_passes a test M d u))
    (λ u. ⊎_elim (λ l. inl (inr l)) (λ p. inr (p.0, inr p.1)) (leaves_or_passes b test (λ q. M (width a + q)) d u)) h
leaves_or_passes (plus a) test M d h = leaves_or_passes a test M d h

pub opens_back : (t : Core) (x y : ℕ) → OpensAlike t x y → OpensAlike t y x
opens_back void x y h = tt
opens_back empty x y h = tt
opens_back (byte_in c) x y h = sym h
opens_back (character r) x y h = sym h
opens_back (look l) x y h = tt
opens_back (cat a b) x y h = (opens_back a x y h.0, λ p. opens_back b x y (h.1 p))
opens_back (alt a b) x y h = (opens_back a x y h.0, opens_back b x y h.1)
opens_back (plus a) x y h = opens_back a x y h

goes_back : (t : Core) (M : ℕ → Type 0) (x y : ℕ) → GoesAlike t M x y → GoesAlike t M y x
goes_back void M x y h = tt
goes_back empty M x y h = tt
goes_back (byte_in c) M x y h = tt
goes_back (character r) M x y h = λ q le m. sym (h q le m)
goes_back (look l) M x y h = tt
goes_back (cat a b) M x y h = (goes_back a M x y h.0, λ l. opens_back b x y (h.1 l), goes_back b (λ q. M (width a + q)) x y h.2)
goes_back (alt a b) M x y h = (goes_back a M x y h.0, goes_back b (λ q. M (width a + q)) x y h.1)
goes_back (plus a) M x y h = (goes_back a M x y h.0, λ l. opens_back a x y (h.1 l))

Steps-alike : (t : Core) (test : Look → Bool) (x y : ℕ) (M : ℕ → Type 0) (d : Type 0) (p : ℕ) → GoesAlike t M x y → (d → OpensAlike t x y) → Steps t test x M d p → Steps t test y M d p
Steps-alike void test x y M d p g o s = s
Steps-alike empty test x y M d p g o s = s
Steps-alike (byte_in c) test x y M d p g o s = (s.0, s.1, sym (o s.1) ∙ s.2)
Steps-alike (character r) test x y M d p g o s = (
  s.0,
  ⊎_elim (λ u. inl (u.0, sym (o u.0) ∙ u.1)) (λ u. inr (u.0, u.1, u.2, sym (g u.0 u.1 u.2) ∙ u.3)) s.1,
)
Steps-alike (look l) test x y M d p g o s = s
Steps-alike (cat a b) test x y M d p g o s =
    ⊎_elim (λ u. inl (u.0, Steps-alike a test x y M d p g.0 (λ e. (o e).0) u.1))
    (λ u. inr (
      u.0,
      Steps-alike b test x y (λ q. M (width a + q)) (Exits a test M d) (p - width a) g.2
          (λ e. ⊎_elim (λ l. g.1 l) (λ v. (o v.0).1 v.1) (leaves_or_passes a test M d e)) u.1,
    )) s
Steps-alike (alt a b) test x y M d p g o s =
    ⊎_elim (λ u. inl (u.0, Steps-alike a test x y M d p g.0 (λ e. (o e).0) u.1))
    (λ u. inr (u.0, Steps-alike b test x y (λ q. M (width a + q)) d (p - width a) g.1 (λ e. (o e).1) u.1)) s
Steps-alike (plus a) test x y M d p g o s =
    Steps-alike a test x y M (d ⊎ Exits a test M ⊥) p g.0
    (λ e. ⊎_elim o (λ v. ⊎_elim (λ l. g.1 l) (λ w. absurd w.0) (leaves_or_passes a test M ⊥ v)) e) s

-- from these marks, and where it is entered, a pattern steps alike by both bytes
pub Steps-same : (t : Core) (test : Look → Bool) (x y : ℕ) (M : ℕ → Type 0) (d : Type 0) (p : ℕ) → GoesAlike t M x y → (d → OpensAlike t x y) → Steps t test x M d p ↔ Steps t test y M d p
Steps-same t test x y M d p g o = (Steps-alike t test x y M d p g o, Steps-alike t test y x M d p (goes_back t M x y g) (λ e. opens_back t x y (o e)))

-- one more pattern is read alike
read_more : (t : Core) (ts : List Core) (M N : ℕ → Type 0) (d : Type 0) (x y : ℕ) →
    ((test : Look → Bool) (q : ℕ) → Steps t test x M d q ↔ Steps t test y M d q) → ((q : ℕ) → M (width t + q) ↔ N q) →
    AreReadAlike ts N d x y → AreReadAlike (t ∷ ts) M d x y
read_more t ts M N d x y one same rest test q = (
  λ h. ⊎_elim (λ u. inl (u.0, (one test q).0 u.1)) (λ u. inr (u.0, later x y (λ r. (rest test r).0) u.1)) h,
  λ h. ⊎_elim (λ u. inl (u.0, (one test q).1 u.1)) (λ u. inr (u.0, later y x (λ r. (rest test r).1) u.1)) h,
)
  where
    later : (a b : ℕ) → ((r : ℕ) → StepsIn ts test a N d r → StepsIn ts test b N d r) →
        StepsIn ts test a (λ p. M (width t + p)) d (q - width t) → StepsIn ts test b (λ p. M (width t + p)) d (q - width t)
    later a b f h =
        StepsIn-map ts test b N (λ p. M (width t + p)) d d (q - width t) (λ p lt. (same p).1) (λ u. u)
        (f (q - width t) (StepsIn-map ts test a (λ p. M (width t + p)) N d d (q - width t) (λ p lt. (same p).0) (λ u. u) h))

module _ (nodes : List Node) (starts : List ℕ) (are : AreStarts nodes starts) (marks : List ℕ) (x y : ℕ) where
  -- if the trees from the i-th on are read alike, all are
  abbrev pub Suffices : Bool → ℕ → Type 0
  Suffices entered i =
      AreReadAlike (map core_of (drop i nodes)) (λ p. Has marks (slice_index starts i + p)) (IsTrue entered) x y →
      AreReadAlike (map core_of nodes) (Has marks) (IsTrue entered) x y

  pub suffices_first : (entered : Bool) → Suffices entered 0
  suffices_first entered h test q = (go x y (λ r. (h test r).0), go y x (λ r. (h test r).1))
    where
      same : (p : ℕ) → slice_index starts 0 + p ≡ p
      same p = let z = first_start nodes starts are in omega (arith, z)

      go : (a b : ℕ) → ((r : ℕ) → StepsIn (map core_of nodes) test a (λ p. Has marks (slice_index starts 0 + p)) (IsTrue entered) r →
          StepsIn (map core_of nodes) test b (λ p. Has marks (slice_index starts 0 + p)) (IsTrue entered) r) →
          StepsIn (map core_of nodes) test a (Has marks) (IsTrue entered) q → StepsIn (map core_of nodes) test b (Has marks) (IsTrue entered) q
      go a b f k =
          StepsIn-map (map core_of nodes) test b (λ p. Has marks (slice_index starts 0 + p)) (Has marks) _ _ q (λ p lt. subst (Has marks) (same p)) (λ u. u)
          (f q (StepsIn-map (map core_of nodes) test a (Has marks) (λ p. Has marks (slice_index starts 0 + p)) _ _ q (λ p lt. subst (Has marks) (sym (same p))) (λ u. u) k))

  one_alike : (entered : Bool) (i : ℕ) (node : Node) → i < length nodes → node ≡ slice_index_or nodes i node →
      ((test : Look → Bool) (q : ℕ) → Steps (core_of node) test x (λ p. Has marks (slice_index starts i + p)) (IsTrue entered) q
      ↔ Steps (core_of node) test y (λ p. Has marks (slice_index starts i + p)) (IsTrue entered) q) →
      Suffices entered i → Suffices entered (i + 1)
  one_alike entered i node lt is one before rest =
      before
      (rw (next_core nodes i node lt is)
      (read_more (core_of node) (map core_of (drop (i + 1) nodes)) (λ p. Has marks (slice_index starts i + p)) (λ p. Has marks (slice_index starts (i + 1) + p)) (IsTrue entered) x y one
      (λ q. (subst (Has marks) (same q), subst (Has marks) (sym (same q)))) rest))
    where
      same : (q : ℕ) → slice_index starts i + (width (core_of node) + q) ≡ slice_index starts (i + 1) + q
      same q = let next = next_start nodes starts are i node lt is in omega (arith, next)

  -- a tree that does not distinguish them
  pub suffices_alike : (entered : Bool) (i : ℕ) (node : Node) → i < length nodes → node ≡ slice_index_or nodes i node →
      GoesAlike (core_of node) (λ p. Has marks (slice_index starts i + p)) x y → (IsTrue entered → OpensAlike (core_of node) x y) →
      Suffices entered i → Suffices entered (i + 1)
  suffices_alike entered i node lt is goes opens h =
      one_alike entered i node lt is (λ test q. Steps-same (core_of node) test x y (λ p. Has marks (slice_index starts i + p)) (IsTrue entered) q goes opens) h

  -- a tree that is neither entered nor marked
  suffices_none : (i : ℕ) → i < length nodes → Unmarked nodes starts are marks i (i + 1) → Suffices false i → Suffices false (i + 1)
  suffices_none i lt none h =
      let node = node_at nodes i lt in
      one_alike false i node.0 lt node.1 (λ test q. (λ s. absurd (nothing node.0 node.1 test x q s), λ s. absurd (nothing node.0 node.1 test y q s))) h
    where
      out : IsTrue false → ⊥
      out e = true≢false (sym e)

      nothing : (node : Node) → node ≡ slice_index_or nodes i node → (test : Look → Bool) (z q : ℕ) →
          Steps (core_of node) test z (λ p. Has marks (slice_index starts i + p)) (IsTrue false) q → ⊥
      nothing node is test z q s = Steps-void (core_of node) test z q (Steps-map (core_of node) test z _ _ _ ⊥ q (none_in nodes starts are marks i node lt is none) out s)

  pub suffices_pass : (entered : Bool) (i j : ℕ) → i ≤ j → j ≤ length nodes → (IsTrue entered → j ≡ i) → Unmarked nodes starts are marks i j →
      Suffices entered i → Suffices entered j
  suffices_pass true i j le within stays none h = subst (Suffices true) (sym (stays refl)) h
  suffices_pass false i j le within stays none h = passed_to nodes starts are marks (Suffices false) suffices_none i j le within none h

  pub suffices_last : (entered : Bool) (i : ℕ) → i ≡ length nodes → Suffices entered i → AreReadAlike (map core_of nodes) (Has marks) (IsTrue entered) x y
  suffices_last entered i all h = h (rw (nothing_left nodes i all) (λ test q. (λ s. s, λ s. s)))
    where
      nothing_left : (nodes : List Node) (i : ℕ) → i ≡ length nodes → map core_of (drop i nodes) ≡ []
      nothing_left [] zero e = refl
      nothing_left [] (suc i) e = cc
      nothing_left (n ∷ nodes) zero e = absurd (omega (arith, e))
      nothing_left (n ∷ nodes) (suc i) e = nothing_left nodes i (omega (arith, e))
