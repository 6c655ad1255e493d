-- The steps of one tree by each byte.
use Rattle.std.proofs.Common.{◌≡◌, ℕ, zero, suc, ◌+◌, ◌-◌, ◌<◌, ◌≤◌, ◌⊎◌, Bool, true, false, not, IfSome, IsFalse, IsTrue, List, [], ◌∷◌, ◌++◌, Option, None, Some, length, set, slice_get, slice_index, slice_index_or, if◌then◌else◌, refl, sym, ap, ◌∙◌, subst, inl, inr, ⊎_elim, true≢false, arith}
use Rattle.std.specs.Bool.{then_some}
use Rattle.std.proofs.lemmas.List.{get_or-set_other}
use Rattle.std.proofs.lemmas.Grind.{get_or-set_at}
use Rattle.logos_automaton.specs.inside.Alike.{AreFirstOf, GoesAlike}
use Rattle.logos_automaton.specs.inside.Steps.{AreStepsFrom, MakesFrom, StepView, TreeView, step_in, viewed}
use Rattle.logos_hir.specs.declared.hir.Look.{Look}
use Rattle.logos_positions.specs.Core.{IsFree}
use Rattle.logos_positions.specs.Kinds.{kind_of_byte, test_at}
use Rattle.logos_positions.specs.Marks.{Has}
use Rattle.logos_positions.specs.Node.{core_of}
use Rattle.logos_positions.specs.Several.{IsStepOf}
use Rattle.logos_positions.specs.declared.node.Node.{Node}
use Rattle.logos_positions.specs.declared.positions.tree.TreeStep.{TreeStep}
use Rattle.logos_automaton.proofs.keys.AlikeLemmas.{Steps-same}
use Rattle.logos_automaton.proofs.runs.RunLemmas.{Exits-free, Steps-free}
use Rattle.logos_positions.proofs.steps.LookLemmas.{test_after}
use Rattle.logos_positions.proofs.steps.MarkLemmas.{Has-push}

below_or_same : (a b : ℕ) → a < b + 1 → (a < b) ⊎ (a ≡ b)
below_or_same a b lt = grind arith

-- the facts by the byte before, where the byte is not marked
pub if_known : (P : ℕ → Type 0) (is_first : Bool) (before : ℕ) → (is_first ≡ false → P before) → IfSome (then_some (not is_first) before) P
if_known P true before same = tt
if_known P false before same = same refl

pub if_some : (o : Option ℕ) (P Q : ℕ → Type 0) → ((i : ℕ) → P i → Q i) → IfSome o P → IfSome o Q
if_some None P Q f h = h
if_some (Some i) P Q f h = f i h

module _ (nodes : List Node) (starts : List ℕ) (state : TreeView) where
  module _ (looks : Bool) (free : (node : Node) → node ≡ slice_index_or nodes state.tree node → looks ≡ false → IsFree (core_of node)) where
    -- the assertions that hold matter if there are assertions
    tested_alike : (x y : ℕ) (step : StepView) (node : Node) → node ≡ slice_index_or nodes state.tree node → (b : Bool) → looks ≡ b → (IsTrue looks → kind_of_byte x ≡ kind_of_byte y) →
        MakesFrom nodes starts state x step →
        IsStepOf (core_of node) (test_at (record { before = state.kind; after = Some y })) x state.positions (slice_index starts state.tree) step.positions step.left
    tested_alike x y step node is true e kinds made =
        subst (λ (t : Look → Bool). IsStepOf (core_of node) t x state.positions (slice_index starts state.tree) step.positions step.left) (test_after x y (kinds e) state.kind) (made node is)
    tested_alike x y step node is false e kinds made =
        let s = made node is in
        let f = free node is e in
        let before = test_at (record { before = state.kind; after = Some x }) in
        let after = test_at (record { before = state.kind; after = Some y }) in
        let base = slice_index starts state.tree in
        let marks = λ (p : ℕ). Has state.positions (base + p) in
        record {
          set = s.set;
          has = λ q. (
            λ h. let u = (s.has q).0 h in (u.0, Steps-free (core_of node) f before after x marks (IsTrue false) (q - base) u.1),
            λ h. (s.has q).1 (h.0, Steps-free (core_of node) f after before x marks (IsTrue false) (q - base) h.1),
          );
          leaves = (
            λ l. Exits-free (core_of node) f before after marks (IsTrue false) (s.leaves.0 l),
            λ l. s.leaves.1 (Exits-free (core_of node) f after before marks (IsTrue false) l),
          );
        }

    -- a byte that is not distinguished from another has its step
    makes_alike : (x y : ℕ) (step : StepView) →
        ((node : Node) → node ≡ slice_index_or nodes state.tree node → GoesAlike (core_of node) (λ q. Has state.positions (slice_index starts state.tree + q)) x y × (IsTrue looks → kind_of_byte x ≡ kind_of_byte y)) →
        MakesFrom nodes starts state x step → MakesFrom nodes starts state y step
    makes_alike x y step alike made node is =
        let a = alike node is in
        let base = slice_index starts state.tree in
        let test = test_at (record { before = state.kind; after = Some y }) in
        let s = tested_alike x y step node is looks refl a.1 made in
        let same = λ (q : ℕ). Steps-same (core_of node) test x y (λ p. Has state.positions (base + p)) (IsTrue false) (q - base) a.0 (λ e. absurd (true≢false (sym e))) in
        record {
          set = s.set;
          has = λ q. (
            λ h. let u = (s.has q).0 h in (u.0, (same q).0 u.1),
            λ h. (s.has q).1 (h.0, (same q).1 h.1),
          );
          leaves = s.leaves;
        }

    -- the step by the byte before, where the byte is not marked
    pub made_before : (first : List Bool) (byte : ℕ) (step : StepView) → 1 ≤ byte → byte < 256 → AreFirstOf nodes looks state.tree state.positions (slice_index starts state.tree) first →
        slice_index_or first byte false ≡ false → MakesFrom nodes starts state (byte - 1) step → MakesFrom nodes starts state byte step
    made_before first byte step some lt firsts e made =
        let back : byte - 1 + 1 ≡ byte = omega (arith, some) in
        subst (λ k. MakesFrom nodes starts state k step) back
        (makes_alike (byte - 1) (byte - 1 + 1) step (λ node is. firsts node is (byte - 1) (omega (arith, some, lt)) (rw back e)) made)

  -- no byte has its step
  pub no_steps : (found : List TreeStep) (by_byte : List ℕ) → AreStepsFrom nodes starts state found by_byte 0
  no_steps found by_byte = record { there = λ x lt. absurd (omega (arith, lt)); make = λ x lt. absurd (omega (arith, lt)) }

  -- one more byte has its step
  pub more_steps : (found new : List TreeStep) (by_byte : List ℕ) (n i : ℕ) → n < length by_byte → ((j : ℕ) → j < length found → slice_get new j ≡ slice_get found j) → length found ≤ length new →
      i < length new → MakesFrom nodes starts state n (viewed (slice_get new i)) → AreStepsFrom nodes starts state found by_byte n → AreStepsFrom nodes starts state new (set by_byte n i) (n + 1)
  more_steps found new by_byte n i lt keeps longer within made h = record {
    there = λ x below.
        ⊎_elim
        (λ (l : x < n).
        let kept = other x l in
        let t = h.there x l in
        omega (arith, kept, t, longer))
        (λ (e : x ≡ n).
        let put = here x e in
        omega (arith, put, within))
        (below_or_same x n below);
    make = λ x below.
        ⊎_elim
        (λ (l : x < n).
        let same : step_in new (set by_byte n i) x ≡ step_in found by_byte x =
        ap (λ k. viewed (slice_get new k)) (other x l) ∙ ap viewed (keeps (slice_index by_byte x) (h.there x l)) in
        subst (MakesFrom nodes starts state x) (sym same) (h.make x l))
        (λ (e : x ≡ n).
        let same : step_in new (set by_byte n i) x ≡ viewed (slice_get new i) = ap (λ k. viewed (slice_get new k)) (here x e) in
        subst (MakesFrom nodes starts state x) (sym same) (subst (λ k. MakesFrom nodes starts state k (viewed (slice_get new i))) (sym e) made))
        (below_or_same x n below);
  }
    where
      other : (x : ℕ) → x < n → slice_index (set by_byte n i) x ≡ slice_index by_byte x
      other x l = get_or-set_other by_byte n x i 0 (λ e. omega (arith, e, l))

      here : (x : ℕ) → x ≡ n → slice_index (set by_byte n i) x ≡ i
      here x e = get_or-set_at by_byte n x i 0 e lt

-- one more byte is a change, or not
pub more_changes : (by_byte changes new : List ℕ) (n : ℕ) (is : Bool) → 1 ≤ n → new ≡ (if is then changes ++ n ∷ [] else changes) → (IsFalse is → slice_index by_byte (n - 1) ≡ slice_index by_byte n) →
    ((x : ℕ) → x + 1 < n → Has changes (x + 1) ⊎ (slice_index by_byte x ≡ slice_index by_byte (x + 1))) →
    (x : ℕ) → x + 1 < n + 1 → Has new (x + 1) ⊎ (slice_index by_byte x ≡ slice_index by_byte (x + 1))
more_changes by_byte changes new n is some made same h x lt = ⊎_elim (λ low. before is made (h x low)) (λ here. last is made same here) (below_or_same (x + 1) n lt)
  where
    before : (is : Bool) → new ≡ (if is then changes ++ n ∷ [] else changes) → Has changes (x + 1) ⊎ (slice_index by_byte x ≡ slice_index by_byte (x + 1)) →
        Has new (x + 1) ⊎ (slice_index by_byte x ≡ slice_index by_byte (x + 1))
    before true made s = ⊎_elim (λ u. inl (rw made ((Has-push changes n (x + 1)).1 (inl u)))) inr s
    before false made s = rw made s

    last : (is : Bool) → new ≡ (if is then changes ++ n ∷ [] else changes) → (IsFalse is → slice_index by_byte (n - 1) ≡ slice_index by_byte n) → x + 1 ≡ n →
        Has new (x + 1) ⊎ (slice_index by_byte x ≡ slice_index by_byte (x + 1))
    last true made same here = inl (rw made ((Has-push changes n (x + 1)).1 (inr here)))
    last false made same here =
        let back : n - 1 ≡ x = omega (arith, here) in
        inr (subst (λ k. slice_index by_byte x ≡ slice_index by_byte k) (sym here) (subst (λ k. slice_index by_byte k ≡ slice_index by_byte n) back (same refl)))

-- a step at the end of a list
pub get_last : {A : Type 0} (xs : List A) (x : A) → slice_get (xs ++ x ∷ []) (length xs) ≡ Some x
get_last [] x = refl
get_last (y ∷ xs) x = get_last xs x

pub get_before : {A : Type 0} (xs ys : List A) (i : ℕ) → i < length xs → slice_get (xs ++ ys) i ≡ slice_get xs i
get_before [] ys i lt = absurd (omega (arith, lt))
get_before (x ∷ xs) ys zero lt = refl
get_before (x ∷ xs) ys (suc i) lt = get_before xs ys i (omega (arith, lt))
