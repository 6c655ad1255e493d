-- The transitions of states on bytes, by the steps of their live trees.
use Rattle.std.proofs.Common.{Bor, zero, suc, ◌≡◌, ℕ, ◌+◌, ◌<◌, ◌≤◌, ◌↔◌, Bool, true, false, IsTrue, List, [], ◌∷◌, ◌++◌, None, Some, append_assoc, add-one, drop, drop-cons, get_or, length, map, slice_get, slice_index, if◌then◌else◌, refl, sym, ap, ap₂, ◌∙◌, subst, true≢false, arith}
use Rattle.std.proofs.Math.ListN.{drop_of_length-le}
use Rattle.std.proofs.lemmas.Option.{slice_get_read, slice_get_past}
use Rattle.std.specs.Slice.{IsItemAt}
use Rattle.logos_automaton.specs.Keys.{IsNext, is_start, next_kind}
use Rattle.logos_automaton.specs.declared.cache.LiveTree.{LiveTree}
use Rattle.logos_automaton.specs.declared.tree_steps.TreeSteps.{TreeSteps}
use Rattle.logos_automaton.specs.inside.Steps.{AreLive, HasSteps, IsLive, Keeps, NoneLive, TreeView, left_by, positions_by, state_after, step_from, step_of, viewed, AreSameBy, StepView}
use Rattle.logos_hir.specs.declared.hir.Look.{Look}
use Rattle.logos_positions.specs.Core.{Core, width}
use Rattle.logos_positions.specs.Kinds.{kind_of_byte, test_at}
use Rattle.logos_positions.specs.Marks.{Has}
use Rattle.logos_positions.specs.Node.{core_of}
use Rattle.logos_positions.specs.Several.{AreStarts, IsStepOf, LeftBy, OwesNumbers, OwesPositions, ReadBy}
use Rattle.logos_positions.specs.declared.node.Node.{Node}
use Rattle.logos_positions.specs.declared.positions.tree.TreeStep.{TreeStep}
use Rattle.logos_positions.specs.declared.positions.look.ByteKind.{ByteKind}
use Rattle.logos_positions.proofs.steps.SeveralLemmas.{next_start, node_at, numbers_after, numbers_first, owes_numbers_none, owes_positions_none, pass_numbers, pass_positions, positions_after, positions_first}
use Rattle.logos_positions.proofs.steps.TreeLemmas.{Stepped-append, step_by_own}

not_entered : (i j : ℕ) → IsTrue false → j ≡ i
not_entered i j e = absurd (true≢false (sym e))

append_none : (xs : List ℕ) → xs ++ [] ≡ xs
append_none [] = refl
append_none (x ∷ xs) = ap (λ ys. x ∷ ys) (append_none xs)

-- one more number, or none, in front of others
noted_before : (is : Bool) (xs ys : List ℕ) (n : ℕ) → (if is then xs ++ n ∷ [] else xs) ++ ys ≡ xs ++ (if is then n ∷ ys else ys)
noted_before true xs ys n = append_assoc xs (n ∷ []) ys
noted_before false xs ys n = refl

module _ (nodes : List Node) (starts : List ℕ) (are : AreStarts nodes starts) (positions : List ℕ) (before : ByteKind) (all : List TreeSteps) where
  module _ (x : ℕ) (byte : x < 256) where
    abbrev test : Look → Bool
    test = test_at (record { before = before; after = Some x })

    abbrev ts : List Core
    ts = map core_of nodes

    -- the trees from the number i on have not been processed
    from_tree : (lives : List LiveTree) (i : ℕ) (read left : List ℕ) →
        OwesPositions ts (map core_of (drop i nodes)) test x (Has positions) (IsTrue false) (slice_index starts i) read →
        OwesNumbers ts (map core_of (drop i nodes)) test (Has positions) (IsTrue false) (slice_index starts i) i left →
        AreLive nodes starts positions before all i lives (length nodes) →
        ReadBy ts test x (Has positions) (IsTrue false) (read ++ positions_by all lives x) × LeftBy ts test (Has positions) (IsTrue false) (left ++ left_by all lives x)
    from_tree [] i read left p n none =
        let last : length nodes ≤ length nodes = omega arith in
        let past : drop (length nodes) nodes ≡ [] = drop_of_length-le nodes last in
        let q = pass_positions nodes starts are positions test ts x false read i (length nodes) none.order last (not_entered i (length nodes)) none.none p in
        let m = pass_numbers nodes starts are positions test ts false left i (length nodes) none.order last (not_entered i (length nodes)) none.none n in (
          subst (ReadBy ts test x (Has positions) (IsTrue false)) (sym (append_none read))
              (owes_positions_none test (Has positions) (IsTrue false) ts x (slice_index starts (length nodes)) read (rw past at q)),
          subst (LeftBy ts test (Has positions) (IsTrue false)) (sym (append_none left))
              (owes_numbers_none test (Has positions) (IsTrue false) ts (slice_index starts (length nodes)) (length nodes) left (rw past at m)),
        )
    from_tree (live ∷ lives) i read left p n h =
        let none = h.0 in
        let mine = h.1 in
        let within : live.tree ≤ length nodes = omega (arith, mine.there) in
        let node = node_at nodes live.tree mine.there in
        let step = step_of all live x in
        let made : IsStepOf (core_of node.0) test x positions (slice_index starts live.tree) step.positions step.left = rw mine.at (mine.make node.0 node.1 x byte) in
        let q = pass_positions nodes starts are positions test ts x false read i live.tree none.order within (not_entered i live.tree) none.none p in
        let m = pass_numbers nodes starts are positions test ts false left i live.tree none.order within (not_entered i live.tree) none.none n in
        let stepped = Stepped-append (core_of node.0) test x positions read step.positions (slice_index starts live.tree) step.left q.set made in
        let q2 = positions_after nodes starts are positions test ts x false step.left read (read ++ step.positions) live.tree node.0 mine.there node.1 stepped q in
        let m2 = numbers_after nodes starts are positions test ts false step.left left (if step.left then left ++ live.tree ∷ [] else left) live.tree node.0 mine.there node.1 made.leaves refl m in
        let rest = from_tree lives (live.tree + 1) (read ++ step.positions) (if step.left then left ++ live.tree ∷ [] else left) q2 m2 h.2 in (
          subst (ReadBy ts test x (Has positions) (IsTrue false)) (append_assoc read step.positions (positions_by all lives x)) rest.0,
          subst (LeftBy ts test (Has positions) (IsTrue false)) (noted_before step.left left (left_by all lives x) live.tree) rest.1,
        )

  -- the byte x leads to the state that the live trees determine
  pub next_is : (looks : Bool) (lives : List LiveTree) (matches : List ℕ) → AreLive nodes starts positions before all 0 lives (length nodes) → is_start before ≡ false →
      (x : ℕ) → x < 256 → IsNext (map core_of nodes) looks (record { positions = positions; kind = before; matches = matches }) x (state_after looks all lives x)
  next_is looks lives matches live entered x byte =
      let t = test_at (record { before = before; after = Some x }) in
      let r = from_tree x byte lives 0 [] [] (positions_first nodes starts are positions t (map core_of nodes) x false refl) (numbers_first nodes starts are positions t (map core_of nodes) false refl) live in
      record {
        positions = subst (λ b. ReadBy (map core_of nodes) t x (Has positions) (IsTrue b) (positions_by all lives x)) (sym entered) r.0;
        matches = subst (λ b. LeftBy (map core_of nodes) t (Has positions) (IsTrue b) (left_by all lives x)) (sym entered) r.1;
        kind = refl;
      }

  -- one more live tree
  pub live_more : (lives : List LiveTree) (i j k : ℕ) (live : LiveTree) → AreLive nodes starts positions before all i lives j → live.tree ≡ j → IsLive nodes starts positions before all live →
      NoneLive starts positions (j + 1) k → AreLive nodes starts positions before all i (lives ++ live ∷ []) k
  live_more [] i j k live none e mine later = (subst (NoneLive starts positions i) (sym e) none, mine, subst (λ t. NoneLive starts positions (t + 1) k) (sym e) later)
  live_more (l ∷ lives) i j k live h e mine later = (h.0, h.1, live_more lives (l.tree + 1) j k live h.2 e mine later)

  -- steps are added
  pub live_grown : (new : List TreeSteps) → Keeps all new → (lives : List LiveTree) (i j : ℕ) → AreLive nodes starts positions before all i lives j → AreLive nodes starts positions before new i lives j
  live_grown new keeps [] i j h = h
  live_grown new keeps (l ∷ lives) i j h = (
    h.0,
    record { there = h.1.there; steps = h.1.steps; at = keeps l.steps h.1.steps h.1.at; make = h.1.make },
    live_grown new keeps lives (l.tree + 1) j h.2,
  )

  -- the steps from the state of a tree are those of the live tree
  pub live_by : (state : TreeView) (i : ℕ) (live : LiveTree) → live.tree ≡ state.tree → live.steps ≡ i → state.kind ≡ before → live.tree < length nodes →
      ((q : ℕ) → slice_index starts live.tree ≤ q → q < slice_index starts (live.tree + 1) → Has state.positions q ↔ Has positions q) →
      HasSteps nodes starts all state i → IsLive nodes starts positions before all live
  live_by state i live tree index kind there has h = record {
    there = there;
    steps = h.steps;
    at = rw index h.at;
    make = λ node is x byte.
        let made = h.are.make x byte node (rw (← tree) is) in
        let next = next_start nodes starts are live.tree node there is in
        let own : (q : ℕ) → slice_index starts live.tree ≤ q → q < slice_index starts live.tree + width (core_of node) → Has state.positions q ↔ Has positions q =
        λ q low high. has q low (omega (arith, next, high)) in
        step_by_own (core_of node) (test_at (record { before = before; after = Some x })) x state.positions positions _ (slice_index starts live.tree) _ own (rw (← kind, tree) made);
  }

-- where each live tree makes one step by both bytes, and both are of one kind or no tree has a
-- look, they lead to one state
pub same_after : (all : List TreeSteps) (lives : List LiveTree) (x y : ℕ) (looks : Bool) → AreSameBy all lives x y → (IsTrue looks → kind_of_byte x ≡ kind_of_byte y) →
    state_after looks all lives x ≡ state_after looks all lives y
same_after all lives x y looks same kinds =
    let p = positions_same lives same in
    let m = left_same lives same in
    let k : next_kind looks (positions_by all lives x) x ≡ next_kind looks (positions_by all lives y) y =
    ap (λ ps. next_kind looks ps x) p ∙ same_kind looks (positions_by all lives y) kinds in
    λ i. record { positions = p i; kind = k i; matches = m i }
  where
    positions_same : (lives : List LiveTree) → AreSameBy all lives x y → positions_by all lives x ≡ positions_by all lives y
    positions_same [] h = refl
    positions_same (live ∷ lives) h = ap₂ (λ (s : StepView) (ps : List ℕ). s.positions ++ ps) h.0 (positions_same lives h.1)

    left_same : (lives : List LiveTree) → AreSameBy all lives x y → left_by all lives x ≡ left_by all lives y
    left_same [] h = refl
    left_same (live ∷ lives) h = ap₂ (λ (s : StepView) (ns : List ℕ). if s.left then live.tree ∷ ns else ns) h.0 (left_same lives h.1)

    same_kind : (looks : Bool) (ps : List ℕ) → (IsTrue looks → kind_of_byte x ≡ kind_of_byte y) → next_kind looks ps x ≡ next_kind looks ps y
    same_kind looks [] e = refl
    same_kind false (p ∷ ps) e = refl
    same_kind true (p ∷ ps) e = e refl

-- one live tree after another
module _ (all : List TreeSteps) (lives : List LiveTree) (n : ℕ) (live : LiveTree) (lt : n < length lives) (is : live ≡ get_or lives n live) where
  next_live : drop n lives ≡ live ∷ drop (n + 1) lives
  next_live =
      let e : drop n lives ≡ get_or lives n live ∷ drop (n + 1) lives = drop-cons lives n live lt ∙ ap (λ k. get_or lives n live ∷ drop k lives) (sym (add-one n)) in
      e ∙ ap (λ l. l ∷ drop (n + 1) lives) (sym is)

  pub next_positions : (x : ℕ) (read new whole : List ℕ) → new ≡ read ++ (step_of all live x).positions → read ++ positions_by all (drop n lives) x ≡ whole →
      new ++ positions_by all (drop (n + 1) lives) x ≡ whole
  next_positions x read new whole made so_far =
      ap (λ ps. ps ++ positions_by all (drop (n + 1) lives) x) made
      ∙ append_assoc read (step_of all live x).positions (positions_by all (drop (n + 1) lives) x)
      ∙ ap (λ ls. read ++ positions_by all ls x) (sym next_live)
      ∙ so_far

  pub next_left : (x : ℕ) (left new whole : List ℕ) (is_left : Bool) → is_left ≡ (step_of all live x).left → new ≡ (if is_left then left ++ live.tree ∷ [] else left) →
      left ++ left_by all (drop n lives) x ≡ whole → new ++ left_by all (drop (n + 1) lives) x ≡ whole
  next_left x left new whole is_left leaves made so_far =
      ap (λ ns. ns ++ left_by all (drop (n + 1) lives) x) (made ∙ ap (λ (b : Bool). if b then left ++ live.tree ∷ [] else left) leaves)
      ∙ noted_before (step_of all live x).left left (left_by all (drop (n + 1) lives) x) live.tree
      ∙ ap (λ ls. left ++ left_by all ls x) (sym next_live)
      ∙ so_far

  pub next_same : (x y : ℕ) {W : Type 0} → step_of all live x ≡ step_of all live y → (AreSameBy all (drop n lives) x y → W) → AreSameBy all (drop (n + 1) lives) x y → W
  next_same x y same so_far rest = so_far (subst (λ ls. AreSameBy all ls x y) (sym next_live) (same, rest))

-- an element at an index is the element there, for any default
pub item_is : (lives : List LiveTree) (n : ℕ) (d : LiveTree) → n < length lives → get_or lives n d ≡ get_or lives n (get_or lives n d)
item_is [] n d lt = absurd (omega (arith, lt))
item_is (live ∷ lives) zero d lt = refl
item_is (live ∷ lives) (suc n) d lt = item_free lives n d (get_or lives n d) (omega (arith, lt))
  where
    item_free : (lives : List LiveTree) (n : ℕ) (d e : LiveTree) → n < length lives → get_or lives n d ≡ get_or lives n e
    item_free [] n d e lt = absurd (omega (arith, lt))
    item_free (live ∷ lives) zero d e lt = refl
    item_free (live ∷ lives) (suc n) d e lt = item_free lives n d e (omega (arith, lt))

read_at : {X : Type 0} (xs : List X) (i : ℕ) (r : Bor X) → IsItemAt xs i (Some r) → slice_get xs i ≡ Some r.now
read_at xs i r h = slice_get_read xs (length xs) i r.now refl h.3.0 h.1

read_past : {X : Type 0} (xs : List X) (i : ℕ) → IsItemAt xs i None → length xs ≤ i
read_past xs i h = h.3

-- the step of a live tree, where it was found
step_found : (all : List TreeSteps) (live : LiveTree) (x : ℕ) (s : Bor TreeSteps) (found : List TreeStep) (t : Bor TreeStep) → IsItemAt all live.steps (Some s) → found ≡ s.now.found.items →
    IsItemAt found (slice_index s.now.by_byte x) (Some t) → step_of all live x ≡ record { positions = t.now.positions.items; left = t.now.left }
step_found all live x s found t at same here =
    ap (λ o. step_from o x) (read_at all live.steps s at)
    ∙ ap viewed (ap (λ fs. slice_get fs (slice_index s.now.by_byte x)) (sym same) ∙ read_at found (slice_index s.now.by_byte x) t here)

-- and where there is none
step_missing : (all : List TreeSteps) (live : LiveTree) (x : ℕ) (s : Bor TreeSteps) (found : List TreeStep) → IsItemAt all live.steps (Some s) → found ≡ s.now.found.items →
    IsItemAt found (slice_index s.now.by_byte x) None → step_of all live x ≡ viewed None
step_missing all live x s found at same none =
    ap (λ o. step_from o x) (read_at all live.steps s at)
    ∙ ap viewed (ap (λ fs. slice_get fs (slice_index s.now.by_byte x)) (sym same) ∙ slice_get_past found (slice_index s.now.by_byte x) (read_past found (slice_index s.now.by_byte x) none))

-- the positions of a live tree's step are added, or there is no such step
pub push_some : (all : List TreeSteps) (live : LiveTree) (x : ℕ) (s : Bor TreeSteps) (found : List TreeStep) (t : Bor TreeStep) (old new added : List ℕ) → IsItemAt all live.steps (Some s) → found ≡ s.now.found.items →
    IsItemAt found (slice_index s.now.by_byte x) (Some t) → added ≡ t.now.positions.items → new ≡ old ++ added → new ≡ old ++ (step_of all live x).positions
push_some all live x s found t old new added at same here is made =
    made ∙ ap (λ ps. old ++ ps) is ∙ sym (ap (λ (v : StepView). old ++ v.positions) (step_found all live x s found t at same here))

pub left_some : (all : List TreeSteps) (live : LiveTree) (x : ℕ) (s : Bor TreeSteps) (found : List TreeStep) (t : Bor TreeStep) → IsItemAt all live.steps (Some s) → found ≡ s.now.found.items →
    IsItemAt found (slice_index s.now.by_byte x) (Some t) → t.now.left ≡ (step_of all live x).left
left_some all live x s found t at same here = sym (ap (λ (v : StepView). v.left) (step_found all live x s found t at same here))

pub push_none : (all : List TreeSteps) (live : LiveTree) (x : ℕ) (s : Bor TreeSteps) (found : List TreeStep) (old : List ℕ) → IsItemAt all live.steps (Some s) → found ≡ s.now.found.items →
    IsItemAt found (slice_index s.now.by_byte x) None → old ≡ old ++ (step_of all live x).positions
push_none all live x s found old at same none = sym (append_none old) ∙ sym (ap (λ (v : StepView). old ++ v.positions) (step_missing all live x s found at same none))

pub left_none : (all : List TreeSteps) (live : LiveTree) (x : ℕ) (s : Bor TreeSteps) (found : List TreeStep) → IsItemAt all live.steps (Some s) → found ≡ s.now.found.items →
    IsItemAt found (slice_index s.now.by_byte x) None → false ≡ (step_of all live x).left
left_none all live x s found at same none = sym (ap (λ (v : StepView). v.left) (step_missing all live x s found at same none))
