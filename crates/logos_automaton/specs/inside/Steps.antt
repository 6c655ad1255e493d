-- The steps of trees, which are computed once for each state of a tree, and the states to which
-- they lead.
use Rattle.std.specs.Prelude.{◌≡◌, ℕ, ◌+◌, ◌<◌, ◌≤◌, ◌⊎◌, Bool, false, List, [], ◌∷◌, ◌++◌, Option, Some, None, length, slice_get, slice_index, slice_index_or, if◌then◌else◌}
use Rattle.logos_automaton.specs.Keys.{State, IsAt, IsNext, is_start, next_kind}
use Rattle.logos_automaton.specs.declared.cache.LiveTree.{LiveTree}
use Rattle.logos_automaton.specs.declared.key.Key.{Key}
use Rattle.logos_automaton.specs.declared.tree_steps.TreeState.{TreeState}
use Rattle.logos_automaton.specs.declared.tree_steps.TreeSteps.{TreeSteps}
use Rattle.logos_positions.specs.Core.{Core}
use Rattle.logos_positions.specs.Kinds.{test_at}
use Rattle.logos_positions.specs.Marks.{Has, IsRising}
use Rattle.logos_positions.specs.Node.{core_of}
use Rattle.logos_positions.specs.Several.{IsStepOf}
use Rattle.logos_positions.specs.declared.node.Node.{Node}
use Rattle.logos_positions.specs.declared.positions.look.ByteKind.{ByteKind}
use Rattle.logos_positions.specs.declared.positions.tree.TreeStep.{TreeStep}

-- A step: the positions that read the byte, and whether the tree can be left before it.
pub record StepView : Type 0 where
  pub positions : List ℕ
  pub left : Bool

-- The step that a value of type `TreeStep` represents.
abbrev pub view_of : TreeStep → StepView
view_of step = record { positions = step.positions.items; left = step.left }

-- A step, or an empty step if there is none.
abbrev pub viewed : Option TreeStep → StepView
viewed None = record { positions = []; left = false }
viewed (Some step) = view_of step

-- The step for the byte `x`, whose index is in `by_byte`.
abbrev pub step_in : List TreeStep → List ℕ → ℕ → StepView
step_in found by_byte x = viewed (slice_get found (slice_index by_byte x))

-- The step for the byte `x`, if there are steps.
abbrev pub step_from : Option TreeSteps → ℕ → StepView
step_from None x = viewed None
step_from (Some steps) x = step_in steps.found.items steps.by_byte x

-- If these positions read the byte before, which is of this kind, the byte `x` makes this step on
-- the pattern `t`, whose positions begin at `base`.
abbrev pub Makes : Core → ByteKind → List ℕ → ℕ → ℕ → StepView → Type 0
Makes t before positions base x step = IsStepOf t (test_at (record { before = before; after = Some x })) x positions base step.positions step.left

-- A state of a tree in contracts.
pub record TreeView : Type 0 where
  pub tree : ℕ
  pub positions : List ℕ
  pub kind : ByteKind

-- The state of a tree that a value of type `TreeState` represents.
abbrev pub tree_view : TreeState → TreeView
tree_view state = record { tree = state.tree; positions = state.positions.items; kind = state.kind }

-- The stored steps keep their indices.
abbrev pub Keeps : List TreeSteps → List TreeSteps → Type 0
Keeps old new = (i : ℕ) (steps : TreeSteps) → slice_get old i ≡ Some steps → slice_get new i ≡ Some steps

-- No tree from the number `i` on and below `j` has one of the positions.
pub record NoneLive (starts positions : List ℕ) (i j : ℕ) : Type 0 where
  pub order : i ≤ j
  pub none : (q : ℕ) → slice_index starts i ≤ q → q < slice_index starts j → Has positions q → ⊥

module _ (nodes : List Node) (starts : List ℕ) where
  -- The tree of the state is one of the trees.
  pub record IsTreeState (state : TreeView) : Type 0 where
    pub there : state.tree < length nodes
    pub rising : IsRising state.positions

  -- From the state, the byte `x` makes this step on the tree.
  abbrev pub MakesFrom : TreeView → ℕ → StepView → Type 0
  MakesFrom state x step = (node : Node) → node ≡ slice_index_or nodes state.tree node →
      Makes (core_of node) state.kind state.positions (slice_index starts state.tree) x step

  -- From the state, the first `n` bytes make these steps on the tree.
  pub record AreStepsFrom (state : TreeView) (found : List TreeStep) (by_byte : List ℕ) (n : ℕ) : Type 0 where
    pub there : (x : ℕ) → x < n → slice_index by_byte x < length found
    pub make : (x : ℕ) → x < n → MakesFrom state x (step_in found by_byte x)

  -- The steps from the state have this index.
  pub record HasSteps (all : List TreeSteps) (state : TreeView) (i : ℕ) : Type 0 where
    pub steps : TreeSteps
    pub at : slice_get all i ≡ Some steps
    pub are : AreStepsFrom state steps.found.items steps.by_byte 256

  -- Each state has its steps.
  pub record AreCached (states : List TreeState) (all : List TreeSteps) : Type 0 where
    pub count : length all ≡ length states
    pub are : (i : ℕ) (state : TreeState) → slice_get states i ≡ Some state → HasSteps all (tree_view state) i

  -- Each state but the last has its steps, and the last has none.
  pub record LacksLast (states : List TreeState) (all : List TreeSteps) : Type 0 where
    pub before : List TreeState
    pub last : TreeState
    pub is : states ≡ before ++ last ∷ []
    pub state : IsTreeState (tree_view last)
    pub cached : AreCached before all

  -- At most the last state has no steps.
  abbrev pub AreAlmostCached : List TreeState → List TreeSteps → Type 0
  AreAlmostCached states all = AreCached states all ⊎ LacksLast states all

  -- The steps at the index of the live tree are the steps of its tree from all these positions.
  pub record IsLive (positions : List ℕ) (before : ByteKind) (all : List TreeSteps) (live : LiveTree) : Type 0 where
    pub there : live.tree < length nodes
    pub steps : TreeSteps
    pub at : slice_get all live.steps ≡ Some steps
    pub make : (node : Node) → node ≡ slice_index_or nodes live.tree node → (x : ℕ) → x < 256 →
        Makes (core_of node) before positions (slice_index starts live.tree) x (step_from (Some steps) x)

  -- These are the trees from the number `i` on and below `j` that have one of the positions.
  abbrev pub AreLive : List ℕ → ByteKind → List TreeSteps → ℕ → List LiveTree → ℕ → Type 0
  AreLive positions before all i [] j = NoneLive starts positions i j
  AreLive positions before all i (live ∷ lives) j =
      NoneLive starts positions i live.tree × IsLive positions before all live × AreLive positions before all (live.tree + 1) lives j

-- The step of a live tree for the byte `x`.
abbrev pub step_of : List TreeSteps → LiveTree → ℕ → StepView
step_of all live x = step_from (slice_get all live.steps) x

-- The positions of all live trees that read the byte `x`.
abbrev pub positions_by : List TreeSteps → List LiveTree → ℕ → List ℕ
positions_by all [] x = []
positions_by all (live ∷ lives) x = (step_of all live x).positions ++ positions_by all lives x

-- The live trees that can be left before the byte `x`.
abbrev pub left_by : List TreeSteps → List LiveTree → ℕ → List ℕ
left_by all [] x = []
left_by all (live ∷ lives) x = if (step_of all live x).left then live.tree ∷ left_by all lives x else left_by all lives x

-- The state after the byte `x`.
abbrev pub state_after : Bool → List TreeSteps → List LiveTree → ℕ → State
state_after looks all lives x = record {
  positions = positions_by all lives x;
  kind = next_kind looks (positions_by all lives x) x;
  matches = left_by all lives x;
}

-- According to the steps of the live trees, each byte leads from state `i` to its `state_after`.
pub record Foresees (ts : List Core) (looks : Bool) (ks : List Key) (i : ℕ) (all : List TreeSteps) (lives : List LiveTree) : Type 0 where
  pub from : State
  pub from_is : IsAt ks i from
  pub next : (x : ℕ) → x < 256 → IsNext ts looks from x (state_after looks all lives x)

-- State `i` is not the start.
abbrev pub IsNotStart : List Key → ℕ → Type 0
IsNotStart ks i = (s : State) → IsAt ks i s → is_start s.kind ≡ false

-- Both bytes make the same step on each of the live trees.
abbrev pub AreSameBy : List TreeSteps → List LiveTree → ℕ → ℕ → Type 0
AreSameBy all [] x y = Unit {0}
AreSameBy all (live ∷ lives) x y = (step_of all live x ≡ step_of all live y) × AreSameBy all lives x y
