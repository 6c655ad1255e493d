-- Evidence of the components of a graph.
use Rattle.std.specs.Prelude.{◌≡◌, ◌<◌, ◌⊎◌, ℕ, List, Some, Vec, Contains, length, map}
use Rattle.std.specs.List.{slice_get}
use Rattle.std.specs.declared.alloc.Global.{Global}
use Rattle.logos_type_params.specs.cycles.Cycles.{targets_of}
use Rattle.logos_type_params.specs.declared.cycles.evidence.Membership.{Membership}

-- The graph whose lists of targets these are.
abbrev pub graph : List (Vec ℕ Global) → List (List ℕ)
graph lists = map (λ list. list.items) lists

-- An edge leads from the first node to the second one.
abbrev pub Edge : List (List ℕ) → ℕ → ℕ → Type 0
Edge graph from to = Contains (targets_of graph from) to

-- The second membership is in the component of the first or in a later one.
abbrev pub Follows : Membership → Membership → Type 0
Follows membership next = (membership.order < next.order)
    ⊎ ((membership.order ≡ next.order) × (membership.root ≡ next.root))

-- Each of these nodes is in the component of the membership or in a later one.
abbrev pub FollowAll : List Membership → Membership → List ℕ → Type 0
FollowAll memberships membership targets = (to : ℕ) → Contains targets to → (next : Membership) →
    slice_get memberships to ≡ Some next → Follows membership next

-- An edge leads to a node with the same root that is nearer to it.
pub record StepsToward (graph : List (List ℕ)) (memberships : List Membership)
    (node : ℕ) (membership : Membership) : Type 0 where
  pub to : ℕ
  pub next : Membership
  pub edge : Edge graph node to
  pub is : slice_get memberships to ≡ Some next
  pub root : next.root ≡ membership.root
  pub nearer : next.to_rank < membership.to_rank

-- The node is its own root, or an edge leads from it nearer to its root.
abbrev pub GoesToward : List (List ℕ) → List Membership → ℕ → Membership → Type 0
GoesToward graph memberships node membership = (membership.root ≡ node) ⊎ StepsToward graph memberships node membership

-- An edge comes from a node with the same root that the root reaches in fewer edges.
pub record StepsFrom (graph : List (List ℕ)) (memberships : List Membership)
    (node : ℕ) (membership : Membership) : Type 0 where
  pub from : ℕ
  pub before : Membership
  pub edge : Edge graph from node
  pub is : slice_get memberships from ≡ Some before
  pub root : before.root ≡ membership.root
  pub nearer : before.from_rank < membership.from_rank

-- The node is its own root, or an edge comes to it from a node that the root reaches in fewer
-- edges.
abbrev pub ComesFrom : List (List ℕ) → List Membership → ℕ → Membership → Type 0
ComesFrom graph memberships node membership = (membership.root ≡ node) ⊎ StepsFrom graph memberships node membership

-- A node has this membership: it leads to its root, its root leads to it, and its edges lead to its
-- own component or to later ones.
pub record IsPlaced (graph : List (List ℕ)) (memberships : List Membership)
    (node : ℕ) (membership : Membership) : Type 0 where
  pub toward : GoesToward graph memberships node membership
  pub from : ComesFrom graph memberships node membership
  pub follow : FollowAll memberships membership (targets_of graph node)

-- Each node has this membership.
pub record IsEvidence (graph : List (List ℕ)) (memberships : List Membership) : Type 0 where
  pub same_length : length memberships ≡ length graph
  pub placed : (node : ℕ) (membership : Membership) → slice_get memberships node ≡ Some membership →
      IsPlaced graph memberships node membership

-- The node has this root.
pub record HasRoot (memberships : List Membership) (node root : ℕ) : Type 0 where
  pub membership : Membership
  pub is : slice_get memberships node ≡ Some membership
  pub same : membership.root ≡ root

-- One of the nodes in `targets` has this root.
pub record HasInner (memberships : List Membership) (root : ℕ) (targets : List ℕ) : Type 0 where
  pub to : ℕ
  pub target : Contains targets to
  pub has : HasRoot memberships to root
