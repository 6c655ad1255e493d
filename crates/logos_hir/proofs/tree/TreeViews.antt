-- The tree of each form of a `Hir`.
use Rattle.std.proofs.Common.{◌≡◌, ℕ, Bool, map, Option, Vec, Box, Global, sym, ap, ◌∙◌}
use Rattle.logos_hir.specs.declared.hir.Look.{Look as LookType}
use Rattle.logos_hir.specs.declared.hir.Class.{Class as ClassType}
use Rattle.logos_hir.specs.declared.hir.Hir.{Hir, Hir-F, out-Hir, roll-Hir, fold-roll-Hir, roll-out-Hir}
use Rattle.logos_hir.specs.declared.hir.Hir.TheVariants.{Empty, Literal, Class, Look, Repetition, Capture, Concat, Alternation, rolls-Empty, rolls-Literal, rolls-Class, rolls-Look, rolls-Repetition, rolls-Capture, rolls-Concat, rolls-Alternation}
use Rattle.logos_hir.specs.Tree.{Tree, empty, literal, look, repetition, capture, concat, alternation, trees}
use Rattle.logos_hir.specs.Hir.{tree_of, node_tree, class_tree}

pub tree-Empty : tree_of Empty ≡ empty
tree-Empty = ap tree_of (sym rolls-Empty) ∙ fold-roll-Hir Tree node_tree Hir-F.Empty

pub tree-Literal : (bytes : Vec ℕ Global) → tree_of (Literal bytes) ≡ literal bytes.items
tree-Literal bytes = ap tree_of (sym (rolls-Literal bytes)) ∙ fold-roll-Hir Tree node_tree (Hir-F.Literal bytes)

pub tree-Class : (class : ClassType) → tree_of (Class class) ≡ class_tree class
tree-Class class = ap tree_of (sym (rolls-Class class)) ∙ fold-roll-Hir Tree node_tree (Hir-F.Class class)

pub tree-Look : (l : LookType) → tree_of (Look l) ≡ look l
tree-Look l = ap tree_of (sym (rolls-Look l)) ∙ fold-roll-Hir Tree node_tree (Hir-F.Look l)

pub tree-Repetition : (least : ℕ) (most : Option ℕ) (greedy : Bool) (sub : Box Hir Global) →
    tree_of (Repetition least most greedy sub) ≡ repetition least most greedy (tree_of sub.value)
tree-Repetition least most greedy sub =
    ap tree_of (sym (rolls-Repetition least most greedy sub)) ∙ fold-roll-Hir Tree node_tree (Hir-F.Repetition least most greedy sub)

pub tree-Capture : (sub : Box Hir Global) → tree_of (Capture sub) ≡ capture (tree_of sub.value)
tree-Capture sub = ap tree_of (sym (rolls-Capture sub)) ∙ fold-roll-Hir Tree node_tree (Hir-F.Capture sub)

pub tree-Concat : (parts : Vec Hir Global) → tree_of (Concat parts) ≡ concat (trees (map tree_of parts.items))
tree-Concat parts = ap tree_of (sym (rolls-Concat parts)) ∙ fold-roll-Hir Tree node_tree (Hir-F.Concat parts)

pub tree-Alternation : (branches : Vec Hir Global) → tree_of (Alternation branches) ≡ alternation (trees (map tree_of branches.items))
tree-Alternation branches =
    ap tree_of (sym (rolls-Alternation branches)) ∙ fold-roll-Hir Tree node_tree (Hir-F.Alternation branches)

-- the form of a `Hir`
pub data Kind (h : Hir) : Type 0 where
  is_empty : h ≡ Empty → Kind h
  is_literal : (bytes : Vec ℕ Global) → h ≡ Literal bytes → Kind h
  is_class : (class : ClassType) → h ≡ Class class → Kind h
  is_look : (l : LookType) → h ≡ Look l → Kind h
  is_repetition : (least : ℕ) (most : Option ℕ) (greedy : Bool) (sub : Box Hir Global) → h ≡ Repetition least most greedy sub → Kind h
  is_capture : (sub : Box Hir Global) → h ≡ Capture sub → Kind h
  is_concat : (parts : Vec Hir Global) → h ≡ Concat parts → Kind h
  is_alternation : (branches : Vec Hir Global) → h ≡ Alternation branches → Kind h

kind_of : (h : Hir) (f : Hir-F Hir) → roll-Hir f ≡ h → Kind h
kind_of h Hir-F.Empty e = is_empty (sym e ∙ rolls-Empty)
kind_of h (Hir-F.Literal bytes) e = is_literal bytes (sym e ∙ rolls-Literal bytes)
kind_of h (Hir-F.Class class) e = is_class class (sym e ∙ rolls-Class class)
kind_of h (Hir-F.Look l) e = is_look l (sym e ∙ rolls-Look l)
kind_of h (Hir-F.Repetition least most greedy sub) e = is_repetition least most greedy sub (sym e ∙ rolls-Repetition least most greedy sub)
kind_of h (Hir-F.Capture sub) e = is_capture sub (sym e ∙ rolls-Capture sub)
kind_of h (Hir-F.Concat parts) e = is_concat parts (sym e ∙ rolls-Concat parts)
kind_of h (Hir-F.Alternation branches) e = is_alternation branches (sym e ∙ rolls-Alternation branches)

pub kind : (h : Hir) → Kind h
kind h = kind_of h (out-Hir h) (roll-out-Hir h)
