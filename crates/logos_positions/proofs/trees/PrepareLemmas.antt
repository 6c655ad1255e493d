-- Prepared patterns: the forms of trees, and trees in lists.
use Rattle.std.proofs.Common.{◌≡◌, ℕ, zero, suc, ◌+◌, ◌*◌, ◌^◌, ◌<◌, ◌≤◌, Bool, true, false, IsTrue, List, [], ◌∷◌, ◌++◌, map, length, take, drop, get_or, drop-cons, add-one, append_assoc, Option, Vec, Box, Global, refl, sym, ap, ◌∙◌, subst, true≢false, arith}
use Rattle.std.proofs.lemmas.List.{map-append, take-append-drop}
use Rattle.logos_hir.specs.Tree as tree
use Rattle.logos_hir.specs.Tree.{Tree, Trees, none, also, trees}
use Rattle.logos_hir.specs.Hir.{class_tree, node_tree, tree_of}
use Rattle.logos_hir.specs.declared.hir.Look as look_type
use Rattle.logos_hir.specs.declared.hir.Class as class_type
use Rattle.logos_hir.specs.declared.hir.Hir.{Hir, Hir-F, fold-roll-Hir}
use Rattle.logos_hir.specs.declared.hir.Hir.TheVariants.{Empty, Literal, Class, Look, Repetition, Capture, Concat, Alternation, rolls-Empty, rolls-Literal, rolls-Class, rolls-Look, rolls-Repetition, rolls-Capture, rolls-Concat, rolls-Alternation}
use Rattle.logos_positions.specs.Core.{Core, byte_in, cat, alt, width}
use Rattle.logos_positions.specs.IsCore.{IsCoreOf, IsCoreOfParts, IsCoreOfBranches}
use Rattle.logos_positions.specs.inside.Joined.{of_none, IsPair, apart, as_class, IsJoined, from_none, from_one, from_two, AreCoresOf}
use Rattle.logos_positions.specs.Node.{core_of, is_measured, AreMeasured}
use Rattle.logos_positions.specs.Run.{width_of}
use Rattle.logos_positions.specs.Size.{size, sizes}
use Rattle.logos_positions.specs.declared.node.Node.{Node}
use Rattle.logos_positions.proofs.trees.TreesLemmas.{join_trees, count_trees}
use Rattle.logos_positions.proofs.trees.ByteLemmas.{branches_class}
use Rattle.logos_positions.proofs.trees.PartLemmas.{parts_none, parts_one, parts_join, branches_none, branches_one, branches_join}

pub tree-Empty : tree_of Empty ≡ tree.empty
tree-Empty = ap tree_of (sym rolls-Empty) ∙ fold-roll-Hir Tree node_tree Hir-F.Empty

pub tree-Literal : (bytes : Vec ℕ Global) → tree_of (Literal bytes) ≡ tree.literal bytes.items
tree-Literal bytes = ap tree_of (sym (rolls-Literal bytes)) ∙ fold-roll-Hir Tree node_tree (Hir-F.Literal bytes)

pub tree-Class : (class : class_type.Class) → tree_of (Class class) ≡ class_tree class
tree-Class class = ap tree_of (sym (rolls-Class class)) ∙ fold-roll-Hir Tree node_tree (Hir-F.Class class)

pub tree-Look : (l : look_type.Look) → tree_of (Look l) ≡ tree.look l
tree-Look l = ap tree_of (sym (rolls-Look l)) ∙ fold-roll-Hir Tree node_tree (Hir-F.Look l)

pub tree-Repetition : (min : ℕ) (max : Option ℕ) (greedy : Bool) (sub : Box Hir Global) → tree_of (Repetition min max greedy sub) ≡ tree.repetition min max greedy (tree_of sub.value)
tree-Repetition min max greedy sub = ap tree_of (sym (rolls-Repetition min max greedy sub)) ∙ fold-roll-Hir Tree node_tree (Hir-F.Repetition min max greedy sub)

pub tree-Capture : (sub : Box Hir Global) → tree_of (Capture sub) ≡ tree.capture (tree_of sub.value)
tree-Capture sub = ap tree_of (sym (rolls-Capture sub)) ∙ fold-roll-Hir Tree node_tree (Hir-F.Capture sub)

pub tree-Concat : (parts : Vec Hir Global) → tree_of (Concat parts) ≡ tree.concat (trees (map tree_of parts.items))
tree-Concat parts = ap tree_of (sym (rolls-Concat parts)) ∙ fold-roll-Hir Tree node_tree (Hir-F.Concat parts)

pub tree-Alternation : (branches : Vec Hir Global) → tree_of (Alternation branches) ≡ tree.alternation (trees (map tree_of branches.items))
tree-Alternation branches = ap tree_of (sym (rolls-Alternation branches)) ∙ fold-roll-Hir Tree node_tree (Hir-F.Alternation branches)

-- widths of lists
pub width_of-append : (xs ys : List Core) → width_of (xs ++ ys) ≡ width_of xs + width_of ys
width_of-append [] ys = omega arith
width_of-append (x ∷ xs) ys = omega (arith, width_of-append xs ys)

pub width_of-cores : (ts : Trees) (cs : List Core) → AreCoresOf ts cs → width_of cs ≤ 2 ^ 16 * sizes ts
width_of-cores none [] h = omega arith
width_of-cores none (c ∷ cs) h = absurd h
width_of-cores (also t ts) [] h = absurd h
width_of-cores (also t ts) (c ∷ cs) h = let k = width_of-cores ts cs h.1 in let s = h.0.small in omega arith

width-pair : (in_order : Bool) (a b c : Core) → IsPair in_order a b c → width c ≤ width a + width b
width-pair true a b _ apart = omega arith
width-pair false a b _ apart = omega arith
width-pair in_order a b _ (as_class has e either) = let f = ap width either.first_is in omega (arith, f)

width-none : (in_order : Bool) → width (of_none in_order) ≡ 0
width-none true = refl
width-none false = refl

pub width-joined : (in_order : Bool) (cs : List Core) (c : Core) → IsJoined in_order cs c → width c ≤ width_of cs
width-joined in_order _ _ from_none = omega (arith, width-none in_order)
width-joined in_order _ _ (from_one c) = omega arith
width-joined in_order _ _ (from_two xs ys a b c f g p) =
    omega (arith, width-pair in_order a b c p, width-joined in_order xs a f, width-joined in_order ys b g, width_of-append xs ys)

-- the trees of two groups
split_cores : (ts : Trees) (xs ys : List Core) → AreCoresOf ts (xs ++ ys) →
    (us vs : Trees) × (ts ≡ join_trees us vs) × AreCoresOf us xs × AreCoresOf vs ys
split_cores ts [] ys h = (none, ts, refl, tt, h)
split_cores none (x ∷ xs) ys h = absurd h
split_cores (also t ts) (x ∷ xs) ys h =
    let u = split_cores ts xs ys h.1 in
    (also t u.0, u.1, ap (also t) u.2, (h.0, u.3), u.4)

pub joined_parts : (ts : Trees) (cs : List Core) (c : Core) → AreCoresOf ts cs → IsJoined true cs c → (n : ℕ) → IsCoreOfParts ts n c
joined_parts none _ _ h from_none n = parts_none n
joined_parts (also t ts) _ _ h from_none n = absurd h
joined_parts none _ _ h (from_one c) n = absurd h
joined_parts (also t none) _ _ h (from_one c) n = parts_one t c n h.0
joined_parts (also t (also u ts)) _ _ h (from_one c) n = absurd h.1
joined_parts ts _ _ h (from_two xs ys a b _ f g (as_class has e either)) n = absurd (true≢false e)
joined_parts ts _ _ h (from_two xs ys a b _ f g apart) n =
    let u = split_cores ts xs ys h in
    subst (λ k. IsCoreOfParts k n (cat a b)) (sym u.2)
    (parts_join u.0 u.1 n (n + count_trees u.0) a b refl (joined_parts u.0 xs a u.3 f n) (joined_parts u.1 ys b u.4 g (n + count_trees u.0)))

pub joined_branches : (ts : Trees) (cs : List Core) (c : Core) → AreCoresOf ts cs → IsJoined false cs c → (n : ℕ) → IsCoreOfBranches ts n c
joined_branches none _ _ h from_none n = branches_none n
joined_branches (also t ts) _ _ h from_none n = absurd h
joined_branches none _ _ h (from_one c) n = absurd h
joined_branches (also t none) _ _ h (from_one c) n = branches_one t c n h.0
joined_branches (also t (also u ts)) _ _ h (from_one c) n = absurd h.1
joined_branches ts _ _ h (from_two xs ys a b _ f g apart) n =
    let u = split_cores ts xs ys h in
    subst (λ k. IsCoreOfBranches k n (alt a b)) (sym u.2)
    (branches_join u.0 u.1 n (n + count_trees u.0) a b refl (joined_branches u.0 xs a u.3 f n) (joined_branches u.1 ys b u.4 g (n + count_trees u.0)))
joined_branches ts _ _ h (from_two xs ys a b _ f g (as_class has e either)) n =
    let u = split_cores ts xs ys h in
    let both = branches_join u.0 u.1 n (n + count_trees u.0) a b refl (joined_branches u.0 xs a u.3 f n) (joined_branches u.1 ys b u.4 g (n + count_trees u.0)) in
    subst (λ k. IsCoreOfBranches k n (byte_in has)) (sym u.2)
    (branches_class either.first either.second has either.either (join_trees u.0 u.1) n
    (subst (λ k. IsCoreOfBranches (join_trees u.0 u.1) n (alt k (byte_in either.second))) either.first_is
    (subst (λ k. IsCoreOfBranches (join_trees u.0 u.1) n (alt a k)) either.second_is both)))

pub AreMeasured-push : (xs : List Node) (x : Node) → AreMeasured xs → IsTrue (is_measured x) → AreMeasured (xs ++ x ∷ [])
AreMeasured-push [] x h k = (k, tt)
AreMeasured-push (y ∷ xs) x h k = (h.0, AreMeasured-push xs x h.1 k)

pub AreMeasured-take : (n : ℕ) (xs : List Node) → AreMeasured xs → AreMeasured (take n xs)
AreMeasured-take zero xs h = tt
AreMeasured-take (suc n) [] h = tt
AreMeasured-take (suc n) (x ∷ xs) h = (h.0, AreMeasured-take n xs h.1)

pub AreMeasured-drop : (n : ℕ) (xs : List Node) → AreMeasured xs → AreMeasured (drop n xs)
AreMeasured-drop zero xs h = h
AreMeasured-drop (suc n) [] h = tt
AreMeasured-drop (suc n) (x ∷ xs) h = AreMeasured-drop n xs h.1

pub cores_split : (n : ℕ) (xs : List Node) → map core_of (take n xs) ++ map core_of (drop n xs) ≡ map core_of xs
cores_split n xs = sym (map-append core_of (take n xs) (drop n xs)) ∙ ap (map core_of) (take-append-drop n xs)

-- one more tree is made ready
pub occur_more : (hirs : List Hir) (i : ℕ) (d : Hir) (nodes : List Node) (node : Node) → i < length hirs →
    ((cs : List Core) → AreCoresOf (trees (map tree_of (drop i hirs))) cs → AreCoresOf (trees (map tree_of hirs)) (map core_of nodes ++ cs)) →
    IsCoreOf (tree_of (get_or hirs i d)) (core_of node) →
    (cs : List Core) → AreCoresOf (trees (map tree_of (drop (i + 1) hirs))) cs → AreCoresOf (trees (map tree_of hirs)) (map core_of (nodes ++ node ∷ []) ++ cs)
occur_more hirs i d nodes node lt before is cs h =
    let e : drop i hirs ≡ get_or hirs i d ∷ drop (i + 1) hirs = drop-cons hirs i d lt ∙ ap (λ k. get_or hirs i d ∷ drop k hirs) (sym (add-one i)) in
    let all = before (core_of node ∷ cs) (subst (λ xs. AreCoresOf (trees (map tree_of xs)) (core_of node ∷ cs)) (sym e) (is, h)) in
    let same : map core_of (nodes ++ node ∷ []) ++ cs ≡ map core_of nodes ++ (core_of node ∷ cs) =
    ap (λ xs. xs ++ cs) (map-append core_of nodes (node ∷ [])) ∙ append_assoc (map core_of nodes) (core_of node ∷ []) cs in
    subst (AreCoresOf (trees (map tree_of hirs))) (sym same) all

-- no tree of a list is larger than all of them
pub size_at : (hirs : List Hir) (i : ℕ) (d : Hir) → i < length hirs → size (tree_of (get_or hirs i d)) ≤ sizes (trees (map tree_of hirs))
size_at [] i d lt = absurd (omega arith)
size_at (h ∷ hirs) zero d lt = omega arith
size_at (h ∷ hirs) (suc i) d lt = let k = size_at hirs i d (omega arith) in omega arith

pub widths_split : (n : ℕ) (xs : List Node) → width_of (map core_of (take n xs)) + width_of (map core_of (drop n xs)) ≡ width_of (map core_of xs)
widths_split n xs = sym (width_of-append (map core_of (take n xs)) (map core_of (drop n xs))) ∙ ap width_of (cores_split n xs)
