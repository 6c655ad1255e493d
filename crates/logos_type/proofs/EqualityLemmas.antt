-- Lists of parts that are equal, one by one.
use Rattle.std.proofs.Common.{◌≡◌, ◌↔◌, IsTrue, ℕ, ◌<◌, ◌≤◌, ◌+◌, Bool, List, [], ◌∷◌, length, get_or, drop, map, Vec, Global, refl, sym, ap, ◌∙◌, arith}
use Rattle.std.proofs.Math.ListN.{drop_of_length-le}
use Rattle.logos_type.specs.declared.type_expr.TypePart.{TypePart}
use Rattle.logos_type.specs.declared.type_expr.TypePart.TheVariants.{Whole, Still}
use Rattle.logos_type.specs.Parts.{Tree, whole, still, Trees, trees, none, also, tree_of}
use Rattle.logos_type.proofs.PartTrees.{tree-Whole, tree-Still}
use Rattle.logos_type.proofs.PartLemmas.{list_front}

-- the rests of two lists are equal
abbrev pub SameFrom : ℕ → List TypePart → List TypePart → Type 0
SameFrom k xs ys = map tree_of (drop k xs) ≡ map tree_of (drop k ys)

heads : {t u : Tree} {ts us : List Tree} → t ∷ ts ≡ u ∷ us → t ≡ u
heads e = cc

tails : {t u : Tree} {ts us : List Tree} → t ∷ ts ≡ u ∷ us → ts ≡ us
tails e = cc

fronts : (xs ys : List TypePart) (k : ℕ) (p q : TypePart) → k < length xs → k < length ys → p ≡ get_or xs k p → q ≡ get_or ys k q → SameFrom k xs ys →
    tree_of p ∷ map tree_of (drop (k + 1) xs) ≡ tree_of q ∷ map tree_of (drop (k + 1) ys)
fronts xs ys k p q h i e f same = sym (list_front xs k p h e) ∙ same ∙ list_front ys k q i f

-- the next of them differ
pub next_differs : (xs ys : List TypePart) (k : ℕ) (p q : TypePart) → k < length xs → k < length ys → p ≡ get_or xs k p → q ≡ get_or ys k q → SameFrom k xs ys → tree_of p ≡ tree_of q
next_differs xs ys k p q h i e f same = heads (fronts xs ys k p q h i e f same)

-- the next of them are the same
pub next_same : (xs ys : List TypePart) (k : ℕ) (p q : TypePart) → k < length xs → k < length ys → p ≡ get_or xs k p → q ≡ get_or ys k q → tree_of p ≡ tree_of q →
    SameFrom k xs ys ↔ SameFrom (k + 1) xs ys
next_same xs ys k p q h i e f one = (
  λ same. tails (fronts xs ys k p q h i e f same),
  λ same. list_front xs k p h e
      ∙ ap (λ (t : Tree). t ∷ map tree_of (drop (k + 1) xs)) one
      ∙ ap (λ (ts : List Tree). tree_of q ∷ ts) same
      ∙ sym (list_front ys k q i f),
)

-- nothing is left of either
pub both_ended : (xs ys : List TypePart) (k : ℕ) → length xs ≤ k → length xs ≡ length ys → SameFrom k xs ys
both_ended xs ys k h e =
    ap (λ (ps : List TypePart). map tree_of ps) (drop_of_length-le xs h) ∙ sym (ap (λ (ps : List TypePart). map tree_of ps) (drop_of_length-le ys (omega (arith, h, e))))

-- the list that was made one tree
abbrev listed : Trees → List Tree
listed none = []
listed (also t ts) = t ∷ listed ts

listed_again : (ts : List Tree) → listed (trees ts) ≡ ts
listed_again [] = refl
listed_again (t ∷ ts) = ap (λ (us : List Tree). t ∷ us) (listed_again ts)

one_list : (ts us : List Tree) → trees ts ≡ trees us → ts ≡ us
one_list ts us e = sym (listed_again ts) ∙ ap listed e ∙ listed_again us

inside_whole : {x y : Trees} → whole x ≡ whole y → x ≡ y
inside_whole e = cc

inside_still : {x y : Trees} → still x ≡ still y → x ≡ y
inside_still e = cc

pub same_whole : {r : Bool} (p q : TypePart) (ps qs : Vec TypePart Global) → p ≡ Whole ps → q ≡ Whole qs → IsTrue r ↔ (map tree_of ps.items ≡ map tree_of qs.items) → IsTrue r ↔ (tree_of p ≡ tree_of q)
same_whole p q ps qs e f h =
    let a : tree_of p ≡ whole (trees (map tree_of ps.items)) = ap tree_of e ∙ tree-Whole ps in
    let b : tree_of q ≡ whole (trees (map tree_of qs.items)) = ap tree_of f ∙ tree-Whole qs in (
      λ t. a ∙ ap (λ (ts : List Tree). whole (trees ts)) (h.0 t) ∙ sym b,
      λ s. h.1 (one_list _ _ (inside_whole (sym a ∙ s ∙ b))),
    )

pub same_still : {r : Bool} (p q : TypePart) (ps qs : Vec TypePart Global) → p ≡ Still ps → q ≡ Still qs → IsTrue r ↔ (map tree_of ps.items ≡ map tree_of qs.items) → IsTrue r ↔ (tree_of p ≡ tree_of q)
same_still p q ps qs e f h =
    let a : tree_of p ≡ still (trees (map tree_of ps.items)) = ap tree_of e ∙ tree-Still ps in
    let b : tree_of q ≡ still (trees (map tree_of qs.items)) = ap tree_of f ∙ tree-Still qs in (
      λ t. a ∙ ap (λ (ts : List Tree). still (trees ts)) (h.0 t) ∙ sym b,
      λ s. h.1 (one_list _ _ (inside_still (sym a ∙ s ∙ b))),
    )
