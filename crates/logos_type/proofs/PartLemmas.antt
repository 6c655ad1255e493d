-- Parts that are taken one by one.
use Rattle.std.proofs.Common.{◌≡◌, ℕ, ◌<◌, List, [], ◌∷◌, ◌++◌, ◌+◌, length, get_or, drop, map, Vec, Global, sym, ap, ◌∙◌, append_assoc}
use Rattle.std.proofs.lemmas.List.{map_push, at_drop_more}
use Rattle.logos_type.specs.declared.type_expr.TypePart.{TypePart}
use Rattle.logos_type.specs.declared.type_expr.TypeToken.{TypeToken as LeafType}
use Rattle.logos_type.specs.declared.type_expr.TypePart.TheVariants.{Leaf, Still}
use Rattle.logos_type.specs.Parts.{Tree, also, sign, still, trees, sign_of, tree_of}
use Rattle.logos_type.proofs.PartTrees.{tree-Leaf, tree-Still}

-- the first of the parts that are left
pub rest_front : (items : List TypePart) (k : ℕ) (p : TypePart) → k < length items → p ≡ get_or items k p →
    trees (map tree_of (drop k items)) ≡ also (tree_of p) (trees (map tree_of (drop (k + 1) items)))
rest_front items k p h e =
    at_drop_more (λ ps. trees (map tree_of ps)) items k p h ∙ ap (λ (q : TypePart). also (tree_of q) (trees (map tree_of (drop (k + 1) items)))) (sym e)

-- the first of the trees that are left
pub list_front : (items : List TypePart) (k : ℕ) (p : TypePart) → k < length items → p ≡ get_or items k p →
    map tree_of (drop k items) ≡ tree_of p ∷ map tree_of (drop (k + 1) items)
list_front items k p h e =
    at_drop_more (λ ps. map tree_of ps) items k p h ∙ ap (λ (q : TypePart). tree_of q ∷ map tree_of (drop (k + 1) items)) (sym e)

-- one more is copied
pub copied : (items copies now : List TypePart) (k : ℕ) (p copy : TypePart) → k < length items → p ≡ get_or items k p → tree_of copy ≡ tree_of p → now ≡ copies ++ copy ∷ [] →
    map tree_of copies ++ map tree_of (drop k items) ≡ map tree_of items → map tree_of now ++ map tree_of (drop (k + 1) items) ≡ map tree_of items
copied items copies now k p copy h e same pushed is =
    ap (λ (ps : List TypePart). map tree_of ps ++ map tree_of (drop (k + 1) items)) pushed
    ∙ ap (λ (ts : List Tree). ts ++ map tree_of (drop (k + 1) items)) (map_push tree_of copies copy)
    ∙ append_assoc (map tree_of copies) (tree_of copy ∷ []) (map tree_of (drop (k + 1) items))
    ∙ ap (λ (t : Tree). map tree_of copies ++ (t ∷ map tree_of (drop (k + 1) items))) same
    ∙ ap (λ (ts : List Tree). map tree_of copies ++ ts) (sym (list_front items k p h e))
    ∙ is

-- one tree more after others
pub pushed_tree : (old now : List TypePart) (p : TypePart) → now ≡ old ++ p ∷ [] → map tree_of now ≡ map tree_of old ++ tree_of p ∷ []
pushed_tree old now p e = ap (λ (ps : List TypePart). map tree_of ps) e ∙ map_push tree_of old p

pub leaf_pushed : (old now : List TypePart) (leaf : LeafType) → now ≡ old ++ Leaf leaf ∷ [] → map tree_of now ≡ map tree_of old ++ sign (sign_of leaf) ∷ []
leaf_pushed old now leaf e = pushed_tree old now (Leaf leaf) e ∙ ap (λ (t : Tree). map tree_of old ++ t ∷ []) (tree-Leaf leaf)

pub still_pushed : (old now : List TypePart) (kept : Vec TypePart Global) (ts : List Tree) → now ≡ old ++ Still kept ∷ [] → map tree_of kept.items ≡ ts → map tree_of now ≡ map tree_of old ++ still (trees ts) ∷ []
still_pushed old now kept ts e k =
    pushed_tree old now (Still kept) e ∙ ap (λ (t : Tree). map tree_of old ++ t ∷ []) (tree-Still kept ∙ ap (λ (x : List Tree). still (trees x)) k)
