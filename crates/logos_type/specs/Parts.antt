-- The parts of a type.
use Rattle.std.specs.Prelude.{ℕ, List, [], ◌∷◌, Option, Some, None}
use Rattle.logos_lexeme.specs.declared.lexeme.Delimiter.{Delimiter}
use Rattle.logos_lexeme.specs.declared.lexeme.Spacing.{Spacing}
use Rattle.logos_type.specs.declared.type_expr.TypeToken.{TypeToken}
use Rattle.logos_type.specs.declared.type_expr.TypeToken.TheVariants.{Word, Mark, Colons, Arrow, Literal, Open, Close, Reference, Lifetime, OtherLifetime, Punct, Doc}
use Rattle.logos_type.specs.declared.type_expr.TypePart.{TypePart}
use Rattle.logos_type.specs.declared.type_expr.TypePart.TheOpen.{TypePart-F}
use Rattle.logos_type.specs.declared.type_expr.TypePart.TheFolds.{fold-TypePart}

-- A token that is not itself a type.
pub data Sign : Type 0 where
  word : (text : List ℕ) → Sign
  mark : (character : ℕ) → Sign
  -- `::`
  colons : Sign
  -- `->`
  arrow : Sign
  value : (text : List ℕ) → Sign
  opening : (delimiter : Delimiter) → Sign
  closing : (delimiter : Delimiter) → Sign
  -- `&` with its lifetime, if there is one.
  reference : (lifetime : Option (List ℕ)) → Sign
  -- A lifetime among the angle arguments of a path that is a type.
  lifetime : (text : List ℕ) → Sign
  -- Any other lifetime.
  other_lifetime : (text : List ℕ) → Sign
  -- Punctuation in the length of an array or in braces.
  spaced_mark : (character : ℕ) (spacing : Spacing) → Sign
  -- A documentation comment in the length of an array or in braces.
  comment : (text : List ℕ) → Sign

mutual
  -- A part of a type: a token, a type that is exactly a name, a type of several parts, or parts
  -- that are never replaced.
  pub data Tree : Type 0 where
    sign : Sign → Tree
    name : (text : List ℕ) → Tree
    whole : Trees → Tree
    still : Trees → Tree

  pub data Trees : Type 0 where
    none : Trees
    also : Tree → Trees → Trees

-- A list of parts.
abbrev pub trees : List Tree → Trees
trees [] = none
trees (t ∷ rest) = also t (trees rest)

-- The token that a value of type `TypeToken` represents.
abbrev pub sign_of : TypeToken → Sign
sign_of (Word text) = word text.now
sign_of (Mark character) = mark character
sign_of Colons = colons
sign_of Arrow = arrow
sign_of (Literal text) = value text.now
sign_of (Open delimiter) = opening delimiter
sign_of (Close delimiter) = closing delimiter
sign_of (Reference (Some text)) = reference (Some text.now)
sign_of (Reference None) = reference None
sign_of (Lifetime text) = lifetime text.now
sign_of (OtherLifetime text) = other_lifetime text.now
sign_of (Punct character spacing) = spaced_mark character spacing
sign_of (Doc text) = comment text.now

-- The tree of a part, made from the trees of the parts inside it.
abbrev pub node_tree : TypePart-F Tree → Tree
node_tree (TypePart-F.Leaf leaf) = sign (sign_of leaf)
node_tree (TypePart-F.Name text) = name text.now
node_tree (TypePart-F.Whole parts) = whole (trees parts.items)
node_tree (TypePart-F.Still parts) = still (trees parts.items)

-- The tree that a part represents.
abbrev pub tree_of : TypePart → Tree
tree_of = fold-TypePart Tree node_tree
