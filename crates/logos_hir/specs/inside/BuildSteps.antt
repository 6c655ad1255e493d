-- Definitions for the steps of the builders, which add parts from the left.
use Rattle.std.specs.Prelude.{◌≡◌, ℕ, Bool, true, false, not, ◌&&◌, List, [], ◌∷◌, ◌++◌, Option, Some, None}
use Rattle.logos_hir.specs.Tree.{Tree, literal}
use Rattle.logos_hir.specs.Build.{branches_of}

-- A part followed by bytes. If the part is a literal, the bytes are added to it.
abbrev pub part_text : Tree → List ℕ → List Tree
part_text (literal before) text = literal (before ++ text) ∷ []
part_text t text = t ∷ literal text ∷ []

-- Parts followed by bytes.
abbrev pub add_text : List Tree → List ℕ → List Tree
add_text [] text = literal text ∷ []
add_text (t ∷ []) text = part_text t text
add_text (t ∷ u ∷ rest) text = t ∷ add_text (u ∷ rest) text

-- Parts followed by another part.
abbrev pub add_part : List Tree → Tree → List Tree
add_part parts (literal text) = add_text parts text
add_part parts t = parts ++ t ∷ []

-- Parts followed by other parts.
abbrev pub add_parts : List Tree → List Tree → List Tree
add_parts parts [] = parts
add_parts parts (t ∷ more) = add_parts (add_part parts t) more

-- The tree is a literal.
abbrev pub is_literal_tree : Tree → Bool
is_literal_tree (literal text) = true
is_literal_tree t = false

-- No two literals are adjacent. The first argument is whether a literal comes before them.
abbrev pub are_apart : Bool → List Tree → Bool
are_apart before [] = true
are_apart before (t ∷ rest) = not (before && is_literal_tree t) && are_apart (is_literal_tree t) rest

-- The ranges, if there are some, were appended to the old ones. `done` is whether there are some.
abbrev pub IsAdded : Option (List (ℕ × ℕ)) → Bool → List (ℕ × ℕ) → List (ℕ × ℕ) → Type 0
IsAdded None done old new = done ≡ false
IsAdded (Some added) done old new = (done ≡ true) × (new ≡ old ++ added)

-- The only branch, if there is exactly one, is not an alternation.
abbrev pub IsFlatAlone : List Tree → Type 0
IsFlatAlone ts = (t : Tree) → ts ≡ t ∷ [] → branches_of t ≡ t ∷ []
