-- The names of leaves.
use Rattle.std.specs.Prelude.{◌≡◌, ◌↔◌, ℕ, List, [], ◌++◌, Option, Some, None, option_and_then, option_map, codes, decimal, slice_get}
use Rattle.logos_pattern.specs.declared.leaf.Leaf.{Leaf}
use Rattle.logos_pattern.specs.declared.leaf.VariantKind.{VariantKind}
use Rattle.logos_pattern.specs.declared.leaf.VariantKind.TheVariants.{Skip, Unit as UnitVariant, Value}

-- The name of the variant of a leaf, unless it is a skip.
abbrev pub variant_name : VariantKind → Option (List ℕ)
variant_name (UnitVariant name) = Some name.text.now
variant_name (Value name type) = Some name.text.now
variant_name Skip = None

abbrev pub name_or_skip : Option (List ℕ) → List ℕ
name_or_skip (Some name) = name
name_or_skip None = codes "skip"

-- The name of a leaf: that of its variant, or `skip`.
abbrev pub leaf_name : Leaf → List ℕ
leaf_name leaf = name_or_skip (variant_name leaf.kind)

abbrev pub name_or_none : Option Leaf → List ℕ
name_or_none None = []
name_or_none (Some leaf) = leaf_name leaf

-- The name of the leaf with a number.
abbrev pub name_at : List Leaf → ℕ → List ℕ
name_at leaves leaf = name_or_none (slice_get leaves leaf)

-- A leaf in messages: its name and its number.
abbrev pub leaf_text : List Leaf → ℕ → List ℕ
leaf_text leaves leaf = codes "`" ++ (name_at leaves leaf ++ (codes "` (leaf " ++ (decimal leaf ++ codes ")")))

-- The variant of the leaf with a number. A skip has none.
abbrev pub variant_text : List Leaf → ℕ → Option (List ℕ)
variant_text leaves leaf = option_and_then (λ (it : Leaf). variant_name it.kind) (slice_get leaves leaf)

-- The variant of the leaf with a number, if there is such a leaf: `Some None` for a skip.
abbrev pub variant_at : List Leaf → ℕ → Option (Option (List ℕ))
variant_at leaves leaf = option_map (λ (it : Leaf). variant_name it.kind) (slice_get leaves leaf)

-- The leaves of two lexers are numbered by their variants: two leaves have equal numbers exactly if
-- they have the same variant. Numbers without a leaf count as one more leaf.
abbrev pub AreNumbered : List Leaf → List ℕ → List Leaf → List ℕ → Type 0
AreNumbered leaves names others other_names =
    (leaf other : ℕ) → (slice_get names leaf ≡ slice_get other_names other) ↔ (variant_at leaves leaf ≡ variant_at others other)
