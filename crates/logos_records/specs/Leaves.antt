-- The JSON objects for leaves, and for the cost of a lexer.
use Rattle.std.specs.Prelude.{ℕ, suc, List, [], ◌∷◌, ◌++◌, if◌then◌else◌, codes, option_map}
use Rattle.json.specs.Token.{Token}
use Rattle.logos_inspect.specs.declared.costs.Costs.{Costs}
use Rattle.logos_inspect.specs.declared.leaves.LeafRow.{LeafRow}
use Rattle.logos_json.specs.Members.{bool_member, maybe_text, number_member, object, text_member}

-- The names of an enum and of a variant, which is null for a skip, with the number of the leaf.
abbrev pub name_members : List ℕ → ℕ → LeafRow → List Token
name_members name number row =
    text_member (codes "enum") name ++ (number_member (codes "leaf") number ++ (maybe_text (codes "variant") (option_map (λ text. text.now) row.variant)
    ++ text_member (codes "kind") (if row.is_token then codes "token" else codes "regex")))

-- The members of a leaf other than its names.
abbrev pub shape_members : LeafRow → List Token
shape_members row =
    text_member (codes "pattern") row.pattern.now ++ (number_member (codes "priority") row.priority ++ (bool_member (codes "default") row.is_default
    ++ (maybe_text (codes "callback") (option_map (λ text. text.now) row.callback) ++ number_member (codes "line") row.line)))

abbrev pub leaf_members : List ℕ → ℕ → LeafRow → List Token
leaf_members name number row = name_members name number row ++ shape_members row

-- The objects of leaves, which are numbered from `number`.
abbrev pub leaf_objects : List ℕ → ℕ → List LeafRow → List (List Token)
leaf_objects name number [] = []
leaf_objects name number (row ∷ rows) = object (leaf_members name number row) ∷ leaf_objects name (suc number) rows

-- The members for the cost of a lexer.
abbrev pub cost_members : List ℕ → Costs → List Token
cost_members name costs =
    text_member (codes "enum") name ++ (number_member (codes "states") costs.states ++ (number_member (codes "bit_tables") costs.bit_tables
    ++ number_member (codes "jump_tables") costs.jump_tables))
