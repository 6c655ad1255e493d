-- The tokens of a source that a text repeats: runs of them, in the order of the text.
use Rattle.std.specs.Prelude.{◌==◌, ◌||◌, Bool, true, false, ℕ, List, [], ◌∷◌, ◌++◌, Option, Some, None, if◌then◌else◌, is_some, option_map}
use Rattle.std.specs.List.{flat_map, starts_with}
use Rattle.logos_code.specs.declared.code.CodeLeaf.{CodeLeaf}
use Rattle.logos_pattern.specs.Leaf.{CallbackValue, named, written, callback_value, KindValue, plain, holding, skipped, kind_value}
use Rattle.logos_pattern.specs.declared.leaf.Callback.{Callback}
use Rattle.logos_token.specs.declared.token.Ident.{Ident}
use Rattle.logos_token.specs.Tokens.{TokenList, identifier, none, also}

-- The run of a name.
abbrev pub name_run : Ident → TokenList
name_run name = also (identifier name.text.now name.span) none

-- The run of a name, as a list.
abbrev pub name_runs : Ident → List TokenList
name_runs name = name_run name ∷ []

-- A run, unless it is empty.
abbrev pub noted_runs : TokenList → List TokenList
noted_runs none = []
noted_runs (also token rest) = also token rest ∷ []

-- A run, if there is one and it is not empty.
abbrev pub option_runs : Option TokenList → List TokenList
option_runs None = []
option_runs (Some run) = noted_runs run

-- The parameter and the body of a closure.
abbrev pub inline_runs : Ident → TokenList → List TokenList
inline_runs arg body = name_run arg ∷ noted_runs body

-- A callback: the name of a function, or a closure.
abbrev pub callback_runs : CallbackValue → List TokenList
callback_runs (named tokens) = noted_runs tokens
callback_runs (written arg body span) = inline_runs arg body

-- The runs of a callback, if there is one.
abbrev pub called_runs : Option CallbackValue → List TokenList
called_runs None = []
called_runs (Some callback) = callback_runs callback

-- The runs of the name of an enum and of the name of one of its variants.
abbrev pub variant_runs : Ident → Ident → List TokenList
variant_runs name variant = name_run name ∷ name_run variant ∷ []

-- The runs that name the variant of a leaf of this kind.
abbrev pub kind_runs : Ident → KindValue → List TokenList
kind_runs name (plain variant) = variant_runs name variant
kind_runs name (holding variant type) = variant_runs name variant
kind_runs name skipped = []

-- The callback of a leaf, if it has one, and its variant.
abbrev pub leaf_runs : Ident → CodeLeaf → List TokenList
leaf_runs name leaf = called_runs (option_map callback_value leaf.callback) ++ kind_runs name (kind_value leaf.kind)

-- The variant of this kind has a value.
abbrev pub is_value : KindValue → Bool
is_value (plain variant) = false
is_value (holding variant type) = true
is_value skipped = false

-- A leaf has a callback or a value.
abbrev pub is_called : CodeLeaf → Bool
is_called leaf = is_some leaf.callback || is_value (kind_value leaf.kind)

-- The runs of a leaf, if it has a callback or a value.
abbrev pub called_leaf_runs : Ident → CodeLeaf → List TokenList
called_leaf_runs name leaf = if is_called leaf then leaf_runs name leaf else []

-- The runs that name the variant of a leaf, if it has no callback and no value.
abbrev pub plain_leaf_runs : Ident → CodeLeaf → List TokenList
plain_leaf_runs name leaf = if is_called leaf then [] else kind_runs name (kind_value leaf.kind)

-- The runs that the functions for errors and matches of a text of code repeat.
abbrev pub action_runs : Ident → Option Callback → List CodeLeaf → List TokenList
action_runs name callback leaves = called_runs (option_map callback_value callback) ++ flat_map (leaf_runs name) leaves

-- The runs that the functions for errors, matches and tokens of a text of tables repeat.
abbrev pub table_runs : Ident → Option Callback → List CodeLeaf → List TokenList
table_runs name callback leaves =
    called_runs (option_map callback_value callback) ++ (flat_map (called_leaf_runs name) leaves ++ flat_map (plain_leaf_runs name) leaves)

-- The name of an enum at the beginning of its type.
abbrev pub this_runs : Ident → List ℕ → List TokenList
this_runs name this = if starts_with (λ one other. one == other) this name.text.now then name_runs name else []
