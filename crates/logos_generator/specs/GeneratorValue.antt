-- The views of a generator in contracts, and the copies that its code has of its arguments.
use Rattle.std.specs.Prelude.{◌≡◌, ℕ, Bool, List, [], map, Option, option_map}
use Rattle.logos_type.specs.TypeTrees.{type_tree}
use Rattle.logos_pattern.specs.Leaf.{CallbackValue, callback_value, KindValue, kind_value}
use Rattle.logos_pattern.specs.declared.leaf.Leaf.{Leaf}
use Rattle.logos_graph.specs.View.{GraphValue}
use Rattle.logos_code.specs.Code.{CodeValue}
use Rattle.logos_code.specs.declared.code.CodeLeaf.{CodeLeaf}
use Rattle.logos_code.specs.declared.code.Header.{Header}

-- A generator: its arguments, and the tables of the nodes that it has made.
pub record GeneratorValue : Type 0 where
  pub given : Header
  pub graph : GraphValue
  -- The byte sets that nodes test by bits, and the jump tables of nodes, each by its number.
  pub tests : List (List Bool)
  pub jumps : List (List ℕ)

-- A generator with these arguments that has made no node yet.
abbrev pub fresh : Header → GraphValue → GeneratorValue
fresh given graph = record { given = given; graph = graph; tests = []; jumps = [] }

-- The use of the matches of a leaf: its kind, with a type as its parts, and its callback as its
-- tokens.
pub record LeafValue : Type 0 where
  pub kind : KindValue
  pub callback : Option CallbackValue

-- The kind of a graph's leaf, and the tokens of its callback.
abbrev pub leaf_value : Leaf → LeafValue
leaf_value leaf = record { kind = kind_value leaf.kind; callback = option_map callback_value leaf.callback }

-- The kind of a code's leaf, and the tokens of its callback.
abbrev pub code_leaf_value : CodeLeaf → LeafValue
code_leaf_value leaf = record { kind = kind_value leaf.kind; callback = option_map callback_value leaf.callback }

-- The shape and the name are equal, the type has the same parts, and the error callback the same
-- tokens.
pub record IsCopy (given header : Header) : Type 0 where
  pub shape : header.shape ≡ given.shape
  pub name : header.name ≡ given.name
  pub this : type_tree header.this ≡ type_tree given.this
  pub error_callback : option_map callback_value header.error_callback ≡ option_map callback_value given.error_callback

-- The code has copies of the arguments of its generator, and of the kind and the callback of each
-- leaf of the graph.
pub record KeepsGiven (given : Header) (graph : GraphValue) (code : CodeValue) : Type 0 where
  pub copy : IsCopy given code.header
  pub leaves : map code_leaf_value code.code_leaves ≡ map leaf_value graph.leaves
