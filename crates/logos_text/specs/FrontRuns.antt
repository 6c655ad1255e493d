-- The tokens of a source that the beginning of an implementation repeats, in the order of the text.
use Rattle.std.specs.Prelude.{ℕ, List, [], ◌++◌, Option, Some, None, if◌then◌else◌}
use Rattle.std.specs.Str.{bytes_eq}
use Rattle.logos_code.specs.Code.{CodeValue}
use Rattle.logos_text.specs.Fronts.{AroundValue}
use Rattle.logos_text.specs.Runs.{action_runs, noted_runs, option_runs, table_runs, this_runs}
use Rattle.logos_token.specs.declared.token.Ident.{Ident}
use Rattle.logos_token.specs.Printing.{printed}
use Rattle.logos_token.specs.Tokens.{TokenList}
use Rattle.logos_type.specs.Parts.{Tree}
use Rattle.logos_type.specs.Printed.{printed_type}
use Rattle.logos_type.specs.TypeTrees.{type_tree}

-- The tokens of a type with this printed text. They are repeated if they print as the type does.
abbrev pub typed_runs : List ℕ → TokenList → List TokenList
typed_runs text run = if bytes_eq (printed run) text then noted_runs run else []

-- The runs of a type that was read from tokens.
abbrev pub read_type_runs : Tree → Option TokenList → List TokenList
read_type_runs type None = []
read_type_runs type (Some run) = typed_runs (printed_type type) run

-- The runs of the type of errors.
abbrev pub error_type_runs : Option Tree → Option TokenList → List TokenList
error_type_runs (Some type) run = read_type_runs type run
error_type_runs None run = option_runs run

-- The runs of the head of the implementation: of the path of the library, and of the name of the
-- enum.
abbrev pub head_runs : Option TokenList → Ident → List ℕ → List TokenList
head_runs logos name this = option_runs logos ++ this_runs name this

-- The runs of the associated types of the implementation: of the types of errors and of extras.
abbrev pub types_runs : AroundValue → List TokenList
types_runs around = error_type_runs around.error_type around.error ++ option_runs around.extras

-- The runs of the path of the library, twice.
abbrev pub library_twice : Option TokenList → List TokenList
library_twice logos = option_runs logos ++ option_runs logos

-- The runs of the imports of the function that lexes, which contain the path of the library three
-- times.
abbrev pub uses_runs : Option TokenList → List TokenList
uses_runs logos = option_runs logos ++ library_twice logos

-- The runs of the text before the body of the function that lexes. Its signature contains the path
-- of the library twice.
abbrev pub opening_runs : AroundValue → Ident → List ℕ → List TokenList
opening_runs around name this = head_runs around.logos name this ++ types_runs around ++ library_twice around.logos ++ uses_runs around.logos

-- The tokens of a source that the text of a code repeats, with `around` around it.
abbrev pub text_runs : AroundValue → CodeValue → List TokenList
text_runs around code =
    opening_runs around code.header.name (printed_type (type_tree code.header.this))
    ++ action_runs code.header.name code.header.error_callback code.code_leaves

-- The tokens of a source that the front of an implementation by tables repeats.
abbrev pub front_runs : AroundValue → CodeValue → List TokenList
front_runs around code =
    opening_runs around code.header.name (printed_type (type_tree code.header.this))
    ++ (option_runs around.logos ++ table_runs code.header.name code.header.error_callback code.code_leaves)
