-- The fields of a leaf, as values.
use Rattle.std.specs.Prelude.{ℕ, Bool, true, false, List, ◌++◌, Option, Some, None, codes, is_some, if◌then◌else◌}
use Rattle.logos_hir.specs.Tree.{Tree}
use Rattle.logos_hir.specs.Hir.{tree_of}
use Rattle.logos_pattern.specs.declared.pattern.Pattern.{Pattern}
use Rattle.logos_token.specs.declared.token.Ident.{Ident}
use Rattle.logos_lexeme.specs.declared.lexeme.Span.{Span}
use Rattle.logos_token.specs.Tokens.{TokenList, run_span}
use Rattle.logos_token.specs.Views.{stream_tokens}
use Rattle.logos_pattern.specs.declared.leaf.Leaf.{Leaf}
use Rattle.logos_pattern.specs.declared.leaf.Callback.{Callback}
use Rattle.logos_pattern.specs.declared.leaf.Callback.TheVariants.{Label, Inline}
use Rattle.logos_pattern.specs.declared.leaf.InlineCallback.{InlineCallback}
use Rattle.logos_pattern.specs.declared.leaf.VariantKind.{VariantKind}
use Rattle.logos_pattern.specs.declared.leaf.VariantKind.TheVariants.{Unit as UnitVariant, Value, Skip}
use Rattle.logos_type.specs.Parts.{Tree as TypeTree}
use Rattle.logos_type.specs.TypeTrees.{type_tree}

-- The tree of a pattern.
abbrev pub pattern_tree : Pattern → Tree
pattern_tree pattern = tree_of pattern.hir

-- The text from which a pattern was read.
abbrev pub source_of : Pattern → List ℕ
source_of pattern = pattern.source.now

-- The pattern belongs to a `token`.
abbrev pub is_token : Pattern → Bool
is_token pattern = pattern.is_literal

-- The lexer skips the matches.
abbrev pub is_skip : VariantKind → Bool
is_skip (UnitVariant name) = false
is_skip (Value name type) = false
is_skip Skip = true

-- The result of the lexer for a match: a variant without a field, a variant with a field of this
-- type, or nothing.
pub data KindValue : Type 0 where
  plain : (name : Ident) → KindValue
  holding : (name : Ident) (type : TypeTree) → KindValue
  skipped : KindValue

-- The kind of a leaf as a value.
abbrev pub kind_value : VariantKind → KindValue
kind_value (UnitVariant name) = plain name
kind_value (Value name type) = holding name (type_tree type)
kind_value Skip = skipped

-- The name of the variant of this kind. A skip has none.
abbrev pub variant_name : KindValue → Option Ident
variant_name (plain name) = Some name
variant_name (holding name type) = Some name
variant_name skipped = None

-- The span of a callback: from its first token to its last.
abbrev pub callback_span : Callback → Span
callback_span (Label tokens) = run_span (stream_tokens tokens)
callback_span (Inline inline) = inline.span

-- A callback as its tokens: those of a function's name, or a parameter and those of a body.
pub data CallbackValue : Type 0 where
  named : (tokens : TokenList) → CallbackValue
  written : (arg : Ident) (body : TokenList) (span : Span) → CallbackValue

-- A closure as its parameter and the tokens of its body.
abbrev pub inline_value : InlineCallback → CallbackValue
inline_value inline = written inline.arg (stream_tokens inline.body) inline.span

-- The callback that a value represents.
abbrev pub callback_value : Callback → CallbackValue
callback_value (Label tokens) = named (stream_tokens tokens)
callback_value (Inline inline) = inline_value inline

-- The leaf has a callback.
abbrev pub calls_back : Leaf → Bool
calls_back leaf = is_some leaf.callback

-- The printed text of a pattern.
abbrev pub pattern_text : Pattern → List ℕ
pattern_text pattern = codes "#[" ++ (if is_token pattern then codes "token" else codes "regex") ++ codes "(" ++ source_of pattern ++ codes ")]"

-- The printed text of the kind of a leaf.
abbrev pub kind_text : VariantKind → List ℕ
kind_text (UnitVariant name) = codes "::" ++ name.text.now
kind_text (Value name type) = codes "::" ++ name.text.now ++ codes "(_)"
kind_text Skip = codes "::<skip>"

-- The printed text of a leaf.
abbrev pub leaf_text : Leaf → List ℕ
leaf_text leaf = pattern_text leaf.pattern ++ codes " " ++ kind_text leaf.kind
