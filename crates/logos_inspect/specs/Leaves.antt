-- The row of a leaf in a table.
use Rattle.std.specs.Prelude.{◌≡◌, ◌+◌, ◌-◌, ◌*◌, ◌^◌, ◌↔◌, min, ℕ, IsTrue, if◌then◌else◌, List, length, slice_range, Option, Some, None, option_map, option_copied}
use Rattle.logos_lexeme.specs.declared.lexeme.Span.{Span}
use Rattle.logos_lines.specs.Locations.{location_at}
use Rattle.logos_hir.specs.Measure.{fitted}
use Rattle.logos_hir.specs.Priority.{value}
use Rattle.logos_pattern.specs.Leaf.{pattern_tree, source_of, is_token, callback_span}
use Rattle.logos_pattern.specs.declared.leaf.Callback.{Callback}
use Rattle.logos_pattern.specs.declared.leaf.Leaf.{Leaf}
use Rattle.logos_pattern.specs.declared.leaf.VariantKind.{VariantKind}
use Rattle.logos_pattern.specs.declared.leaf.VariantKind.TheVariants.{Unit as UnitVariant, Value, Skip}
use Rattle.logos_pattern.specs.declared.pattern.Pattern.{Pattern}
use Rattle.logos_inspect.specs.declared.leaves.LeafRow.{LeafRow}
use Rattle.logos_token.specs.Held.{Held, of_text, of_bytes, held}
use Rattle.logos_token.specs.Spans.{IsSpanOf}

-- The name of the variant of a leaf; a skip has none.
abbrev pub variant_name : VariantKind → Option (List ℕ)
variant_name (UnitVariant name) = Some name.text.now
variant_name (Value name type) = Some name.text.now
variant_name Skip = None

-- The default priority of a token of this literal: twice the number of bytes that it denotes.
abbrev pub held_priority : Held → ℕ
held_priority (of_text value) = 2 * length value
held_priority (of_bytes value) = 2 * length value

-- The default priority of a leaf with this pattern: for a `token` that of its literal, otherwise
-- the value of its tree, if that fits.
abbrev pub default_priority : Pattern → Option ℕ
default_priority pattern = if is_token pattern then option_map held_priority (held (source_of pattern)) else fitted (value (pattern_tree pattern))

-- `shown` is the text at a span, if that is a span of the text.
abbrev pub IsTextAt : List ℕ → Span → List ℕ → Type 0
IsTextAt text span shown = IsSpanOf text span → shown ≡ slice_range text span.from span.to

-- `shown` is the callback of a leaf as it is written, if it has one.
abbrev pub ShowsCallback : List ℕ → Option Callback → Option (List ℕ) → Type 0
ShowsCallback text None shown = shown ≡ None
ShowsCallback text (Some callback) None = ⊥
ShowsCallback text (Some callback) (Some shown) = IsTextAt text (callback_span callback) shown

-- The sum of an offset and the one to which it is relative, saturating at the greatest `usize`.
abbrev pub moved : (offset from : ℕ) → ℕ
moved offset from = min (offset + from) (2 ^ 64 - 1)

-- The row of a leaf of an enum, whose text begins at this offset of a file. The spans of the leaf
-- are relative to that offset.
pub record IsRowOf (file : List ℕ) (offset : ℕ) (text : List ℕ) (leaf : Leaf) (row : LeafRow) : Type 0 where
  pub variant : option_copied row.variant ≡ variant_name leaf.kind
  pub token : row.is_token ≡ is_token leaf.pattern
  pub pattern : row.pattern.now ≡ source_of leaf.pattern
  pub options : row.options ≡ leaf.options
  pub priority : row.priority ≡ leaf.priority
  pub default : IsTrue row.is_default ↔ (default_priority leaf.pattern ≡ Some leaf.priority)
  pub callback : ShowsCallback text leaf.callback (option_copied row.callback)
  pub line : row.line ≡ (location_at file (moved offset leaf.span.from)).line
