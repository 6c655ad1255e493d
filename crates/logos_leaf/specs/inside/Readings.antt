-- The steps of making leaves.
use Rattle.std.specs.Prelude.{ℕ, true, false, List, [], Option, option_map, chars}
use Rattle.logos_token.specs.Faults.{Fault}
use Rattle.logos_pattern.specs.Leaf.{KindValue, pattern_tree}
use Rattle.logos_pattern.specs.declared.pattern.Pattern.{Pattern}
use Rattle.logos_attribute.specs.Reports.{IsReport}
use Rattle.logos_definition.specs.Definitions.{DefinitionView}
use Rattle.logos_leaf.specs.subpattern.PatternFaults.{Reading, Reads}
use Rattle.logos_type_params.specs.Substitution.{Params}
use Rattle.logos_enum.specs.EnumValues.{VariantValue}
use Rattle.logos_leaf.specs.subpattern.Substitution.{Stored}
use Rattle.logos_leaf.specs.Variants.{SkipsAdd, VariantsAdd}
use Rattle.logos_leaf.specs.Leaves.{LeafView, leaf_with, is_string, escaped_of, folded_report, reading_report}

-- This is the leaf of a `token` whose letters match in either case, if it has one.
pub record IsFoldedLeaf (d : DefinitionView) (kind : KindValue) (leaf : Option LeafView) (old new : List Fault) : Type 0 where
  pub reading : Reading
  pub reads : Reads (is_string d.literal.held) true (chars (escaped_of d.literal.held)) reading
  pub reports : IsReport (folded_report d kind reading) leaf old new

-- The leaf of a pattern with a priority, if there is one.
abbrev pub leaf_by : DefinitionView → KindValue → Option (Pattern × ℕ) → Option LeafView
leaf_by d kind = option_map (λ p. leaf_with false d kind (pattern_tree p.0) p.1)

-- This is the leaf of a pattern with this text, if it has one. The subpatterns have already been
-- substituted in the text.
pub record IsWholeLeaf (d : DefinitionView) (kind : KindValue) (text : List ℕ) (leaf : Option LeafView) (old new : List Fault) : Type 0 where
  pub reading : Reading
  pub reads : Reads (is_string d.literal.held) d.ignore_case (chars text) reading
  pub reports : IsReport (reading_report d kind reading) leaf old new

-- These are the leaves of these skips and variants, with these parameters and subpatterns.
pub record AreMadeWith (params : Params) (names : List Stored) (skips : List DefinitionView) (variants : List VariantValue) (leaves : List LeafView) (old new : List Fault) : Type 0 where
  pub of_skips : List LeafView
  pub faults : List Fault
  pub skips_add : SkipsAdd names skips [] of_skips old faults
  pub variants_add : VariantsAdd params names variants of_skips leaves faults new
