-- Definitions that contracts cite: those of lower crates, and those of this crate that name none of
-- its types.
pub use Rattle.logos_attribute.specs.LiteralViews.{literal_view}
pub use Rattle.logos_attribute.specs.Reports.{AddsFault, IsReport}
pub use Rattle.logos_definition.specs.DefinitionViews.{definition_view}
pub use Rattle.logos_definition.specs.Options.{OptionsView, no_options}
pub use Rattle.logos_definition.specs.ParserViews.{parser_view}
pub use Rattle.logos_enum.specs.AttributeValues.{attribute_value}
pub use Rattle.logos_enum.specs.EnumValues.{EnumValue, enum_value, field_value, fields_value, in_parenthesis, variant_value}
pub use Rattle.logos_enum.specs.Values.{Slice, ident_slice, parameter_value}
pub use Rattle.logos_hir.specs.Hir.{literal_tree}
pub use Rattle.logos_pattern.specs.Leaf.{KindValue, holding, is_token, kind_value, pattern_tree, plain, skipped, source_of}
pub use Rattle.logos_pattern.specs.Literals.{token_of}
pub use Rattle.logos_leaf.specs.subpattern.PatternFaults.{IsRead}
pub use Rattle.logos_leaf.specs.subpattern.SubpatternViews.{names_of}
pub use Rattle.logos_leaf.specs.subpattern.Subpatterns.{pattern_text}
pub use Rattle.logos_leaf.specs.subpattern.Substitution.{subst_report}
pub use Rattle.logos_token.specs.Faults.{Fault}
pub use Rattle.logos_token.specs.Views.{tokens_of}
pub use Rattle.logos_type.specs.Parts.{Tree}
pub use Rattle.logos_type_params.specs.SelfReference.{texts}
pub use Rattle.logos_type_params.specs.WrittenTypes.{params_with}
pub use Rattle.std.specs.Option.{option_to_list}
pub use Rattle.logos_leaf.specs.LeafViews.{leaf_view}
pub use Rattle.logos_leaf.specs.Leaves.{IsRegexLeaf, IsTokenLeaf, LeafView, bytes_of, escaped_of, greedy_dot, greedy_faults, is_string, leaf_with, options_of, priority_overflow, regex_priority, token_leaf, token_priority, tree_report}
pub use Rattle.logos_leaf.specs.Sources.{YieldsLeaves, IsSourceRead, IsWithoutSkips, ReadsAttributes, ReadsParameters, ReadsSource}
pub use Rattle.logos_leaf.specs.VariantFaults.{count_faults, error_variant, fields_text, named_fields, regex_form, token_form, variant_fields}
pub use Rattle.logos_leaf.specs.Variants.{AttributeYields, AttributesAdd, HoldsType, KindIs, RegexYields, SkipsAdd, TokenYields, VariantAdds, VariantsAdd}
pub use Rattle.logos_leaf.specs.inside.Readings.{AreMadeWith, IsFoldedLeaf, IsWholeLeaf, leaf_by}
