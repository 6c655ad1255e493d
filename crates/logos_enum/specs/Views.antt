-- Definitions that contracts cite: those of `Imports`, and those that name types of this crate.
pub use Rattle.logos_enum.specs.Imports.{IsRestOf, Spacing, Span, TokenList, also, append, begins_with, count_of, first_span, greater, identifier, is_none, is_outer, none, punctuation, rest_of, tokens_of, tree_of}
pub use Rattle.logos_enum.specs.AttributeValues.{attribute_in, split_value}
pub use Rattle.logos_enum.specs.Attributes.{Attributes, IsFront, IsPathStep, after_attributes, after_hash, after_keyword, after_parenthesis, after_visibility, announced_in, attribute_mismatch, colon_mismatch, end_mismatch, path_mismatch, segment_mismatch, value_mismatch}
pub use Rattle.logos_enum.specs.Enum.{Body, FieldType, Holding, NoFront, Reads, colon_in, discriminant_in, end_in, error_is, field, fields, from_brace, from_comma, item, label, value_in, variant, variants, where_in}
pub use Rattle.logos_enum.specs.EnumValues.{EnumValue, enum_value, field_value, fields_value, typed_value, variant_value}
pub use Rattle.logos_enum.specs.Extents.{IsStep, after_extent, after_from, after_generics, begins_arrow, depth_after, ends, is_end}
pub use Rattle.logos_enum.specs.Generics.{Generics, OneParameter, bounds_in, closing_in, constant_in, default_in, head_in, head_of, name_in, parameters, shape, some_in, tail}
pub use Rattle.logos_enum.specs.Groups.{brace_in, bracket_in, opened_value, parenthesis_in}
pub use Rattle.logos_enum.specs.Rules.{Listed, Occurs, after_item}
pub use Rattle.logos_enum.specs.Values.{head_value, ident_slice, parameter_value}
pub use Rattle.logos_enum.specs.declared.error.ReadError.TheVariants.{Grammar, Memory}
pub use Rattle.logos_enum.specs.declared.error.ReadError.{ReadError}
