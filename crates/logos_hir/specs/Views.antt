-- Definitions that contracts cite: those of `Imports`, and those that name types of this crate.
pub use Rattle.logos_hir.specs.Imports.{Adds, AreCanonical, HasExactly, IsNonDecreasingBy, Set, byte_ranges, char_ranges, chars, complement, difference, fold_ascii, fold_case, fold_pairs, in_image, in_range, in_ranges, in_set, in_values, intersection, is_utf8, list_all, members, only_chars, pointwise, scalar, shift, symmetric_difference, union}
pub use Rattle.logos_hir.specs.Build.{all_ranges, alternation_of, branches_of, byte_ranges_of, bytes_or, char_ranges_of, chars_or, choice_of, concat_of, cut, in_a_row, is_byteless, is_most, literal_of, one_byte_of, one_char_of, parts_of, repetition_of, sole_char, sole_member, times}
pub use Rattle.logos_hir.specs.Hir.{class_tree, pairs, tree_of}
pub use Rattle.logos_hir.specs.Looks.{Holds, is_word}
pub use Rattle.logos_hir.specs.Matches.{Matches}
pub use Rattle.logos_hir.specs.Measure.{all_text, fitted, has_greedy_dot, is_all, is_dot, is_same, is_text, some_greedy_dot}
pub use Rattle.logos_hir.specs.Operands.{combination, effects_on, made_by, selection, with_operand}
pub use Rattle.logos_hir.specs.Priority.{least_value, sum_of_values, text_size, value}
pub use Rattle.logos_hir.specs.Property.{ascii_named, ascii_set, perl_set, property_named, property_normalized}
pub use Rattle.logos_hir.specs.RangeSets.{set_of}
pub use Rattle.logos_hir.specs.Simplest.{IsSimplest, all_simplest, simplest, simplest_tree}
pub use Rattle.logos_hir.specs.Tree.{Tree, capture, look, repetition, trees}
pub use Rattle.logos_hir.specs.declared.hir.Look.{Look}
pub use Rattle.logos_hir.specs.inside.BuildSteps.{IsAdded, IsFlatAlone, add_part, add_parts, add_text, are_apart, is_literal_tree, part_text}
pub use Rattle.logos_hir.specs.inside.Effects.{Makes}
pub use Rattle.logos_hir.specs.inside.Fits.{fits_of}
