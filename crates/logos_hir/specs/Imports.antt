-- Definitions that contracts cite: those of lower crates, and those of this crate that name none of
-- its types.
pub use Rattle.std.specs.Cmp.Lexicographic.{pointwise}
pub use Rattle.std.specs.List.{list_all}
pub use Rattle.std.specs.List.Sorted.{IsNonDecreasingBy}
pub use Rattle.std.specs.Str.{chars, is_utf8}
pub use Rattle.unicode.specs.CaseFolding.{fold_pairs}
pub use Rattle.unicode.specs.Rows.{HasExactly}
pub use Rattle.unicode.specs.Sets.{in_set}
pub use lib.Utf8.{scalar}
pub use Rattle.logos_hir.specs.Fold.{fold_ascii, fold_case}
pub use Rattle.logos_hir.specs.Sets.{AreCanonical, Set, byte_ranges, char_ranges, complement, difference, in_range, in_ranges, intersection, is_range, members, next, only_chars, symmetric_difference, union}
pub use Rattle.logos_hir.specs.inside.FoldSteps.{in_image, in_values, shift}
pub use Rattle.logos_hir.specs.inside.SetSteps.{Adds, AddsCharacters, AreRanges, HasCharacters, IsLimit, free_from, in_gap}
