-- Definitions that contracts cite: those of `Imports`, and those that name types of this crate.
pub use Rattle.logos_leaf.specs.subpattern.Imports.{AddsFault, IsReport, closed, encoded, is_word, name_report, part_report, parts, reference, subpattern_missing, subst_report, text_of, word_front, word_rest}
pub use Rattle.logos_leaf.specs.subpattern.SubpatternViews.{names_of}
pub use Rattle.logos_leaf.specs.subpattern.inside.Parts.{part_of, text_view}
