-- Definitions that contracts cite: those of lower crates.
pub use Rattle.logos_answers.specs.Counts.{code_variant, lines_from, variant_line}
pub use Rattle.logos_attribute.specs.Pieces.{Piece, pieces}
pub use Rattle.logos_code.specs.declared.code.CodeLeaf.{CodeLeaf}
pub use Rattle.logos_enum.specs.Enum.{Reads}
pub use Rattle.logos_enum.specs.EnumValues.{EnumValue}
pub use Rattle.logos_hir.specs.Build.{alternation_of, concat_of, repetition_of}
pub use Rattle.logos_hir.specs.Matches.{Matches, MatchesInOrder, SomeMatches}
pub use Rattle.logos_hir.specs.Text.{IsBytes}
pub use Rattle.logos_hir.specs.Tree.{Tree, repetition, trees}
pub use Rattle.logos_inspect.specs.Leaves.{moved}
pub use Rattle.logos_report.specs.Locations.{SourceValue, in_file}
pub use Rattle.logos_report.specs.Parts.{all_faults, refused_texts}
pub use Rattle.logos_report.specs.Reports.{InReport}
pub use Rattle.logos_report.specs.declared.file_report.Refused.{Refused}
pub use Rattle.logos_strip.specs.Stripping.{stripped}
pub use Rattle.logos_text.specs.Occurrence.{OccurInOrder}
pub use Rattle.logos_token.specs.Tokens.{TokenList}
pub use Rattle.logos_laws.specs.readings.PiecesInTurn.{ArePieces}
pub use Rattle.logos_laws.specs.readings.StrippedParts.{EnumStays}
pub use Rattle.logos_laws.specs.readings.ShortReports.{AreFew, HaveNoSets, all_lines}
pub use Rattle.logos_laws.specs.readings.VariantSums.{AreOfVariant}
