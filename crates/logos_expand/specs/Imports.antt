-- Definitions that contracts cite: those of lower crates, and those of this crate that name none of
-- its types.
pub use Rattle.logos_causes.specs.Sets.{HasSets}
pub use Rattle.logos_codegen.specs.Fronts.{around_made}
pub use Rattle.logos_codegen.specs.Source.{IsRefused}
pub use Rattle.logos_host.specs.Paths.{file_name}
pub use Rattle.logos_file_warnings.specs.Added.{AddsMoved, reports_missing}
pub use Rattle.logos_layout.specs.Inner.{IsPlainly, IsWithoutInner}
pub use Rattle.logos_layout.specs.Layout.{IsLaidOut}
pub use Rattle.logos_page.specs.Pages.{OccurInOrder}
pub use Rattle.logos_report.specs.Sets.{sizes_of}
pub use Rattle.logos_rust_file.specs.Files.{AreEnumsOf}
pub use Rattle.logos_rust_file.specs.Handed.{Refuses}
pub use Rattle.logos_rust_file.specs.Replacing.{AreInOrder, IsFoundCut, found_span, part_span}
pub use Rattle.logos_strip.specs.Results.{SpellsEnum}
pub use Rattle.logos_token.specs.Spelling.{Spells}
pub use Rattle.logos_token.specs.Views.{tokens_of}
