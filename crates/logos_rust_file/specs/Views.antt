-- Definitions that contracts cite: those of `Imports`, and those that name types of this crate.
pub use Rattle.logos_rust_file.specs.Imports.{EndsReading, Fault, Refuses, Spells, Token, also, count_of, stream_tokens, tokens_of, tree_of}
pub use Rattle.logos_rust_file.specs.Files.{AreEnumsOf, Describes, Finds}
pub use Rattle.logos_rust_file.specs.Fronts.{after_attributes, after_body, after_hash, after_head, braced_in, ends_body, kind_at, kind_of, kind_value, module_in, name_at, name_of}
pub use Rattle.logos_rust_file.specs.Replacing.{AreInOrder, IsFoundCut, found_span, part_span, replaced}
pub use Rattle.logos_rust_file.specs.inside.Finding.{AddsItem, AddsRun}
pub use Rattle.logos_rust_file.specs.Paths.{EndsWithPath, IsNameAt, IsPathOf}
