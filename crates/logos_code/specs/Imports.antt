-- Definitions that contracts cite: those of lower crates, and those of this crate that name none of
-- its types.
pub use Rattle.logos_byte_class.specs.Bytes.{comparison_of, compares, is_among, some_compares}
pub use Rattle.std.specs.Coded.{codes}
pub use Rattle.std.specs.Int.{bit_at}
pub use mir.Syntax.{named}
pub use Rattle.logos_code.specs.Bytes.{passes_test}
