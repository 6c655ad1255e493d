-- Definitions that contracts cite: those of lower crates, and those of this crate that name none of
-- its types.
pub use Rattle.std.specs.Io.KnownBytes.{Appends}
pub use Rattle.logos_host.specs.Paths.{file_name}
pub use Rattle.logos_page.specs.Shown.{shown_char, shown_text}
pub use Rattle.logos_host.specs.Writers.{AppendsFront}
