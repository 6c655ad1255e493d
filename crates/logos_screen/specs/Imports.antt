-- Definitions that contracts cite: those of lower crates, and those of this crate that name none of
-- its types.
pub use Rattle.logos_host.specs.Colors.{has_colors}
pub use Rattle.logos_screen.specs.Fronts.{IsCutFront, IsFront}
