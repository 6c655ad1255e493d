-- Definitions that contracts cite: those of lower crates, and those of this crate that name none of
-- its types.
pub use Rattle.logos_automaton.specs.Munch.{failed}
pub use Rattle.logos_code.specs.Runs.{CodeFinds}
pub use Rattle.logos_page.specs.Pages.{Gains}
