-- Definitions that contracts cite: those of `Imports`, and those that name types of this crate.
pub use Rattle.logos_codegen.specs.Fronts.{around_made}
pub use Rattle.logos_derive.specs.Imports.{All, fault_of, faults_of, next_value, sizes_of}
pub use Rattle.logos_derive.specs.Derivations.{IsDerivation}
pub use Rattle.logos_derive.specs.Diagnostics.{HasErrors, IsWarning, errors_at, error_summaries, has_error, summary_of, error_summary}
pub use Rattle.logos_derive.specs.inside.Steps.{IsAcceptedBy, IsRefusedFor}
