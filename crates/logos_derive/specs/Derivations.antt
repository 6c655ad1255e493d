-- The derivation of an enum.
use Rattle.std.specs.Prelude.{◌≡◌, ◌≢◌, ℕ, List, [], All, Some, None}
use Rattle.logos_causes.specs.Sets.{HasSets}
use Rattle.logos_codegen.specs.Source.{IsRefused}
use Rattle.logos_derive.specs.Diagnostics.{HasErrors, IsWarning, error_summaries}
use Rattle.logos_derive.specs.Implementations.{IsImplementation}
use Rattle.logos_derive.specs.declared.derivation.Derivation.{Derivation}
use Rattle.logos_tables.specs.declared.shape.Shape.{Shape}
use Rattle.logos_text.specs.declared.sink.Sink.{Sink}
use Rattle.logos_token.specs.Faults.{Fault}

-- A source is accepted. The derivation has its implementation in a shape, and all diagnostics are
-- warnings.
pub record IsAccepted (shape : Shape) (source : List ℕ) (derivation : Derivation) : Type 0 where
  pub made : Sink
  pub is : derivation.implementation ≡ Some made
  pub implements : IsImplementation shape source made
  pub warns : All IsWarning derivation.diagnostics.items

-- A source is refused for these faults. The diagnostics begin with their errors, of which there is
-- at least one; each set of ambiguous leaves of the source has one error. All others are warnings.
pub record IsRefusedWith (source : List ℕ) (faults : List Fault) (derivation : Derivation) : Type 0 where
  pub sizes : List ℕ
  pub none : derivation.implementation ≡ None
  pub refused : IsRefused source faults
  pub sets : HasSets source sizes
  pub errors : HasErrors sizes faults derivation.diagnostics.items
  pub some : error_summaries sizes faults ≢ []

-- A source is accepted with its implementation in a shape, or refused for its faults.
pub data IsDerivation (shape : Shape) (source : List ℕ) (derivation : Derivation) : Type 0 where
  accepted : IsAccepted shape source derivation → IsDerivation shape source derivation
  refused : {faults : List Fault} → IsRefusedWith source faults derivation → IsDerivation shape source derivation
