-- The steps of a derivation.
use Rattle.std.specs.Prelude.{◌≡◌, ℕ, List, All, Some, None}
use Rattle.logos_causes.specs.Sets.{HasSets}
use Rattle.logos_code.specs.Code.{CodeValue}
use Rattle.logos_derive.specs.Diagnostics.{HasErrors, IsWarning}
use Rattle.logos_derive.specs.Implementations.{IsMadeOf}
use Rattle.logos_derive.specs.declared.derivation.Derivation.{Derivation}
use Rattle.logos_tables.specs.declared.shape.Shape.{Shape}
use Rattle.logos_text.specs.Fronts.{AroundValue}
use Rattle.logos_text.specs.declared.sink.Sink.{Sink}
use Rattle.logos_token.specs.Faults.{Fault}

-- The derivation of an accepted source: the text of this code, with these texts around its
-- function, and warnings.
pub record IsAcceptedBy (shape : Shape) (around : AroundValue) (code : CodeValue) (derivation : Derivation) : Type 0 where
  pub made : Sink
  pub is : derivation.implementation ≡ Some made
  pub implements : IsMadeOf shape around code made
  pub warns : All IsWarning derivation.diagnostics.items

-- The derivation of a source that is refused for these faults.
pub record IsRefusedFor (source : List ℕ) (faults : List Fault) (derivation : Derivation) : Type 0 where
  pub sizes : List ℕ
  pub none : derivation.implementation ≡ None
  pub sets : HasSets source sizes
  pub errors : HasErrors sizes faults derivation.diagnostics.items
