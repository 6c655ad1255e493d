-- The faults of a source.
use Rattle.std.specs.Prelude.{ℕ, List, Option}
use Rattle.logos_lexeme.specs.declared.lexeme.Span.{Span}
use Rattle.logos_token.specs.declared.error.fault_code.FaultCode.{FaultCode}
use Rattle.logos_token.specs.declared.error.detail.Detail.{Detail}

-- A fault: its code, its text, its span, a second span if there is one, and its detail.
pub record Fault : Type 0 where
  pub code : FaultCode
  pub message : List ℕ
  pub span : Span
  -- A second span that the fault is about.
  pub also : Option Span
  -- The detail of the fault.
  pub detail : Detail
