-- Types that name declared parameters.
use Rattle.std.specs.Prelude.{ℕ, List}
use Rattle.logos_lexeme.specs.declared.lexeme.Span.{Span}
use Rattle.logos_token.specs.Faults.{Fault}
use Rattle.logos_type.specs.Parts.{Tree}
use Rattle.logos_type_params.specs.declared.type_params.TypeParams.{TypeParams}
use Rattle.logos_type_params.specs.WrittenTypes.{types_of, params_with, AreHeld, GetsType}

-- A written type has its declared parameters replaced, except for parameters whose types contain
-- them.
pub record GetsUnheld (params : TypeParams) (written : Tree) (at : Span) (old new : List Fault) (got : Tree) : Type 0 where
  pub held : List (List ℕ)
  pub are_held : AreHeld (types_of params) held
  pub gets : GetsType (params_with params held) written at old new got
