use Rattle.std.proofs.Common.{refl}
use Rattle.logos_definition.specs.Arguments.{with_arguments, without_type}
use Rattle.logos_definition.proofs.parser.Parser.add_error_group.Goals as goal

pub returns-in_default : goal.returns-in_default
returns-in_default c = without_type (rw c.in_default.is at c.in_ok-error.ensures) refl

pub returns : goal.returns
returns c = with_arguments (rw c.in-Some.is at c.in_ok-error.ensures) c.in_ok-set_error.ensures
