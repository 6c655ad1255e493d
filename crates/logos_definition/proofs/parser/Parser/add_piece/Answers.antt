use Rattle.std.proofs.Common.{refl}
use Rattle.logos_definition.specs.Arguments.{without_name, no_argument}
use Rattle.logos_definition.proofs.parser.Parser.add_piece.Goals as goal

pub returns-in_ok-report_invalid_nested-in-Unnamed : goal.returns-in_ok-report_invalid_nested-in-Unnamed
returns-in_ok-report_invalid_nested-in-Unnamed c = rw c.in-Unnamed.is (without_name (refl, c.in_ok-report_invalid_nested-in-Unnamed.ensures))

pub returns-in_ok-report_invalid_nested-in-Unexpected : goal.returns-in_ok-report_invalid_nested-in-Unexpected
returns-in_ok-report_invalid_nested-in-Unexpected c = rw c.in-Unexpected.is (no_argument (refl, c.in_ok-report_invalid_nested-in-Unexpected.ensures))
