use Rattle.std.proofs.Common.{refl}
use Rattle.logos_definition.specs.Arguments.{is_given, other_form}
use Rattle.logos_definition.proofs.ArgumentLemmas.{not_keyed}
use Rattle.logos_definition.proofs.parser.Parser.add_type.Goals as goal

pub returns-in_ok-set-in-KeywordAssign : goal.returns-in_ok-set-in-KeywordAssign
returns-in_ok-set-in-KeywordAssign c = rw c.in-KeywordAssign.is (is_given c.in_ok-set-in-KeywordAssign.ensures.ok refl)

pub returns-in_ok-report_type_form-in_default : goal.returns-in_ok-report_type_form-in_default
returns-in_ok-report_type_form-in_default c = other_form (not_keyed c.args.value.now c.in_default.not-KeywordAssign) (refl, c.in_ok-report_type_form-in_default.ensures)
