use Rattle.std.proofs.Common.{◌∙◌, sym}
use Rattle.std.proofs.lemmas.Result.{IfOk-weaker}
use Rattle.logos_definition.specs.Arguments.{on_error, on_type, on_other}
use Rattle.logos_definition.proofs.parser.Parser.add_named.Goals as goal

pub returns-then-eq : goal.returns-then-eq
returns-then-eq c = IfOk-weaker c.add_error.result _ _ (λ continues reads_as. on_error (sym c.eq.ensures ∙ c.if-eq.true) reads_as) c.add_error.ensures

pub returns-then-eq-2 : goal.returns-then-eq-2
returns-then-eq-2 c = on_type (sym c.eq.ensures ∙ c.if-eq.false) (sym c.eq-2.ensures ∙ c.if-eq-2.true) c.in_ok-add_type.ensures

pub returns : goal.returns
returns c = on_other (sym c.eq.ensures ∙ c.if-eq.false) (sym c.eq-2.ensures ∙ c.if-eq-2.false) c.in_ok-add_plain.ensures
