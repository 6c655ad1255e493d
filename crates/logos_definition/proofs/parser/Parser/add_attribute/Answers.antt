use Rattle.std.proofs.Common.{◌∙◌, sym}
use Rattle.std.proofs.lemmas.Result.{on_ok_weaker}
use Rattle.logos_definition.specs.Attributes.{a_logos}
use Rattle.logos_definition.proofs.parser.Parser.add_attribute.Goals as goal

pub returns-in-Some : goal.returns-in-Some
returns-in-Some c = on_ok_weaker c.add_meta.result (a_logos c.in-Some.ensures (sym c.eq.ensures ∙ c.if-eq.true)) c.add_meta.ensures
