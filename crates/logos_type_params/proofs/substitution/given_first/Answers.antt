use Rattle.std.proofs.Common.{◌∙◌, sym}
use Rattle.logos_type_params.proofs.GivenLemmas.{given_found, given_none}
use Rattle.logos_type_params.proofs.substitution.given_first.Goals as goal

pub returns-in-Some : goal.returns-in-Some
returns-in-Some c = c.given_by.ensures ∙ sym (given_found c.args.text.now c.args.types.now.entries.items c.in-Some.param.now (sym c.in-Some.ensures))

pub returns-in-None : goal.returns-in-None
returns-in-None c = sym (given_none c.args.text.now c.args.types.now.entries.items (sym c.in-None.ensures))
