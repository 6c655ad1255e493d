use Rattle.std.proofs.Common.{◌∙◌, Some, sym, ap}
use Rattle.logos_type.specs.Parts.{Tree}
use Rattle.logos_type_params.proofs.GivenLemmas.{type_found, type_none}
use Rattle.logos_type_params.proofs.type_params.concrete_types.copy_given.Goals as goal

pub returns-in_default : goal.returns-in_default
returns-in_default c = sym (type_none c.args.text.now c.args.types.now.entries.items (sym c.in_default.ensures))

pub returns : goal.returns
returns c = ap (λ (tree : Tree). Some tree) c.in_ok-part.ensures.cases ∙ sym (type_found c.args.text.now c.args.types.now.entries.items c.in-Some.param.now (sym c.in-Some.ensures))
