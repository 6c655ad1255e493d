use Rattle.std.proofs.Common.{◌∙◌}
use Rattle.logos_type_params.proofs.SlotLemmas.{within_by}
use Rattle.logos_type_params.proofs.given_types.GivenTypes.slot_of.Goals as goal

pub returns-clause-within : goal.returns-clause-within
returns-clause-within c = within_by c.args.text.now c.args.self.now.entries.items c.copied.result (c.copied.ensures ∙ c.get.ensures.value ∙ c.args.self.now.placed c.args.text)
