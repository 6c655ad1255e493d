use Rattle.std.proofs.Common.{◌∙◌, Some, sym, ap}
use Rattle.logos_type_params.proofs.SlotLemmas.{found_at, found_none}
use Rattle.logos_type_params.proofs.given_types.GivenTypes.get.Goals as goal

pub returns-in-Some : goal.returns-in-Some
returns-in-Some c =
    sym (found_at c.args.text.now c.args.self.now.entries.items c.in-Some.at c.index.result.now (sym c.in-Some.ensures.slot) ∙ ap (λ e. Some e.1) (sym c.index.ensures))

pub returns-in-None : goal.returns-in-None
returns-in-None c = sym (found_none c.args.text.now c.args.self.now.entries.items (sym c.in-None.ensures.slot))
