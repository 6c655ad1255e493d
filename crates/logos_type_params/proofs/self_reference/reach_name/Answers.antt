use Rattle.std.proofs.Common.{map, sym}
use Rattle.logos_type_params.specs.Substitution.{param_value}
use Rattle.logos_type_params.proofs.ChainLemmas.{reaches_untyped, reaches_slot}
use Rattle.logos_type_params.proofs.SlotLemmas.{placed, unplaced}
use Rattle.logos_type_params.proofs.self_reference.reach_name.Goals as goal

pub returns-in_default : goal.returns-in_default
returns-in_default c =
    reaches_untyped (map param_value c.args.types.now.entries.items) c.args.text.now c.args.reached.now.items (unplaced c.args.text.now c.args.types.now.entries.items (sym c.in_default.ensures.slot))

pub returns : goal.returns
returns c =
    reaches_slot (map param_value c.args.types.now.entries.items) c.args.text.now c.in-Some.at c.args.reached.now.items c.push.new.self.items
    (placed c.args.text.now c.args.types.now.entries.items c.in-Some.at (sym c.in-Some.ensures.slot)) c.in_ok-push.ensures.items
