use Rattle.std.proofs.Common.{◌∙◌, arith}
use Rattle.logos_type_params.specs.inside.Slots.{ArePlaced}
use Rattle.logos_type_params.proofs.SlotLemmas.{placed_push}
use Rattle.logos_type_params.proofs.SettledLemmas.{on_ok_is}
use Rattle.logos_type_params.proofs.given_types.GivenTypes.add.Goals as goal

pub invariant_of-self-in-Break-branch-2 : goal.invariant_of-self-in-Break-branch-2
invariant_of-self-in-Break-branch-2 c = record { placed = λ text. rw c.in_err-push.ensures.items (c.in_ok-reserve.ensures.entries.2 text ∙ c.args.self.now.placed text) }

pub invariant_of-self-2 : goal.invariant_of-self-2
invariant_of-self-2 c =
    let are : ArePlaced c.args.self.now.entries.items c.reserve.new.self.entries = λ q. c.in_ok-reserve.ensures.entries.2 q ∙ c.args.self.now.placed q in
    let put = on_ok_is c.insert.result (c.insert.ensures.succeeds c.in_ok-reserve.ensures.ok) c.insert.ensures.updates in
    record {
      placed = rw c.in_ok-push.ensures.items (placed_push (c.args.text, c.args.param) c.args.self.now.entries.items c.reserve.new.self.entries c.insert.new.self.entries c.len-at.result are c.requires (omega arith) put.0);
    }
