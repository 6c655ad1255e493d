use Rattle.std.proofs.Common.{◌∙◌, sym}
use Rattle.std.proofs.lemmas.Result.{on_ok_weaker}
use Rattle.logos_type_params.proofs.SlotLemmas.{found_none, put_at, put_last, placed_set}
use Rattle.logos_type_params.proofs.ValueLemmas.{on_err_if}
use Rattle.logos_type_params.proofs.given_types.GivenTypes.insert.Goals as goal

pub invariant_of-self : goal.invariant_of-self
invariant_of-self c = record {
  placed = placed_set (c.args.text, c.args.param) c.args.self.now.entries.items c.args.self.now.slots.entries c.in-Some.at c.args.self.now.placed (sym c.in-Some.ensures.slot);
}

pub returns-in-Some-clause-ok : goal.returns-in-Some-clause-ok
returns-in-Some-clause-ok c = put_at (c.args.text, c.args.param) c.args.self.now.entries.items c.in-Some.at (sym c.in-Some.ensures.slot)

pub returns-in-None-clause-ok : goal.returns-in-None-clause-ok
returns-in-None-clause-ok c = on_ok_weaker c.add.result (λ e. e ∙ put_last (c.args.text, c.args.param) c.args.self.now.entries.items (sym c.in-None.ensures.slot)) c.add.ensures.ok

pub returns-in-None-clause-absent : goal.returns-in-None-clause-absent
returns-in-None-clause-absent c = on_err_if c.add.result (found_none c.args.text.now c.args.self.now.entries.items (sym c.in-None.ensures.slot))
