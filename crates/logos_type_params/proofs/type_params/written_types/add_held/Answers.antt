use Rattle.std.proofs.Common.{map}
use Rattle.logos_type_params.specs.Substitution.{param_value}
use Rattle.logos_type_params.specs.SelfReference.{texts}
use Rattle.logos_type_params.proofs.SettledLemmas.{needs_held, needs_free}
use Rattle.logos_type_params.proofs.type_params.written_types.add_held.Goals as goal

pub returns-in_ok-insert : goal.returns-in_ok-insert
returns-in_ok-insert c =
    needs_held (map param_value c.args.chains.now.types.now.entries.items) c.args.chains.now.held.items c.args.text c.lead_back.result c.args.held.now.keys c.insert.new.self.keys c.if-lead_back.true c.lead_back.ensures c.in_ok-insert.ensures.updates.0

pub returns-else-lead_back : goal.returns-else-lead_back
returns-else-lead_back c =
    needs_free (map param_value c.args.chains.now.types.now.entries.items) c.args.chains.now.held.items c.args.text.now c.lead_back.result (texts c.args.held.now.keys) c.if-lead_back.false c.lead_back.ensures
