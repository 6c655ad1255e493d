use Rattle.std.proofs.Common.{map, refl, true, false}
use Rattle.logos_type_params.specs.Substitution.{param_value}
use Rattle.logos_type_params.specs.TypeParams.{named_of}
use Rattle.logos_type_params.proofs.SettledLemmas.{among, checked_again, checked_free, checked_held, on_ok_one}
use Rattle.logos_type_params.proofs.type_params.check_name.Goals as goal

pub returns-then-not-branch : goal.returns-then-not-branch
returns-then-not-branch c =
    let i = c.in_ok-insert.ensures in
    checked_again c.args.name.text (named_of c.args.name) refl c.args.front.now.keys c.insert.new.self.keys i.updates.0 (map param_value c.args.chains.now.types.now.entries.items) c.args.chains.now.held.items c.args.errors.now c.args.errors.now
    (among c.args.name.text c.args.front.now.keys c.in_ok-insert.field-0 false i.added c.if-not-branch.true) refl

pub returns-then-not-lead_back : goal.returns-then-not-lead_back
returns-then-not-lead_back c =
    checked_free c.args.name.text (named_of c.args.name) refl c.args.front.now.keys c.insert.new.self.keys c.in_ok-insert.ensures.updates.0 (map param_value c.args.chains.now.types.now.entries.items) c.args.chains.now.held.items c.args.errors.now c.args.errors.now
    c.lead_back.result c.if-not-lead_back.true c.lead_back.ensures refl

pub returns : goal.returns
returns c =
    let i = c.in_ok-insert.ensures in
    on_ok_one c.report_about.result
    (checked_held c.args.name.text (named_of c.args.name) refl c.args.front.now.keys c.insert.new.self.keys i.updates.0 (map param_value c.args.chains.now.types.now.entries.items) c.args.chains.now.held.items c.args.errors.now c.report_about.new.errors
    (among c.args.name.text c.args.front.now.keys c.in_ok-insert.field-0 true i.added c.if-not-branch.false) c.lead_back.result c.if-not-lead_back.false c.lead_back.ensures)
    c.report_about.ensures.ok
