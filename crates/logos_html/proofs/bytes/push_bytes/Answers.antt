use Rattle.std.proofs.Common.{sym, ap, ◌∙◌, subst}
use Rattle.std.specs.List.{flat_map}
use Rattle.std.specs.Str.{chars}
use Rattle.logos_page.specs.Pages.{Gains}
use Rattle.logos_html.specs.Flows.{flowing_char}
use Rattle.logos_html.proofs.FlowLemmas.{others_flow, utf8_flows}
use Rattle.logos_html.proofs.bytes.push_bytes.Goals as goal

pub returns-in-Ok : goal.returns-in-Ok
returns-in-Ok c =
    let text = c.in-Ok.ensures.cases.0 in
    let utf8 = c.in-Ok.ensures.cases.1 in
    subst (λ bytes. Gains bytes c.args.html.now c.push_flowing.new.html) (ap (λ b. flat_map flowing_char (chars b)) text ∙ sym (utf8_flows c.args.bytes.now utf8)) c.push_flowing.ensures

pub returns-in-Err : goal.returns-in-Err
returns-in-Err c = subst (λ bytes. Gains bytes c.args.html.now c.push_others.new.html) (sym (others_flow c.args.bytes.now c.in-Err.ensures.cases.0)) c.push_others.ensures
