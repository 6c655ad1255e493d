use Rattle.std.proofs.Common.{sym, ap, ◌∙◌, subst}
use Rattle.logos_json.specs.Lines.{Gains}
use Rattle.logos_json.specs.Members.{text_member}
use Rattle.logos_json.proofs.LineLemmas.{other_member, utf8_member}
use Rattle.logos_json.proofs.lines.JsonLines.push_bytes.Goals as goal

pub returns-in-Ok : goal.returns-in-Ok
returns-in-Ok c =
    let text = c.in-Ok.ensures.cases.0 in
    let utf8 = c.in-Ok.ensures.cases.1 in
    subst (λ tokens. Gains tokens c.args.self.now c.push_text.new.self) (ap (text_member c.args.name.now) text ∙ sym (utf8_member c.args.name.now c.args.bytes.now utf8)) c.push_text.ensures

pub returns-in-Err : goal.returns-in-Err
returns-in-Err c = subst (λ tokens. Gains tokens c.args.self.now c.push_list.new.self) (sym (other_member c.args.name.now c.args.bytes.now c.in-Err.ensures.cases.0)) c.push_list.ensures
