use Rattle.std.proofs.Common.{sym, ap, ◌∙◌, subst}
use Rattle.logos_page.specs.Pages.{Gains}
use Rattle.logos_answers.specs.Quoting.{string_literal}
use Rattle.logos_answers.proofs.GainLemmas.{other_literal, utf8_literal}
use Rattle.logos_answers.proofs.quotes.push_literal.Goals as goal

pub returns-in-Ok : goal.returns-in-Ok
returns-in-Ok c =
    let text = c.in-Ok.ensures.cases.0 in
    let utf8 = c.in-Ok.ensures.cases.1 in
    subst (λ bytes. Gains bytes c.args.page.now c.push_string.new.page) (ap string_literal text ∙ sym (utf8_literal c.args.bytes.now utf8)) c.push_string.ensures

pub returns-in-Err : goal.returns-in-Err
returns-in-Err c = subst (λ bytes. Gains bytes c.args.page.now c.push_byte_string.new.page) (sym (other_literal c.args.bytes.now c.in-Err.ensures.cases.0)) c.push_byte_string.ensures
