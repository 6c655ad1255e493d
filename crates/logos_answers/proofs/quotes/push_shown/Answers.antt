use Rattle.std.proofs.Common.{sym, ap, ◌∙◌, subst}
use Rattle.std.specs.List.{flat_map}
use Rattle.std.specs.Str.{chars}
use Rattle.logos_page.specs.Pages.{Gains}
use Rattle.logos_answers.specs.Quoting.{shown_character}
use Rattle.logos_answers.proofs.GainLemmas.{other_shown, utf8_shown}
use Rattle.logos_answers.proofs.quotes.push_shown.Goals as goal

pub returns-in-Ok : goal.returns-in-Ok
returns-in-Ok c =
    let text = c.in-Ok.ensures.cases.0 in
    let utf8 = c.in-Ok.ensures.cases.1 in
    subst (λ bytes. Gains bytes c.args.page.now c.push_text.new.page) (ap (λ b. flat_map shown_character (chars b)) text ∙ sym (utf8_shown c.args.bytes.now utf8)) c.push_text.ensures

pub returns-in-Err : goal.returns-in-Err
returns-in-Err c = subst (λ bytes. Gains bytes c.args.page.now c.push_bytes.new.page) (sym (other_shown c.args.bytes.now c.in-Err.ensures.cases.0)) c.push_bytes.ensures
