use Rattle.std.proofs.Common.{ap, refl}
use Rattle.logos_page.specs.Pages.{PageValue}
use Rattle.logos_html.proofs.DescriptionLemmas.{described}
use Rattle.logos_html.proofs.descriptions.answer_of.Goals as goal

pub returns : goal.returns
returns c =
    described c.args.subject.graph.now c.args.subject.code.now c.args.subject.bytes.now _ c.args.from c.args.count c.requires refl c.new-page.result c.push_matches.new.page c.push_partials.new.page
    (ap (λ (page : PageValue). page.text) c.new-page.ensures) c.in_ok-push_matches.ensures.shows c.in_ok-push_partials.ensures.shows (c.in_ok-text.ensures.whole.0 refl) _ c.in_ok-text.ensures.text
