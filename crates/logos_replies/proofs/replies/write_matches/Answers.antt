use Rattle.std.proofs.Common.{◌∙◌, ap, refl}
use Rattle.logos_page.specs.Pages.{PageValue}
use Rattle.logos_replies.proofs.MatchLemmas.{matches_printed}
use Rattle.logos_replies.proofs.replies.write_matches.Goals as goal

pub returns-clause-printed : goal.returns-clause-printed
returns-clause-printed g c =
    matches_printed c.args.graph.now.leaves c.args.code.now c.args.point.bytes.now c.args.point.location c.in-Some.from c.in-Some.ensures c.leaves.result.now c.leaves.ensures
    c.new-page.result c.push_around.new.page c.push_location.new.page c.push_matches.new.page c.push_partials.new.page (ap (λ (page : PageValue). page.text) c.new-page.ensures)
    c.push_around.ensures c.push_location.ensures c.in_ok-push_matches.ensures.shows c.in_ok-push_partials.ensures.shows (c.in_ok-text.ensures.whole.0 refl)
    c.as_bytes.result.now (c.as_bytes.ensures.value ∙ c.as_str.ensures.value ∙ c.in_ok-text.ensures.text) _ _ c.print_bytes.result c.print_bytes.ensures.printed
