use Rattle.std.proofs.Common.{rules}
use Rattle.logos_html.specs.Finds.{emits}
use Rattle.logos_html.proofs.FindLemmas.{begins_by}
use Rattle.logos_html.proofs.finds.first_items.Goals as goal

pub returns-in_ok-next_items-in-Ok-clause-items : goal.returns-in_ok-next_items-in-Ok-clause-items
returns-in_ok-next_items-in-Ok-clause-items c =
    search (rules, begins_by _ _ emits _ (λ leaf slice answer w. search (rules, w)) _ _ _ c.in_ok-next_items-in-Ok.ensures)
