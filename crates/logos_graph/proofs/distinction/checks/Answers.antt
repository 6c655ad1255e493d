use Rattle.std.proofs.Common.{sym, ◌∙◌}
use Rattle.logos_graph.proofs.distinction.checks.Goals as goal

pub returns : goal.returns
returns c =
    let d = c.differ.ensures in (
      λ w e. d.0 w (c.mark_after-one.ensures ∙ e ∙ sym c.mark_after-other.ensures),
      λ w. d.1 (λ e. w (sym c.mark_after-one.ensures ∙ e ∙ c.mark_after-other.ensures)),
    )
