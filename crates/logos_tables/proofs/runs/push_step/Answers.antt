use Rattle.std.proofs.Common.{◌≡◌, ◌∷◌, [], ◌++◌, ap, sym, ◌∙◌}
use Rattle.logos_tables.specs.Layout.{spread}
use Rattle.logos_tables.proofs.RunLemmas.{spread_longer}
use Rattle.logos_tables.proofs.runs.push_step.Goals as goal

pub returns-in_ok-push-in-Some : goal.returns-in_ok-push-in-Some
returns-in_ok-push-in-Some c =
    let rest = c.pop.new.self.items in
    let same : c.in-Some.last.1 ≡ c.args.step = (c.continues.ensures c.if-continues.true).0 in
    ap spread c.in_ok-push-in-Some.ensures.items
    ∙ spread_longer rest c.in-Some.last.0 c.args.step
    ∙ ap (λ x. spread (rest ++ (c.in-Some.last.0, x) ∷ []) ++ c.args.step ∷ []) (sym same)
    ∙ ap (λ runs. spread runs ++ c.args.step ∷ []) (sym c.in-Some.ensures.items)
