use Rattle.std.proofs.Common.{◌≡◌, sym, ◌∙◌, ap}
use Rattle.logos_token.specs.declared.token.printing.Outer.{Outer}
use Rattle.logos_token.specs.Tokens.{group, also, rest_of}
use Rattle.logos_token.specs.Views.{tokens_of, inside_of}
use Rattle.logos_token.specs.PrinterViews.{printed_of}
use Rattle.logos_token.specs.inside.PrintingSteps.{whole}
use Rattle.logos_token.proofs.printing.PrintingLemmas.{enter-whole, enter-left}
use Rattle.logos_token.proofs.token.printing.step.Goals as goal
use Rattle.logos_token.proofs.token.printing.step.Goals.{After-run}

is : (c : After-run) → tokens_of c.args.rest ≡ also (group c.in-Some-2.group.delimiter c.in-Some-2.group.span (inside_of c.in-Some-2.group)) (tokens_of c.rest-2.result)
is c =
    let e = rw c.in-Some-2.is at c.in_ok-group.ensures in
    c.in-Some.ensures.cases ∙ ap (λ t. also t (rest_of (tokens_of c.args.rest))) e.0 ∙ ap (also (group c.in-Some-2.group.delimiter c.in-Some-2.group.span (inside_of c.in-Some-2.group))) (sym c.rest-2.ensures)

pub returns-clause-ok : goal.returns-clause-ok
returns-clause-ok c =
    let e = rw c.in-Some-2.is at c.in_ok-group.ensures in
    let o : Outer = record { delimiter = c.in-Some-2.group.delimiter; rest = c.rest-2.result } in
    rw (e.1, c.in_ok-push.ensures.items, c.run.ensures)
    (enter-whole (printed_of c.args.printer.now) c.in-Some-2.group.span (inside_of c.in-Some-2.group) c.args.outer.now.items o ∙ ap (whole (printed_of c.args.printer.now) c.args.outer.now.items) (sym (is c)))

pub returns-clause-fewer : goal.returns-clause-fewer
returns-clause-fewer c =
    let o : Outer = record { delimiter = c.in-Some-2.group.delimiter; rest = c.rest-2.result } in
    rw (c.in_ok-push.ensures.items, c.run.ensures, is c) (enter-left c.in-Some-2.group.span (inside_of c.in-Some-2.group) c.args.outer.now.items o)
