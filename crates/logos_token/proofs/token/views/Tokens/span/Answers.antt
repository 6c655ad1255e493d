use Rattle.std.proofs.Common.{ap}
use Rattle.logos_token.specs.Tokens.{span_of}
use Rattle.logos_token.specs.Views.{tree_of}
use Rattle.logos_token.proofs.reading.CountLemmas.{end_of-run_end}
use Rattle.logos_token.proofs.token.views.Tokens.span.Goals as goal

pub returns : goal.returns
returns c =
    let first = c.in-Some.ensures.cases in
    let kept = rw (c.in_default-first.ensures.cases, c.rest-rest.ensures, c.span-from.ensures) at c.loop-next.invariant in
    rw (first, end_of-run_end, c.span-from.ensures) (ap (λ to. record { from = (span_of (tree_of c.in-Some.first)).from; to = to }) kept)
