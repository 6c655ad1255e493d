use Rattle.std.proofs.Common.{sym, ◌∙◌, ap}
use Rattle.std.proofs.lemmas.List.{take_rest}
use Rattle.logos_token.specs.Flat.{tokens_in}
use Rattle.logos_token.specs.Tokens.{rest_of}
use Rattle.logos_token.proofs.reading.RunLemmas.{BeginsRun, begins-run}
use Rattle.logos_token.proofs.token.views.Tokens.rest.Goals as goal
use Rattle.logos_token.proofs.token.views.Tokens.rest.Goals.{After-size}

begins : (c : After-size) → BeginsRun c.in-Some.entry.now c.in-Some.after.now
begins c = begins-run _ _ (rw c.in-Some.ensures.cases.0 at c.args.self.nested)

pub invariant_of-result : goal.invariant_of-result
invariant_of-result c =
    let d : After-size = (goal.at.invariant_of-result c).After-size in
    record { nested = rw (d.size.ensures, take_rest) (begins d).afterward }

pub returns : goal.returns
returns c =
    let d : After-size = (goal.at.returns c).After-size in
    rw (d.size.ensures, take_rest) ((begins d).rest ∙ ap rest_of (ap tokens_in (sym d.in-Some.ensures.cases.0)))
