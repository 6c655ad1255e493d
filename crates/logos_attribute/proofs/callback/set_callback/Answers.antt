use Rattle.std.proofs.Common.{◌≡◌, ◌∙◌, sym, ap, refl, Err}
use Rattle.std.proofs.lemmas.Result.{on_ok_weaker}
use Rattle.logos_token.specs.Tokens.{run_span}
use Rattle.logos_token.specs.Views.{tokens_of}
use Rattle.logos_attribute.specs.Callbacks.{callback_in}
use Rattle.logos_attribute.specs.inside.CallbackRuns.{callback_fault, read_view}
use Rattle.logos_attribute.proofs.callback.set_callback.Goals as goal

pub returns-in-Err-clause-ok : goal.returns-in-Err-clause-ok
returns-in-Err-clause-ok c =
    let e : callback_in (tokens_of c.args.tokens) ≡ Err (callback_fault (run_span (tokens_of c.args.tokens)) c.in-Err.cause) =
    sym c.callback_in.ensures ∙ ap (read_view (run_span (tokens_of c.args.tokens))) c.in-Err.is in
    on_ok_weaker c.report_no_callback.result (λ f. rw e (refl, rw c.span-span.ensures at f)) c.report_no_callback.ensures.ok
