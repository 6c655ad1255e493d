use Rattle.std.proofs.Common.{◌≡◌, ◌∙◌, ◌++◌, Option, None, map, ap, append-nil}
use Rattle.logos_lexeme.specs.declared.lexeme.Span.{Span}
use Rattle.logos_type_params.specs.TypeParams.{named_of, given_of, former, given_faults}
use Rattle.logos_type_params.proofs.GivenLemmas.{former_none, given_put}
use Rattle.logos_type_params.proofs.ValueLemmas.{on_err_if}
use Rattle.logos_type_params.proofs.type_params.emit.Goals as goal

pub returns-in_err-insert-clause-unreported : goal.returns-in_err-insert-clause-unreported
returns-in_err-insert-clause-unreported c =
    let none : former (map given_of c.args.types.now.entries.items) c.args.name.text.now ≡ None = former_none c.args.name.text.now c.args.types.now.entries.items c.in_err-insert.ensures.absent in
    on_err_if c.from_residual-in_err-insert.result
    (c.in_ok-report_given.ensures.ok ∙ (ap (λ (s : Option Span). c.args.errors.now ++ given_faults s (named_of c.args.name)) (c.former-span.ensures ∙ none) ∙ append-nil c.args.errors.now))

pub returns-clause-types : goal.returns-clause-types
returns-clause-types c = ap (map given_of) c.in_ok-insert.ensures.ok ∙ given_put (c.args.name.text, c.args.param) c.args.types.now.entries.items
