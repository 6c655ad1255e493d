use Rattle.std.proofs.Common.{inr}
use Rattle.std.proofs.lemmas.Result.{err_from_is_err_and}
use Rattle.logos_token.specs.Views.{tokens_of}
use Rattle.logos_enum.specs.declared.error.ReadError.TheVariants.{NotAnEnum}
use Rattle.logos_enum.specs.Enum.Reads.{reads, unannounced}
use Rattle.logos_enum.proofs.EnumOnce.{item-occurs, complete}
use Rattle.logos_enum.proofs.item.read_enum.Goals as goal

pub returns-in_default-clause-err : goal.returns-in_default-clause-err
returns-in_default-clause-err c = rw c.span.ensures (inr (unannounced c.in_default.ensures))

pub returns-in_default-clause-complete : goal.returns-in_default-clause-complete
returns-in_default-clause-complete c = λ value h.
    complete (tokens_of c.args.tokens) (NotAnEnum c.span.result) (rw c.span.ensures (inr (unannounced c.in_default.ensures))) value h

pub returns-in_err-item-clause-err : goal.returns-in_err-item-clause-err
returns-in_err-item-clause-err c =
    let p = err_from_is_err_and c.from_residual.result c.from_residual.ensures.1 in
    rw (p.1, p.2) (item-occurs _ _ _ _ c.in-Some.ensures c.in_err-item.ensures.err)

pub returns-in_err-item-clause-complete : goal.returns-in_err-item-clause-complete
returns-in_err-item-clause-complete c = λ value h.
    let p = err_from_is_err_and c.from_residual.result c.from_residual.ensures.1 in
    rw (p.1, p.2) (complete _ _ (item-occurs _ _ _ _ c.in-Some.ensures c.in_err-item.ensures.err) value h)

pub returns-clause-ok : goal.returns-clause-ok
returns-clause-ok c = reads c.in-Some.ensures c.in_ok-item.ensures.ok
