use Rattle.std.proofs.Common.{map, Ok}
use Rattle.logos_token.specs.Tokens.{none}
use Rattle.logos_enum.specs.EnumValues.{field_value}
use Rattle.logos_enum.specs.Groups.{opened_value}
use Rattle.std.proofs.lemmas.Result.{err_from_is_err_and}
use Rattle.logos_enum.specs.Enum.Holding.{in_tuple}
use Rattle.logos_enum.proofs.FieldLemmas.{tuple-fails}
use Rattle.logos_enum.proofs.fields.read_tuple.Goals as goal

pub returns-in_err-list-clause-err : goal.returns-in_err-list-clause-err
returns-in_err-list-clause-err c =
    let p = err_from_is_err_and c.from_residual.result c.from_residual.ensures.1 in
    rw (p.1, p.2) (tuple-fails _ _ _ c.in-Some.ensures.0 c.in_err-list.ensures.err)

pub returns-clause-ok : goal.returns-clause-ok
returns-clause-ok c = in_tuple (opened_value c.in-Some.opened) (Ok (map field_value c.in_ok-list.list.items, none)) c.in-Some.ensures.0 c.in_ok-list.ensures.ok
