use Rattle.std.proofs.Common.{map, Ok}
use Rattle.logos_token.specs.Tokens.{none}
use Rattle.logos_enum.specs.EnumValues.{field_value}
use Rattle.logos_enum.specs.Groups.{opened_value}
use Rattle.std.proofs.lemmas.Result.{err_from_is_err_and}
use Rattle.logos_enum.specs.Enum.Holding.{with_names, nothing}
use Rattle.logos_enum.proofs.FieldLemmas.{names-fail}
use Rattle.logos_enum.proofs.fields.read_named.Goals as goal

pub returns-in_default-clause-ok : goal.returns-in_default-clause-ok
returns-in_default-clause-ok c = nothing c.requires c.in_default.ensures

pub returns-in_err-list-clause-err : goal.returns-in_err-list-clause-err
returns-in_err-list-clause-err c =
    let p = err_from_is_err_and c.from_residual.result c.from_residual.ensures.1 in
    rw (p.1, p.2) (names-fail _ _ _ c.requires c.in-Some.ensures.0 c.in_err-list.ensures.err)

pub returns-clause-ok : goal.returns-clause-ok
returns-clause-ok c = with_names (opened_value c.in-Some.opened) (Ok (map field_value c.in_ok-list.list.items, none)) c.requires c.in-Some.ensures.0 c.in_ok-list.ensures.ok
