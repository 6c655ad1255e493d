use Rattle.logos_enum.specs.Enum.FieldType.{fits}
use Rattle.logos_enum.proofs.FieldLemmas.{type-fails}
use Rattle.logos_enum.proofs.fields.read_typed.Goals as goal

pub returns-in-Ok-clause-ok : goal.returns-in-Ok-clause-ok
returns-in-Ok-clause-ok c = fits c.in-Ok.ensures.ok c.extent-run.ensures

pub returns-in-Err-clause-err : goal.returns-in-Err-clause-err
returns-in-Err-clause-err c = type-fails _ _ _ _ c.in-Err.ensures.err c.extent-run.ensures c.error_of.ensures
