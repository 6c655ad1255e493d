use Rattle.logos_enum.specs.Enum.NoFront.{malformed}
use Rattle.logos_enum.proofs.Once.{front-match}
use Rattle.logos_enum.proofs.item.read_front.Goals as goal

pub returns-in-Ok : goal.returns-in-Ok
returns-in-Ok c = front-match _ _ _ _ c.in-Ok.ensures.ok c.announced.ensures

pub returns-in-Err : goal.returns-in-Err
returns-in-Err c = malformed _ c.in-Err.ensures.err
