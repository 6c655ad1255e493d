use Rattle.std.proofs.Common.{◌≡◌}
use Rattle.logos_token.specs.Tokens.{TokenList}
use Rattle.logos_type_reader.specs.Table.{Fault, mismatch, unsupported, too_deep}
use Rattle.logos_type_reader.specs.FaultStages.{Front, OccursAt, fault_at}
use Rattle.logos_type_reader.proofs.ReadingLaws.{refused_type}
use Rattle.logos_type_reader.proofs.WrittenReads.{type_occurs}
use Rattle.logos_type_reader.proofs.FaultStages.{placed}
use Rattle.logos_type_reader.proofs.laws.fault_stage.Goals as goal

-- a fault with a spot is none of depth
not_deep : (fault : Fault) (front : Front) (left other : TokenList) → OccursAt fault front left → fault_at fault other ≡ too_deep → ⊥
not_deep (mismatch span) front left other s e = cc
not_deep (unsupported span) front left other s e = cc
not_deep too_deep front left other s e = s

pub returns-clause-stage : goal.returns-clause-stage
returns-clause-stage c levels plus run fault h = placed levels plus run fault h

pub returns-clause-no_type : goal.returns-clause-no_type
returns-clause-no_type c levels plus run fault stage other left rest tree ending at same w f =
    not_deep fault stage.front stage.left left stage.occurs (refused_type (stage.decides other left at same) (type_occurs w f)).0
