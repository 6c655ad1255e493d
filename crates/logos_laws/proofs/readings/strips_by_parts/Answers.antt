use Rattle.logos_laws.proofs.readings.StripEnums.{enum_stays, enum_sound}
use Rattle.logos_laws.proofs.readings.strips_by_parts.Goals as goal

pub returns-clause-are : goal.returns-clause-are
returns-clause-are c tokens value h = enum_stays tokens value h

pub returns-clause-only : goal.returns-clause-only
returns-clause-only c tokens remaining value h = enum_sound tokens remaining value h
