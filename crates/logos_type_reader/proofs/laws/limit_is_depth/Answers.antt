use Rattle.logos_type_reader.proofs.DepthReading.{type_within, type_enough, passes}
use Rattle.logos_type_reader.proofs.laws.limit_is_depth.Goals as goal

pub returns-clause-within : goal.returns-clause-within
returns-clause-within c levels plus run rest tree h = type_within h

pub returns-clause-enough : goal.returns-clause-enough
returns-clause-enough c levels others plus run rest tree h d = type_enough h d

pub returns-clause-passed : goal.returns-clause-passed
returns-clause-passed c levels others plus run rest tree h d = passes h d
