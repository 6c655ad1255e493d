use Rattle.std.proofs.Common.{arith}
use Rattle.logos_laws.proofs.readings.offsets_are_sums.Goals as goal

pub returns-clause-report : goal.returns-clause-report
returns-clause-report c begin offset h = omega (arith, h)

pub returns-clause-rows : goal.returns-clause-rows
returns-clause-rows c begin offset h = omega (arith, h)
