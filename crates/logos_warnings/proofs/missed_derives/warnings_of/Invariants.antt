use Rattle.std.proofs.Common.{All}
use Rattle.logos_warnings.specs.Shown.{IsPassedOver}
use Rattle.logos_warnings.proofs.missed_derives.warnings_of.Given as goal

abbrev pub invariant-loop-span : goal.invariant-loop-span
invariant-loop-span l = All IsPassedOver l.warnings.items
