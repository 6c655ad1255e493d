use Rattle.std.proofs.Common.{All}
use Rattle.logos_derive.specs.Diagnostics.{IsWarning}
use Rattle.logos_derive.proofs.warnings.warnings_of.Given as goal

abbrev pub invariant-loop-warning : goal.invariant-loop-warning
invariant-loop-warning l = All IsWarning l.diagnostics.items
