use Rattle.std.proofs.Common.{refl}
use Rattle.logos_derive.proofs.derivation.accepted.Goals as goal

pub returns : goal.returns
returns c = record {
  made = c.in_ok-implementation.implementation;
  is = refl;
  implements = record { shown = c.in_ok-implementation.ensures.shown; pieces = c.in_ok-implementation.ensures.pieces };
  warns = c.in_ok-diagnostics.ensures;
}
