use Rattle.std.proofs.Common.{refl}
use Rattle.logos_report.specs.Sets.{sizes_of}
use Rattle.logos_derive.proofs.derivation.refused.Goals as goal

pub returns : goal.returns
returns g c = record {
  sizes = sizes_of c.in_ok-known.known.clues;
  none = refl;
  sets = c.in_ok-known.ensures;
  errors = c.in_ok-diagnostics.ensures;
}
