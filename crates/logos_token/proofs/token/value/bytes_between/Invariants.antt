use Rattle.std.proofs.Common.{◌-◌}
use Rattle.logos_token.specs.inside.ValueReads.{IsRest}
use Rattle.logos_lexeme.specs.declared.lexeme.openings.Content.TheVariants.{Bytes}
use Rattle.logos_token.proofs.token.value.bytes_between.Given as goal

abbrev pub invariant-loop-at : goal.invariant-loop-at
invariant-loop-at l = IsRest l.escapes Bytes l.source l.from l.at l.to l.value.items

abbrev pub decreases-loop-at : goal.decreases-loop-at
decreases-loop-at l = l.to - l.at
