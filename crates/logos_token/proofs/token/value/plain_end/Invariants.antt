use Rattle.std.proofs.Common.{◌-◌, ◌≤◌, slice_range}
use Rattle.logos_token.specs.inside.ValueReads.{IsRest}
use Rattle.logos_lexeme.specs.declared.lexeme.openings.Content.TheVariants.{Text}
use Rattle.logos_token.proofs.token.value.plain_end.Given as goal

abbrev pub invariant-loop-end : goal.invariant-loop-end
invariant-loop-end l = record { begun : l.from ≤ l.end; ended : l.end ≤ l.to; rest : IsRest l.escapes Text l.source l.from l.end l.to (slice_range l.source l.from l.end) }

abbrev pub decreases-loop-end : goal.decreases-loop-end
decreases-loop-end l = l.to - l.end
