use Rattle.std.proofs.Common.{◌-◌, ◌<◌, length}
use Rattle.std.specs.Str.{IsCharBoundary}
use Rattle.logos_lexeme.specs.LexemeRuns.{Steps}
use Rattle.logos_lexeme.specs.LexemeEnds.{Continues}
use Rattle.logos_lexeme.proofs.lexeme.ends.number_end.Given as goal

abbrev pub invariant-loop-end : goal.invariant-loop-end
invariant-loop-end l = record { boundary : IsCharBoundary l.source l.end; begun : 0 < l.end; so_far : Steps (Continues l.based l.source) l.from l.end }

abbrev pub decreases-loop-end : goal.decreases-loop-end
decreases-loop-end l = length l.source - l.end
