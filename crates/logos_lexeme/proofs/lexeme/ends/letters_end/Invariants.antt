use Rattle.std.proofs.Common.{◌-◌, length}
use Rattle.std.specs.Str.{IsCharBoundary}
use Rattle.logos_lexeme.specs.LexemeCharacters.{is_continuing}
use Rattle.logos_lexeme.specs.LexemeRuns.{Steps, Passes}
use Rattle.logos_lexeme.proofs.lexeme.ends.letters_end.Given as goal

abbrev pub invariant-loop-end : goal.invariant-loop-end
invariant-loop-end l = record { boundary : IsCharBoundary l.source l.end; so_far : Steps (Passes is_continuing l.source) l.from l.end }

abbrev pub decreases-loop-end : goal.decreases-loop-end
decreases-loop-end l = length l.source - l.end
