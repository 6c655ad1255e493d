use Rattle.std.proofs.Common.{length}
use Rattle.logos_syntax.specs.inside.BracketView.{frames_view}
use Rattle.logos_syntax.proofs.brackets.Texts.{InBracket}
use Rattle.logos_syntax.proofs.bracket.parser.read_inside.Given as goal

abbrev pub invariant-loop-rest : goal.invariant-loop-rest
invariant-loop-rest l = InBracket l.fn.flags l.fn.base l.fn.opening.negated l.fn.opening.lead l.fn.text l.rest (frames_view l.frames)

abbrev pub decreases-loop-rest : goal.decreases-loop-rest
decreases-loop-rest l = length l.rest
