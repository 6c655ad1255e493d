use Rattle.std.proofs.Common.{length}
use Rattle.logos_machine.specs.LexerValue.{answers_of}
use Rattle.logos_relex.proofs.MakingLemmas.{Making}
use Rattle.logos_relex.proofs.anew.make_anew.Given as goal

abbrev pub invariant-loop-border : goal.invariant-loop-border
invariant-loop-border g l = Making l.code (answers_of g.C.Fn l.callback) l.former.chunks.items l.edit.input.now l.fn.start l.border l.chunks.items l.rest

abbrev pub decreases-loop-border : goal.decreases-loop-border
decreases-loop-border g l = length l.rest
