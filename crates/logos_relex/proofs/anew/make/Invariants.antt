use Rattle.std.proofs.Common.{length}
use Rattle.logos_machine.specs.LexerValue.{answers_of}
use Rattle.logos_relex.specs.Chunks.{AreChunks}
use Rattle.logos_relex.proofs.anew.make.Given as goal

-- The chunks so far are at the front of the input, and the rest is after them.
abbrev pub invariant-loop-chunks : goal.invariant-loop-chunks
invariant-loop-chunks g l = AreChunks l.code (answers_of g.C.Fn l.callback) l.input l.chunks.items l.rest

abbrev pub decreases-loop-chunks : goal.decreases-loop-chunks
decreases-loop-chunks g l = length l.rest
