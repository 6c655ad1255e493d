use Rattle.std.proofs.Common.{arith}
use Rattle.logos_lexeme.specs.LexemeRuns.{here}
use Rattle.logos_lexeme.specs.LexemeEnds.{Continues}
use Rattle.logos_lexeme.proofs.RunLaws.{Steps-push}
use Rattle.logos_lexeme.proofs.EndLaws.{Continues-moves, step-boundary}
use Rattle.logos_lexeme.proofs.lexeme.ends.number_end.Goals as goal

pub loop-end-init : goal.loop-end-init
loop-end-init c = record { boundary = c.requires.boundary; begun = c.requires.begun; so_far = here }

pub loop-end-preserved : goal.loop-end-preserved
loop-end-preserved c = record {
  boundary = step-boundary c.args.source.now c.utf8.source c.args.based c.loop-end.end c.in-Some.next c.loop-end.invariant.boundary c.in-Some.ensures;
  begun = omega (arith, Continues-moves c.args.based c.args.source.now c.loop-end.end c.in-Some.next c.in-Some.ensures);
  so_far = Steps-push (Continues c.args.based c.args.source.now) c.loop-end.invariant.so_far c.in-Some.ensures;
}
