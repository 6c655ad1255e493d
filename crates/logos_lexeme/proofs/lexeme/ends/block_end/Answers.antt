use Rattle.logos_lexeme.proofs.EndLaws.{closed_at}
use Rattle.logos_lexeme.proofs.lexeme.ends.block_end.Goals as goal

pub returns : goal.returns
returns c = c.loop-depth.invariant.on c.loop-depth.at (closed_at c.args.source.now c.loop-depth.depth c.loop-depth.at c.loop-depth-test.false)
