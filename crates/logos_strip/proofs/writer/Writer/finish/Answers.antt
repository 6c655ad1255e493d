use Rattle.std.proofs.Common.{sym}
use Rattle.logos_strip.proofs.WritingLemmas.{append-none}
use Rattle.logos_strip.proofs.writer.Writer.finish.Goals as goal

pub returns-in-None : goal.returns-in-None
returns-in-None c = rw c.in-None.is (sym (append-none _))
