use Rattle.std.proofs.Common.{◌+◌, ◌*◌, sym, arith}
use Rattle.logos_scan.proofs.walk.CursorLemmas.{by_none, by_some}
use Rattle.logos_scan.proofs.walk.cursor.ChunkCursor.start_after.Goals as goal

pub returns-then-bits-eq0 : goal.returns-then-bits-eq0
returns-then-bits-eq0 c = sym (by_none (c.args.self.base + 64 * c.args.self.word) c.args.self.word_start c.args.bits c.if-bits-eq0.true)

pub returns : goal.returns
returns c = sym (by_some (c.args.self.base + 64 * c.args.self.word) c.args.self.word_start c.args.bits (omega (arith, c.if-bits-eq0.false)))
