use Rattle.logos_scan.proofs.walk.CursorLemmas.{passes_none, passes_on}
use Rattle.logos_scan.proofs.walk.cursor.ChunkCursor.filled.Goals as goal

pub loop-cursor-init : goal.loop-cursor-init
loop-cursor-init c = record {
  is_at = c.requires.is_at;
  passes = passes_none c.args.chunk.now.entries c.args.self;
}

pub loop-cursor-preserved : goal.loop-cursor-preserved
loop-cursor-preserved c = record {
  is_at = c.moved-cursor.ensures.is_at;
  passes = passes_on c.args.chunk.now.entries c.args.self c.loop-cursor.cursor c.moved-cursor.result c.loop-cursor.invariant.passes c.moved-cursor.ensures.passes;
}
