use Rattle.std.proofs.Common.{◌+◌, ◌*◌, ◌<◌, refl, slice_index, arith}
use Rattle.logos_scan.proofs.walk.CursorLemmas.{left_whole, passes_word}
use Rattle.logos_scan.proofs.walk.cursor.ChunkCursor.moved.Goals as goal

abbrev pub returns-clause-is_at : goal.returns-clause-is_at
returns-clause-is_at c =
    let trace = c.args.chunk.now.entries in
    let w = c.args.self.word + 1 in
    let small : w < 72 = omega (arith, c.requires.last) in
    let m = c.requires.marked in
    record {
      within = small;
      far = omega arith;
      tokens_left = left_whole 30 trace w (slice_index c.args.chunk.now.tokens w) (m.tokens w small);
      first = 64 * w;
      near = omega arith;
      order = omega arith;
      ends_left = left_whole 31 trace w (slice_index c.args.chunk.now.ends w) (m.ends w small);
    }

pub returns-clause-passes : goal.returns-clause-passes
returns-clause-passes c =
    passes_word c.args.chunk.now.entries c.args.self _ c.requires.is_at (returns-clause-is_at c) (omega arith) c.requires.none refl refl (omega arith) c.start_after.ensures
