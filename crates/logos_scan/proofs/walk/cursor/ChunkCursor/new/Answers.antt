use Rattle.std.proofs.Common.{◌<◌, ◌/◌, ◌%◌, slice_index, refl, arith}
use Rattle.logos_scan.proofs.walk.CursorLemmas.{left_at, high_bits, start_first}
use Rattle.logos_scan.proofs.walk.cursor.ChunkCursor.new.Goals as goal

abbrev pub returns-clause-is_at : goal.returns-clause-is_at
returns-clause-is_at c =
    let w = c.args.from / 64 in
    let r = c.args.from % 64 in
    let small : w < 72 = omega (arith, c.requires.from) in
    let m = c.requires.marked in
    record {
      within = small;
      far = omega arith;
      tokens_left = left_at 30 c.args.chunk.now.entries w (slice_index c.args.chunk.now.tokens w) c.args.from r _ (m.tokens w small) (omega arith) (omega arith) (high_bits r (omega arith));
      first = c.args.from;
      near = omega arith;
      order = omega arith;
      ends_left = left_at 31 c.args.chunk.now.entries w (slice_index c.args.chunk.now.ends w) c.args.from r _ (m.ends w small) (omega arith) (omega arith) (high_bits r (omega arith));
    }

pub returns-clause-start : goal.returns-clause-start
returns-clause-start c = start_first c.args.chunk.now.entries _ (returns-clause-is_at c) refl
