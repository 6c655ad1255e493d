use Rattle.std.proofs.Common.{refl, arith}
use Rattle.logos_scan.specs.Runs.{WithChunk}
use Rattle.logos_scan.proofs.LoadLemmas.{loaded_run}
use Rattle.logos_scan.proofs.run.filled.Goals as goal

pub returns-clause-run : goal.returns-clause-run
returns-clause-run c =
    let code = c.args.reading.now.code.now in
    let input = c.args.reading.now.input.now in
    let l = c.load-loaded in
    let cur = c.new-cursor.ensures in
    let run : WithChunk = record { chunk = l.new.chunk; cursor = c.new-cursor.result; count = l.result.count; row_start = l.result.row_start; low = 0 } in
    loaded_run code c.args.reading.now.rows.now input run c.args.start c.args.base c.args.row_start l.new.chunk.entries l.result l.ensures.loaded refl cur.base refl refl refl l.ensures.marked cur.is_at (omega arith) c.requires.is_at
