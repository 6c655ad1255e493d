use Rattle.logos_scan.specs.Runs.{with_chunk}
use Rattle.logos_scan.proofs.ItemLemmas.{start_within, taken_past}
use Rattle.logos_scan.proofs.run.attempt_again.Goals as goal

pub attempted-taken-requires : goal.attempted-taken-requires
attempted-taken-requires c =
    let reading = c.args.reading.now in
    let r = c.requires.held.is_at in
    start_within reading.code.now reading.rows.now reading.input.now (with_chunk c.args.chunk.now c.args.run) c.args.start c.requires.held.at r

pub restarted-after-requires-clause-chunk : goal.restarted-after-requires-clause-chunk
restarted-after-requires-clause-chunk c =
    let r = c.requires.held.is_at in
    r.in_chunk

pub restarted-after-requires-clause-within : goal.restarted-after-requires-clause-within
restarted-after-requires-clause-within c =
    let reading = c.args.reading.now in
    let r = c.requires.held.is_at in
    let starts = start_within reading.code.now reading.rows.now reading.input.now (with_chunk c.args.chunk.now c.args.run) c.args.start c.requires.held.at r in
    (taken_past reading.code.now reading.input.now c.args.start c.attempted-taken.result.0 c.attempted-taken.result.1 starts c.attempted-taken.ensures).0
