use Rattle.std.proofs.Common.{◌≡◌, ℕ, min, sym, subst, arith}
use Rattle.logos_scan.specs.Runs.{with_chunk}
use Rattle.logos_scan.specs.Attempts.{ComesTo}
use Rattle.logos_scan.proofs.LoadLemmas.{ready_run, root_is_row_start}
use Rattle.logos_scan.proofs.AttemptLemmas.{is_at_begun}
use Rattle.logos_scan.proofs.run.Run.new.Goals as goal

pub filled-requires-clause-row_start : goal.filled-requires-clause-row_start
filled-requires-clause-row_start c = rw c.root_row_start.ensures.row_start (root_is_row_start c.args.reading.now.code.now c.args.reading.now.rows.now c.requires.reading)

pub filled-requires-clause-is_at : goal.filled-requires-clause-is_at
filled-requires-clause-is_at c =
    let code = c.args.reading.now.code.now in
    let input = c.args.reading.now.input.now in
    subst (λ (p : ℕ). ComesTo code input 0 0 p) (sym c.root_row_start.ensures.row_start) (is_at_begun code c.requires.reading.sound input 0 (omega arith))

pub returns-clause-ready : goal.returns-clause-ready
returns-clause-ready c =
    let reading = c.args.reading.now in
    let f = c.filled in
    let zero : min f.result.cursor.from f.result.count ≡ 0 = omega (arith, f.ensures.from) in
    ready_run reading.code.now reading.rows.now reading.input.now (with_chunk f.new.chunk f.result) 0 0 f.ensures.start zero f.ensures.run
