use Rattle.std.proofs.Common.{All, false, sym}
use Rattle.logos_cli.specs.inside.BatchFiles.{output_text}
use Rattle.logos_cli.proofs.BatchLemmas.{all_next}
use Rattle.logos_cli.proofs.batch.own_output_in.Goals as goal

pub returns-then-is_input : goal.returns-then-is_input
returns-then-is_input g c =
    let same = (rw c.as_str.ensures.value at c.is_input.ensures.same) c.if-is_input.true in
    (c.batch_file-item.result, (c.loop-batch_file.batch_file-index, c.loop-batch_file-test.true, sym c.batch_file-item.is), same)

pub loop-batch_file-preserved : goal.loop-batch_file-preserved
loop-batch_file-preserved g c =
    let apart = (rw c.as_str.ensures.value at c.is_input.ensures.apart) c.if-is_input.false in
    all_next (λ one. All (λ other. g.F.ComparableFiles.same_finds c.args.files.now other.input.now (output_text one) false) c.args.batch_files.now) c.args.batch_files.now c.loop-batch_file.batch_file-index c.batch_file-item.result c.loop-batch_file-test.true c.batch_file-item.is apart c.loop-batch_file.invariant
