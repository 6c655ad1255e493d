use Rattle.std.proofs.Common.{refl, subst}
use Rattle.logos_cli.specs.Orders.{order_value}
use Rattle.logos_cli.specs.inside.BatchFiles.{batch_file_order, orders_of, output_text}
use Rattle.logos_cli.proofs.BatchLemmas.{EndsDenied, EndsDone, IsDoneSoFar, IsEndedSoFar, all_denied, next_done, next_ended, next_known, next_silent, orders_next, orders_through}
use Rattle.logos_cli.specs.Runs.{IsTouched}
use Rattle.logos_cli.proofs.TouchLemmas.{AreTouchedSoFar, all_touched, next_touched}
use Rattle.logos_cli.proofs.batch.run_each.Goals as goal

pub loop-batch_file-preserved : goal.loop-batch_file-preserved
loop-batch_file-preserved g c =
    let order = order_value c.args.order in
    let so = c.loop-batch_file.invariant in
    let next = orders_next order c.args.batch_files.now c.loop-batch_file.batch_file-index c.batch_file-item.result c.loop-batch_file-test.true c.batch_file-item.is in
    let yields = g.F.Files.read_yields in
    let makes = g.F.Files.write_makes in
    let finds = g.F.ComparableFiles.compare_finds in
    let reads = g.F.Files.read_ends in
    let writes = g.F.Files.write_ends in
    let done = subst (λ o. EndsDone yields makes finds o c.carry_out.result.status c.loop-batch_file.files c.carry_out.new.files (g.O.Write.contents c.loop-batch_file.out) (g.O.Write.contents c.carry_out.new.out)) c.order_at.ensures c.carry_out.ensures.done in
    let denied = subst (λ o. EndsDenied yields makes finds o c.carry_out.result.status c.carry_out.result.is_written c.loop-batch_file.files c.carry_out.new.files (g.E.Write.contents c.loop-batch_file.err) (g.E.Write.contents c.carry_out.new.err)) c.order_at.ensures c.carry_out.ensures.denied in
    let high = c.joined-ending.ensures.highest in
    let is = c.joined-ending.ensures.status in
    let known = next_known yields makes finds (orders_of order c.args.batch_files.now) (orders_of order c.args.batch_files.now) (batch_file_order order c.batch_file-item.result) c.loop-batch_file.ending.status c.carry_out.result.status c.joined-ending.result.status c.args.files.now c.loop-batch_file.files c.carry_out.new.files high.0 high.1 is so.3 so.4 c.carry_out.ensures.known in (
      next_done yields makes finds (orders_of order c.args.batch_files.now) _ (batch_file_order order c.batch_file-item.result) c.loop-batch_file.ending.status c.carry_out.result.status c.joined-ending.result.status c.args.files.now c.loop-batch_file.files c.carry_out.new.files high.0 high.1 is _ _ _
          (subst (λ left. IsDoneSoFar yields makes finds (orders_of order c.args.batch_files.now) left c.loop-batch_file.ending.status c.args.files.now c.loop-batch_file.files (g.O.Write.contents c.args.out.now) (g.O.Write.contents c.loop-batch_file.out)) next so.0) done,
      next_ended yields makes finds (orders_of order c.args.batch_files.now) _ (batch_file_order order c.batch_file-item.result) c.loop-batch_file.ending.status c.carry_out.result.status c.joined-ending.result.status c.args.files.now c.loop-batch_file.files c.carry_out.new.files high.0 high.1 is
          c.loop-batch_file.ending.is_written c.carry_out.result.is_written (g.E.Write.contents c.args.err.now) (g.E.Write.contents c.loop-batch_file.err) (g.E.Write.contents c.carry_out.new.err) (g.O.Write.contents c.loop-batch_file.out) (g.O.Write.contents c.carry_out.new.out)
          (subst (λ left. IsEndedSoFar yields makes finds (orders_of order c.args.batch_files.now) left c.loop-batch_file.ending.status c.loop-batch_file.ending.is_written c.args.files.now c.loop-batch_file.files (g.E.Write.contents c.args.err.now) (g.E.Write.contents c.loop-batch_file.err)) next so.1)
          done denied c.carry_out.ensures.messages c.joined-ending.result.is_written c.joined-ending.ensures.written,
      next_silent yields makes finds (orders_of order c.args.batch_files.now) (orders_of order c.args.batch_files.now) (batch_file_order order c.batch_file-item.result) c.loop-batch_file.ending.status c.carry_out.result.status c.joined-ending.result.status c.args.files.now c.loop-batch_file.files c.carry_out.new.files high.0 high.1 is
          (g.O.Write.contents c.args.out.now) (g.O.Write.contents c.loop-batch_file.out) (g.O.Write.contents c.carry_out.new.out) so.2 done c.carry_out.ensures.silent (output_text c.batch_file-item.result) refl,
      known.0,
      known.1,
      next_touched reads writes (orders_of order c.args.batch_files.now) _ (batch_file_order order c.batch_file-item.result) c.args.files.now c.loop-batch_file.files c.carry_out.new.files
          (subst (λ left. AreTouchedSoFar reads writes (orders_of order c.args.batch_files.now) left c.args.files.now c.loop-batch_file.files) next so.5)
          (subst (λ o. IsTouched reads writes o c.loop-batch_file.files c.carry_out.new.files) c.order_at.ensures c.carry_out.ensures.touched),
    )

pub returns-clause-denied : goal.returns-clause-denied
returns-clause-denied g c =
    let order = order_value c.args.order in
    let orders = orders_of order c.args.batch_files.now in
    let through = orders_through order c.args.batch_files.now c.loop-batch_file.batch_file-index c.loop-batch_file-test.false in
    all_denied g.F.Files.read_yields g.F.Files.write_makes g.F.ComparableFiles.compare_finds orders c.loop-batch_file.ending.status c.loop-batch_file.ending.is_written c.args.files.now c.loop-batch_file.files (g.E.Write.contents c.args.err.now) (g.E.Write.contents c.loop-batch_file.err)
    (subst (λ left. IsEndedSoFar g.F.Files.read_yields g.F.Files.write_makes g.F.ComparableFiles.compare_finds orders left c.loop-batch_file.ending.status c.loop-batch_file.ending.is_written c.args.files.now c.loop-batch_file.files (g.E.Write.contents c.args.err.now) (g.E.Write.contents c.loop-batch_file.err)) through c.loop-batch_file.invariant.1)

pub returns-clause-touched : goal.returns-clause-touched
returns-clause-touched g c =
    let order = order_value c.args.order in
    let orders = orders_of order c.args.batch_files.now in
    let through = orders_through order c.args.batch_files.now c.loop-batch_file.batch_file-index c.loop-batch_file-test.false in
    all_touched g.F.Files.read_ends g.F.Files.write_ends orders _ c.args.files.now c.loop-batch_file.files through c.loop-batch_file.invariant.5

pub returns-clause-done : goal.returns-clause-done
returns-clause-done g c =
    let order = order_value c.args.order in
    let orders = orders_of order c.args.batch_files.now in
    let through = orders_through order c.args.batch_files.now c.loop-batch_file.batch_file-index c.loop-batch_file-test.false in
    λ s. (subst (λ left. IsDoneSoFar g.F.Files.read_yields g.F.Files.write_makes g.F.ComparableFiles.compare_finds orders left c.loop-batch_file.ending.status c.args.files.now c.loop-batch_file.files (g.O.Write.contents c.args.out.now) (g.O.Write.contents c.loop-batch_file.out)) through c.loop-batch_file.invariant.0) s
    c.loop-batch_file.files (g.O.Write.contents c.loop-batch_file.out) (refl, refl)
