use Rattle.std.proofs.Common.{◌∙◌, IfSome, IsTrue, sym}
use Rattle.std.proofs.KnownBytes.{Appends-trans}
use Rattle.logos_cli.specs.Orders.{order_value}
use Rattle.logos_cli.specs.Runs.{IsOther}
use Rattle.logos_cli.proofs.RunLemmas.{fails_twice, known_status, written_after}
use Rattle.logos_cli.proofs.program.deliver_and_end.Goals as goal

pub returns-in-Err-clause-done : goal.returns-in-Err-clause-done
returns-in-Err-clause-done g c = λ s. absurd ((known_status c.in-Err.failure).1 (sym c.failed_after.ensures.status ∙ s))

pub returns-in-Err-clause-denied : goal.returns-in-Err-clause-denied
returns-in-Err-clause-denied g c =
    λ s. let t = written_after (λ shown. IsTrue (order_value c.args.order).is_check × IfSome (order_value c.args.order).output (λ path. IsOther g.F.ComparableFiles.compare_finds path c.args.expansion.now.bytes.items c.args.files.now c.deliver.new.files)) c.in-Err.failure _ _ _ _ _ (rw c.deref-2.ensures.value at c.in-Err.ensures.denied) (sym c.failed_after.ensures.status ∙ s) c.warn-is_warned.ensures c.failed_after.ensures.written in
    (t.0, t.1.0, t.1.1, t.2)

pub returns-in-Err-clause-silent : goal.returns-in-Err-clause-silent
returns-in-Err-clause-silent g c = λ s. c.in-Err.ensures.silent (sym c.failed_after.ensures.status ∙ s)

pub returns-in-Err-clause-known : goal.returns-in-Err-clause-known
returns-in-Err-clause-known g c =
    (rw c.failed_after.ensures.status (known_status c.in-Err.failure).0, λ s. fails_twice c.in-Err.failure c.in-Err.ensures.denied (sym c.failed_after.ensures.status ∙ s))

pub returns-in-Err-clause-messages : goal.returns-in-Err-clause-messages
returns-in-Err-clause-messages g c =
    λ w. let t = c.failed_after.ensures.written w in
    let a = c.warn-is_warned.ensures t.0 in
    (_, Appends-trans _ _ _ a.0 _ a.1 t.1.1)
