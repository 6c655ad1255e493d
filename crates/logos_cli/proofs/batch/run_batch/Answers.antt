use Rattle.std.proofs.Common.{ap, ◌∙◌, inr, subst}
use Rattle.logos_cli.specs.Orders.{batch_value, order_value}
use Rattle.logos_cli.specs.inside.BatchFiles.{orders_of}
use Rattle.logos_cli.proofs.BatchLemmas.{all_apart, own_found, twins_found}
use Rattle.logos_cli.specs.Runs.{AreTouched}
use Rattle.logos_cli.proofs.batch.run_batch.Goals as goal

pub returns-in-Some-clause-own : goal.returns-in-Some-clause-own
returns-in-Some-clause-own g c =
    let order = order_value c.args.batch.order in
    let found = c.in-Some.ensures in
    λ _. own_found g.F.ComparableFiles.same_finds order (batch_value c.args.batch) c.args.files.now c.deref.result.now (ap (orders_of order) c.deref.ensures.value ∙ c.in-Ok.ensures) found.0 found.1 found.2.0 found.2.1 found.2.2

pub returns-in-Some-twin_in-clause-own : goal.returns-in-Some-twin_in-clause-own
returns-in-Some-twin_in-clause-own g c =
    let order = order_value c.args.batch.order in
    λ _. twins_found g.F.ComparableFiles.same_finds order (batch_value c.args.batch) c.args.files.now c.deref-2.result.now (ap (orders_of order) c.deref-2.ensures.value ∙ c.in-Ok.ensures) c.in-Some-twin_in.ensures

pub returns-clause-apart : goal.returns-clause-apart
returns-clause-apart g c =
    let order = order_value c.args.batch.order in
    λ _. all_apart g.F.ComparableFiles.same_finds order (batch_value c.args.batch) c.args.files.now c.deref.result.now c.deref-2.result.now (ap (orders_of order) c.deref.ensures.value ∙ c.in-Ok.ensures) (ap (orders_of order) c.deref-2.ensures.value ∙ c.in-Ok.ensures) c.in_default.ensures c.in_default-twin_in.ensures

pub returns-clause-touched : goal.returns-clause-touched
returns-clause-touched g c =
    let order = order_value c.args.batch.order in
    let apart = all_apart g.F.ComparableFiles.same_finds order (batch_value c.args.batch) c.args.files.now c.deref.result.now c.deref-2.result.now (ap (orders_of order) c.deref.ensures.value ∙ c.in-Ok.ensures) (ap (orders_of order) c.deref-2.ensures.value ∙ c.in-Ok.ensures) c.in_default.ensures c.in_default-twin_in.ensures in
    let orders = ap (orders_of order) c.deref-3.ensures.value ∙ c.in-Ok.ensures in
    inr (apart, subst (λ all. AreTouched g.F.Files.read_ends g.F.Files.write_ends all c.args.files.now c.run_each.new.files) orders c.run_each.ensures.touched)
