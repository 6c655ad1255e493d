use Rattle.logos_type_params.proofs.cycles.ListLemmas.{edge_read, read_at}
use Rattle.logos_type_params.proofs.cycles.check.target.Goals as goal

pub returns : goal.returns
returns c =
    let list = read_at c.args.lists.now c.args.node c.in_ok-list.list c.in_ok-list.ensures.lookup in
    let items = c.deref.ensures.value in
    let to = read_at c.deref.result.now c.args.edge c.in_ok-to.to c.in_ok-to.ensures.lookup in
    edge_read c.args.lists.now c.args.node c.args.edge c.in_ok-to.to.now c.in_ok-list.list.now list (rw items at to)
