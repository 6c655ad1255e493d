use Rattle.std.proofs.Common.{refl, sym, ◌∙◌, arith}
use Rattle.logos_reduce.proofs.pruning.PruneLemmas.{met_some, pruned_by}
use Rattle.logos_reduce.specs.Table.{to}
use Rattle.logos_reduce.proofs.prune.prune.Goals as goal

pub invariant_of-result : goal.invariant_of-result
invariant_of-result c =
    let table = c.args.table in
    let numbers = c.in_ok-order.order.numbers.items in
    let n = table.same_len in
    record {
      same_len = omega (arith, c.pruned_rows-pruned.ensures.len);
      closed = λ s k t l e.
          table.closed s k t l (met_some numbers (to table s k) t (sym (c.pruned_rows-pruned.ensures.rows s k (omega arith)) ∙ e));
      few = table.few;
    }

pub returns : goal.returns
returns c =
    let n = c.args.table.same_len in
    pruned_by c.args.table _ c.in_ok-order.order.numbers.items refl c.in_ok-order.ensures.useful (λ s k l. c.pruned_rows-pruned.ensures.rows s k (omega arith))
