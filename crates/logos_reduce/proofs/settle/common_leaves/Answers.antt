use Rattle.std.proofs.Common.{ℕ, Option, None, [], slice_index_or, subst, arith}
use Rattle.logos_reduce.specs.inside.Settle.{IsCommonIn}
use Rattle.logos_reduce.proofs.tables.PushLemmas.{pushed}
use Rattle.logos_reduce.proofs.settle.common_leaves.Goals as goal

pub loop-slot-preserved : goal.loop-slot-preserved
loop-slot-preserved c =
    let table = c.args.table.now in
    let keys = table.rows.distinct.keys.items in (
      omega (arith, c.in_ok-push.ensures.len),
      pushed (λ (i : ℕ) (leaf : Option ℕ). IsCommonIn table (slice_index_or keys i []) leaf) c.loop-slot.leaves.items c.push.new.self.items
          c.common_leaf.result None c.loop-slot.slot c.in_ok-push.ensures.items (omega arith) c.loop-slot.invariant.1
          (subst (λ row. IsCommonIn table row c.common_leaf.result) c.distinct.ensures c.common_leaf.ensures),
    )

pub returns-clause-leaves : goal.returns-clause-leaves
returns-clause-leaves c = λ i l. c.loop-slot.invariant.1 i (omega arith)
