use Rattle.std.proofs.Common.{◌≡◌, arith, vec_len}
use Rattle.logos_reduce.proofs.merging.TwinLemmas.{moving-step}
use Rattle.logos_reduce.proofs.merge.twins.move_hits.Goals as goal

pub loop-s-preserved : goal.loop-s-preserved
loop-s-preserved c =
    let i = c.loop-s.s-index in
    let hits = c.args.hits.now.items in
    (omega arith, omega arith, moving-step (vec_len c.args.filing.now.blocks) i c.args.fresh c.args.filing.now.blocks.items c.loop-s.filing.blocks.items c.move_hit.new.filing.blocks.items c.args.twins.now.items hits c.loop-s.filing.lists.items c.move_hit.new.filing.lists.items c.loop-s.invariant.2 (omega arith) (c.requires.hits_in i (omega arith)) c.requires.homes_in (rw c.deref-s-items.ensures.value at c.in_ok-move_hit.ensures.landed) (rw c.deref-s-items.ensures.value at c.in_ok-move_hit.ensures.others) (let same : vec_len c.loop-s.filing.blocks ≡ vec_len c.args.filing.now.blocks = omega arith in rw same at c.in_ok-move_hit.ensures.filed))
