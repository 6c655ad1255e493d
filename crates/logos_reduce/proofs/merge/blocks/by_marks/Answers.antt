use Rattle.std.proofs.Common.{◌≡◌, arith, ap, ◌∙◌}
use Rattle.logos_reduce.specs.inside.Merge.{key_of}
use Rattle.logos_reduce.specs.Table.{size, mark}
use Rattle.logos_reduce.proofs.merging.KeyLemmas.{keys_more, sound_by_marks, got_below}
use Rattle.logos_reduce.proofs.merge.blocks.by_marks.Goals as goal

pub loop-s-preserved : goal.loop-s-preserved
loop-s-preserved c =
    let h = c.in_ok-block.ensures in
    let at = h.stored in
    let key : c.key_of.result ≡ key_of (mark c.args.table.now c.loop-s.s) = c.key_of.ensures ∙ ap key_of c.mark.ensures in (
      omega (arith, c.in_ok-push.ensures.len),
      keys_more c.args.table.now c.loop-s.s c.loop-s.of.items c.push.new.self.items c.loop-s.keys.keys c.insert_full.new.self.keys c.in_ok-block.block at.0
          c.loop-s.invariant.1 (omega arith) c.in_ok-push.ensures.items (rw key at h.keys) at.1 (rw key at at.2),
    )

pub invariant_of-result : goal.invariant_of-result
invariant_of-result c = record {
  within = λ s l.
      let b = got_below c.loop-s.keys.keys _ _ (c.loop-s.invariant.1.keyed s (omega arith)) in
      omega (arith, b, c.len.ensures.len, c.in_ok-splits.ensures.len);
}

pub returns-clause-sound : goal.returns-clause-sound
returns-clause-sound c =
    let e : c.loop-s.s ≡ size c.args.table.now = omega arith in
    sound_by_marks c.args.table.now c.loop-s.of.items c.loop-s.keys.keys (rw e at c.loop-s.invariant.1) c.in_ok-splits.splits.items
    (λ s l. let b = got_below c.loop-s.keys.keys _ _ (c.loop-s.invariant.1.keyed s (omega arith)) in omega (arith, b, c.len.ensures.len, c.in_ok-splits.ensures.len))
    c.in_ok-splits.ensures.splits
