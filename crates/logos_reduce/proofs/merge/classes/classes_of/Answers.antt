use Rattle.std.proofs.Common.{◌≡◌, arith}
use Rattle.logos_reduce.specs.inside.Classes.{class_key}
use Rattle.logos_reduce.specs.Table.{size}
use Rattle.logos_reduce.proofs.merging.ClassLemmas.{keyed_more, keyed_classes}
use Rattle.logos_reduce.proofs.merging.KeyLemmas.{got_below}
use Rattle.logos_reduce.proofs.merge.classes.classes_of.Goals as goal

pub loop-s-preserved : goal.loop-s-preserved
loop-s-preserved c =
    let h = c.in_ok-class.ensures in
    let at = h.stored in
    let key : c.class_key.result ≡ class_key c.args.table.now c.loop-s.s = c.class_key.ensures in (
      omega (arith, c.in_ok-push.ensures.len),
      keyed_more c.args.table.now c.loop-s.s c.loop-s.of.items c.push.new.self.items c.loop-s.keys.keys c.insert_full.new.self.keys c.in_ok-class.class at.0
          c.loop-s.invariant.1 (omega arith) c.in_ok-push.ensures.items (rw key at h.keys) at.1 (rw key at at.2),
    )

pub invariant_of-result : goal.invariant_of-result
invariant_of-result c = record {
  within = λ s l.
      let b = got_below c.loop-s.keys.keys _ _ (c.loop-s.invariant.1.keyed s (omega arith)) in
      omega (arith, b, c.len.ensures.len);
  few = let n = c.loop-s.invariant.1.few in omega (arith, n, c.len.ensures.len);
}

pub returns-clause-classes : goal.returns-clause-classes
returns-clause-classes c =
    let e : c.loop-s.s ≡ size c.args.table.now = omega arith in
    keyed_classes c.args.table.now c.loop-s.of.items c.loop-s.keys.keys (rw e at c.loop-s.invariant.1)
