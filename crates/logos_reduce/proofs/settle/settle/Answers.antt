use Rattle.std.proofs.Common.{refl, arith}
use Rattle.logos_reduce.proofs.settling.MarkLemmas.{settled_by}
use Rattle.logos_reduce.proofs.settle.settle.Goals as goal

pub returns : goal.returns
returns c =
    settled_by c.args.table _ c.in_ok-early.early.items c.in_ok-needed.needed.items refl (omega (arith, c.in_ok-marks.ensures.len))
    c.in_ok-early.ensures.marks c.in_ok-needed.ensures.needed c.in_ok-marks.ensures.marks
