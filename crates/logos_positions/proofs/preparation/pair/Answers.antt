use Rattle.std.proofs.Common.{◌≡◌}
use Rattle.std.proofs.lemmas.Result.{IfOk-weaker}
use Rattle.logos_hir.specs.ByteRanges.{is_in}
use Rattle.logos_hir.specs.Hir.{pairs}
use Rattle.logos_positions.specs.Node.{core_of}
use Rattle.logos_positions.specs.inside.Joined.{pair_up, apart, as_class}
use Rattle.logos_positions.proofs.trees.NodeLemmas.{core-Bytes}
use Rattle.logos_positions.proofs.preparation.pair.Goals as goal

pub returns-then-in_order-clause-occurs : goal.returns-then-in_order-clause-occurs
returns-then-in_order-clause-occurs c =
    IfOk-weaker _ _ _ (λ node (is : core_of node ≡ pair_up c.args.in_order (core_of c.args.first) (core_of c.args.second)). rw is apart) c.apart.ensures.occurs

pub returns-in-Some-clause-occurs : goal.returns-in-Some-clause-occurs
returns-in-Some-clause-occurs c =
    rw (core-Bytes c.in-Some.ranges) (as_class (is_in (pairs c.in-Some.ranges.items)) c.if-in_order.false (rw c.in-Some.is at c.in_ok-ranges.ensures))

pub returns-in-None-clause-occurs : goal.returns-in-None-clause-occurs
returns-in-None-clause-occurs c =
    IfOk-weaker _ _ _ (λ node (is : core_of node ≡ pair_up c.args.in_order (core_of c.args.first) (core_of c.args.second)). rw is apart) c.apart-in-None.ensures.occurs
