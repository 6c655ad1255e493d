use Rattle.std.proofs.Common.{◌/◌, subst, arith, rules}
use Rattle.std.proofs.lemmas.Result.{IfOk-weaker}
use Rattle.logos_positions.specs.Node.{core_of}
use Rattle.logos_positions.specs.inside.Joined.{IsPair, IsJoined, from_two}
use Rattle.logos_positions.proofs.trees.PrepareLemmas.{width-joined, AreMeasured-take, AreMeasured-drop, cores_split, widths_split}
use Rattle.logos_positions.proofs.preparation.+join.Goals as goal

pub join-requires : goal.join-requires
join-requires t c =
    let w = widths_split (c.len-2.result / 2) c.args.nodes.items in (
      search rules,
      rw c.in_ok-second.ensures.items (AreMeasured-take (c.len-2.result / 2) c.args.nodes.items c.requires.measured, omega (arith, w, c.requires.fits)),
    )

pub join-requires-2 : goal.join-requires-2
join-requires-2 t c =
    let w = widths_split (c.len-2.result / 2) c.args.nodes.items in (
      search rules,
      rw c.in_ok-second.ensures.tail (AreMeasured-drop (c.len-2.result / 2) c.args.nodes.items c.requires.measured, omega (arith, w, c.requires.fits)),
    )

pub pair-requires-clause-fits : goal.pair-requires-clause-fits
pair-requires-clause-fits t c =
    let w = widths_split (c.len-2.result / 2) c.args.nodes.items in
    let first = rw c.in_ok-second.ensures.items at (width-joined c.args.in_order _ _ c.in_ok-first.ensures.occurs) in
    let second = rw c.in_ok-second.ensures.tail at (width-joined c.args.in_order _ _ c.in_ok-second-2.ensures.occurs) in
    omega (arith, w, first, second, c.requires.fits)

pub returns-clause-occurs : goal.returns-clause-occurs
returns-clause-occurs t c =
    let first = rw c.in_ok-second.ensures.items at c.in_ok-first.ensures.occurs in
    let second = rw c.in_ok-second.ensures.tail at c.in_ok-second-2.ensures.occurs in
    IfOk-weaker _ _ _
    (λ node (is : IsPair c.args.in_order (core_of c.in_ok-first.first) (core_of c.in_ok-second-2.second) (core_of node)).
    subst (λ cs. IsJoined c.args.in_order cs (core_of node)) (cores_split (c.len-2.result / 2) c.args.nodes.items) (from_two _ _ _ _ _ first second is))
    c.pair.ensures.occurs
