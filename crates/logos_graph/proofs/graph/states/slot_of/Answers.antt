use Rattle.std.proofs.Common.{◌+◌, ◌-◌, ◌/◌, ◌<◌, map, length, arith}
use Rattle.logos_graph.specs.GraphView.{edge_of}
use Rattle.logos_graph.specs.inside.States.{targets}
use Rattle.logos_graph.proofs.EdgeLemmas.{all_below, all_above, length-targets, target_at}
use Rattle.logos_graph.proofs.graph.states.slot_of.Goals as goal

pub loop-low-preserved-then-edges-mid : goal.loop-low-preserved-then-edges-mid
loop-low-preserved-then-edges-mid c =
    let edges = c.args.edges.now in
    let mid = c.loop-low.low + (c.loop-low.high - c.loop-low.low) / 2 in
    let in_ : mid < length edges = omega arith in
    let at = target_at edges mid c.index-edges-mid.result in_ in
    record {
      order = omega arith;
      within = c.loop-low.invariant.within;
      below = all_below (targets (map edge_of edges)) c.args.target mid c.requires (let e = length-targets edges in omega arith) (omega (arith, at, c.if-edges-mid.true));
      above = c.loop-low.invariant.above;
    }

pub loop-low-preserved : goal.loop-low-preserved
loop-low-preserved c =
    let edges = c.args.edges.now in
    let mid = c.loop-low.low + (c.loop-low.high - c.loop-low.low) / 2 in
    let in_ : mid < length edges = omega arith in
    let at = target_at edges mid c.index-edges-mid.result in_ in
    record {
      order = omega arith;
      within = omega arith;
      below = c.loop-low.invariant.below;
      above = λ k l m. all_above (targets (map edge_of edges)) c.args.target mid c.requires (omega (arith, at, c.if-edges-mid.false)) k l (let e = length-targets edges in omega arith);
    }
