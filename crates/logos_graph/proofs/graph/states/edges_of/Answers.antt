use Rattle.std.proofs.Common.{◌≡◌, ◌-◌, ◌<◌, ◌≤◌, ℕ, map, ◌∙◌, ap, refl, arith}
use Rattle.logos_byte_class.specs.Bytes.{bounds}
use Rattle.logos_graph.specs.GraphView.{edge_of}
use Rattle.logos_reduce.specs.Rows.{target_by, target_of}
use Rattle.logos_graph.specs.inside.States.{with_run}
use Rattle.logos_graph.proofs.EdgeLemmas.{edges_none, edges_more, targets_differ}
use Rattle.logos_graph.proofs.graph.states.edges_of.Goals as goal

pub loop-start-init : goal.loop-start-init
loop-start-init c =
    rw c.new-edges.ensures.items
    (record {
      within = omega arith;
      changes = λ l m. absurd (omega arith);
      edges = edges_none (target_by c.args.row.now);
    })

pub add_run-requires : goal.add_run-requires
add_run-requires c = c.loop-start.invariant.edges.rising

pub loop-start-preserved : goal.loop-start-preserved
loop-start-preserved c =
    let row = c.args.row.now in
    let start = c.loop-start.start in
    let end = c.run_end-end.result in
    let run = λ (b : ℕ) (l : start ≤ b) (m : b < end). ap target_of (c.run_end-end.ensures.same b l m) in
    let range : bounds c.new-range.result ≡ (start, end - 1) = rw (c.new-range.ensures.start, c.new-range.ensures.end) refl in
    let made : map edge_of c.add_run.new.edges.items ≡ with_run (map edge_of c.loop-start.edges.items) (start, end - 1) (target_by row start) =
    c.in_ok-add_run.ensures ∙ ap (λ r. with_run (map edge_of c.loop-start.edges.items) r c.target_at.result) range
    ∙ ap (λ t. with_run (map edge_of c.loop-start.edges.items) (start, end - 1) t) c.target_at.ensures in
    record {
      within = c.run_end-end.ensures.bound;
      changes = λ l m e. c.run_end-end.ensures.changes m (targets_differ _ _ e ∙ c.run_end-end.ensures.same (end - 1) (omega arith) (omega arith));
      edges = rw made (edges_more (target_by row) start end c.run_end-end.ensures.after c.run_end-end.ensures.bound run c.loop-start.invariant.changes (map edge_of c.loop-start.edges.items) c.loop-start.invariant.edges);
    }
