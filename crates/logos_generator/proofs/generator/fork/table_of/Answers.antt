use Rattle.std.proofs.Common.{◌≡◌, ◌∙◌, ℕ, [], ap, map, sym, drop, slice_index, arith}
use Rattle.std.specs.Option.{option_or}
use Rattle.std.proofs.lemmas.List.{get_or-replicate, length-replicate, drop_all}
use Rattle.logos_code.specs.CodeView.{entry_of}
use Rattle.logos_graph.specs.GraphView.{edge_of}
use Rattle.logos_generator.specs.Nodes.{leads_beside}
use Rattle.logos_generator.proofs.ForkLemmas.{or_none}
use Rattle.logos_generator.proofs.NumberLemmas.{jump_table_is}
use Rattle.logos_generator.proofs.generator.fork.table_of.Goals as goal

pub loop-edge-init : goal.loop-edge-init
loop-edge-init c = (length-replicate {A = ℕ} 256 4294967295, λ k h. ap (λ n. option_or (entry_of n) (leads_beside c.args.state (map edge_of c.args.edges.now) k)) (get_or-replicate 256 k 4294967295 0 h))

pub returns-clause-is : goal.returns-clause-is
returns-clause-is c =
    let e : drop c.loop-edge.edge-index c.args.edges.now ≡ [] = drop_all c.loop-edge.edge-index c.args.edges.now (omega (arith, c.loop-edge-test.false)) in
    jump_table_is c.loop-edge.table c.args.state (map edge_of c.args.edges.now) c.loop-edge.invariant.0 (λ b h.
    sym (or_none (entry_of (slice_index c.loop-edge.table b))) ∙ rw e at (c.loop-edge.invariant.1 b h))
