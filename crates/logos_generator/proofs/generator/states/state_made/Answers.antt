use Rattle.std.proofs.Common.{◌≡◌, ◌∙◌, ◌<◌, ap, sym, map}
use Rattle.logos_byte_class.specs.Bytes.{AreSeparated}
use Rattle.logos_graph.specs.FinishedGraph.{Edge}
use Rattle.logos_graph.specs.GraphView.{edge_of}
use Rattle.logos_generator.proofs.SoundLemmas.{All-map-iff}
use Rattle.logos_generator.specs.Numbering.{numbered, loop_uses, fork_uses}
use Rattle.logos_generator.proofs.NumberLemmas.{numbered_both}
use Rattle.logos_generator.proofs.NodeLemmas.{IsLoopOf-later}
use Rattle.logos_generator.proofs.generator.states.state_made.Goals as goal

pub impl_fork-requires-clause-separated : goal.impl_fork-requires-clause-separated
impl_fork-requires-clause-separated c =
    rw c.deref-2.ensures.value ((All-map-iff (λ (edge : Edge). AreSeparated edge.0) edge_of c.args.state.now.normal.items).1 c.requires.separated)

pub impl_fork-requires-clause-targets : goal.impl_fork-requires-clause-targets
impl_fork-requires-clause-targets c =
    rw c.deref-2.ensures.value ((All-map-iff (λ (edge : Edge). edge.1 < 4294967295) edge_of c.args.state.now.normal.items).1 c.requires.targets)

pub returns-clause-is : goal.returns-clause-is
returns-clause-is c = record {
  fast_loop = IsLoopOf-later c.maybe_impl_fast_loop.new.tests.keys c.impl_fork.new.tables.tests.keys c.in_ok-fork.ensures.tests c.args.s
      (map edge_of c.args.state.now.normal.items) _ (rw c.deref.ensures.value at c.in_ok-fast_loop.ensures.is);
  mark = c.mark_made.ensures;
  fork = rw c.deref-2.ensures.value at c.in_ok-fork.ensures.is;
  at_end = c.number_of.ensures;
}

pub returns-clause-numbers : goal.returns-clause-numbers
returns-clause-numbers c =
    let edges = map edge_of c.args.state.now.normal.items in
    let first : c.maybe_impl_fast_loop.new.tests.keys ≡ numbered c.args.tables.now.tests.keys (loop_uses c.args.s edges) = rw c.deref.ensures.value at c.in_ok-fast_loop.ensures.numbers in
    let second : c.impl_fork.new.tables.tests.keys ≡ numbered c.maybe_impl_fast_loop.new.tests.keys (fork_uses c.args.s edges) = rw c.deref-2.ensures.value at c.in_ok-fork.ensures.numbers in
    second ∙ ap (λ tests. numbered tests (fork_uses c.args.s edges)) first ∙ sym (numbered_both c.args.tables.now.tests.keys (loop_uses c.args.s edges) (fork_uses c.args.s edges))

pub returns-clause-tables : goal.returns-clause-tables
returns-clause-tables c = rw c.deref-2.ensures.value at c.in_ok-fork.ensures.tables
