use Rattle.std.proofs.Common.{rules, ◌≡◌, [], map}
use Rattle.logos_automaton.specs.DfaView.{dfa_of}
use Rattle.logos_automaton.specs.Errors.{fault_of}
use Rattle.logos_graph.proofs.GraphMade.{none_listed, late_without, none_at, refused_graph}
use Rattle.logos_graph.proofs.graph.value.Graph.new.Goals as goal

pub returns-then-not-is_empty-clause-graph : goal.returns-then-not-is_empty-clause-graph
returns-then-not-is_empty-clause-graph c =
    let found = c.in_ok-dfa.field-0 in
    refused_graph c.args.leaves.items c.deref-2.result.now (dfa_of found.dfa) (map fault_of found.errors.items)
    c.deref-2.ensures.value c.in_ok-dfa.ensures.found
    c.args.config.utf8_mode c.refused.result c.refused.ensures (search rules)

pub finished-requires-clause-late : goal.finished-requires-clause-late
finished-requires-clause-late c =
    let found = c.in_ok-dfa.field-0 in
    let none : map fault_of found.errors.items ≡ [] = none_listed fault_of found.errors.items found.errors.len c.is_empty.result found.errors.ok.0 c.is_empty.ensures c.if-not-is_empty.false in
    late_without c.args.leaves.items c.deref-2.result.now (dfa_of found.dfa) (map fault_of found.errors.items)
    c.deref-2.ensures.value c.in_ok-dfa.ensures.found none

pub finished-requires-clause-faultless : goal.finished-requires-clause-faultless
finished-requires-clause-faultless c =
    let found = c.in_ok-dfa.field-0 in
    let none : map fault_of found.errors.items ≡ [] = none_listed fault_of found.errors.items found.errors.len c.is_empty.result found.errors.ok.0 c.is_empty.ensures c.if-not-is_empty.false in
    none_at c.args.leaves.items c.deref-2.result.now (dfa_of found.dfa) (map fault_of found.errors.items)
    c.deref-2.ensures.value c.in_ok-dfa.ensures.found none
