use Rattle.std.proofs.Common.{ℕ, ◌<◌, List, [], length, sym, subst}
use Rattle.logos_pattern.specs.declared.leaf.Leaf.{Leaf}
use Rattle.logos_automaton.specs.DfaView.{dfa_of}
use Rattle.logos_automaton.specs.Faults.{AreFaults}
use Rattle.logos_graph.specs.FinishedGraph.{NamesLeaves}
use Rattle.logos_graph.specs.View.{rules_of}
use Rattle.logos_automaton.specs.Automaton.{ReadsOneByteLate}
use Rattle.logos_graph.specs.inside.Walk.{MarksOneByteLate}
use Rattle.logos_graph.proofs.Automaton.{no_faults}
use Rattle.logos_graph.proofs.Finished as fin
use Rattle.logos_graph.proofs.FinishedLaws as laws
use Rattle.logos_graph.proofs.graph.construction.finished.Goals as goal
use Rattle.logos_reduce.specs.Table.{size, mark, type_of, edges}

pub finished-requires-clause-fit : goal.finished-requires-clause-fit
finished-requires-clause-fit c =
    let late = subst (λ (xs : List Leaf). ReadsOneByteLate (rules_of xs) (dfa_of c.args.dfa) → AreFaults (rules_of xs) [] → MarksOneByteLate (rules_of xs) (edges c.in_ok-table.table) 0)
    c.deref.ensures.value c.in_ok-table.ensures.late in
    let named = subst (λ (xs : List Leaf). (s : ℕ) → s < size c.in_ok-table.table → NamesLeaves (length xs) (type_of (mark c.in_ok-table.table s)))
    c.deref.ensures.value c.in_ok-table.ensures.named in
    let start = no_faults (rules_of c.args.leaves.items) c.requires.faultless in
    laws.is_fit c.in_ok-table.table 0 c.in_ok-reduced.reduced c.in_ok-reduced.ensures.made c.in_ok-table.ensures.raw (rules_of c.args.leaves.items) start.0 (late c.requires.late c.requires.faultless)
    (length c.args.leaves.items) named

pub returns-clause-graph : goal.returns-clause-graph
returns-clause-graph c =
    let late = subst (λ (xs : List Leaf). ReadsOneByteLate (rules_of xs) (dfa_of c.args.dfa) → AreFaults (rules_of xs) [] → MarksOneByteLate (rules_of xs) (edges c.in_ok-table.table) 0)
    c.deref.ensures.value c.in_ok-table.ensures.late c.requires.late c.requires.faultless in
    let start = no_faults (rules_of c.args.leaves.items) c.requires.faultless in
    let g = c.in_ok-finished.field-0 in
    let table = c.in_ok-table.table in
    let raw = c.in_ok-table.ensures.raw in
    let least = c.in_ok-reduced.reduced in
    let e = c.in_ok-reduced.ensures in
    record {
      leaves_are = c.in_ok-finished.ensures.leaves;
      mode = c.in_ok-finished.ensures.utf8;
      faults_are = subst (AreFaults (rules_of c.args.leaves.items)) (sym c.in_ok-finished.ensures.faults) c.requires.faultless;
      late = λ s. subst (ReadsOneByteLate (rules_of c.args.leaves.items)) (sym c.in_ok-finished.ensures.automaton) c.requires.late;
      finds = λ none. fin.finds table 0 least e.made raw g.states c.in_ok-finished.ensures.shows (rules_of c.args.leaves.items) start.0 late c.args.config.utf8_mode;
      reduced = λ none. laws.is_reduced table 0 least e.made raw e.least e.in_order (e.spareless raw) (e.evidence raw) g.states c.in_ok-finished.ensures.shows (rules_of c.args.leaves.items) late;
      least = λ none. laws.least least.table e.least (e.evidence raw).ends g.states c.in_ok-finished.ensures.shows;
    }
