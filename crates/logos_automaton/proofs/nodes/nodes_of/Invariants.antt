use Rattle.std.proofs.Common.{List, ◌++◌, map, drop}
use Rattle.logos_positions.specs.Core.{Core}
use Rattle.logos_positions.specs.Node.{core_of, AreMeasured}
use Rattle.logos_automaton.specs.Rules.{AreRuleCores}
use Rattle.logos_automaton.specs.View.{rules_of}
use Rattle.logos_automaton.proofs.nodes.nodes_of.Given as goal

abbrev pub invariant-loop-rule : goal.invariant-loop-rule
invariant-loop-rule l = record {
  cores : (cs : List Core) → AreRuleCores (rules_of (drop l.rule-index l.rules)) cs → AreRuleCores (rules_of l.rules) (map core_of l.nodes.items ++ cs);
  measured : AreMeasured l.nodes.items;
}
