-- The views of rules in contracts.
use Rattle.std.specs.Prelude.{List, map}
use Rattle.logos_hir.specs.Hir.{tree_of}
use Rattle.logos_automaton.specs.Munch.{Rule}
use Rattle.logos_automaton.specs.declared.rule.RuleView.{RuleView}

-- The rule that a value of type `RuleView` represents.
abbrev pub rule_of : RuleView → Rule
rule_of view = record { tree = tree_of view.tree.now; priority = view.priority; use_of = record { skips = view.skips; calls_back = view.calls_back } }

-- The rules that an argument represents.
abbrev pub rules_of : List RuleView → List Rule
rules_of = map rule_of
