use Rattle.std.proofs.Common.{◌≡◌, drop}
use Rattle.logos_automaton.specs.Faults.{some_passable}
use Rattle.logos_automaton.specs.View.{rules_of}
use Rattle.logos_automaton.proofs.rule.some_passable.Given as goal

-- the whole is as the rest
abbrev pub invariant-loop-rule : goal.invariant-loop-rule
invariant-loop-rule l = some_passable (rules_of (drop l.rule-index l.rules)) ≡ some_passable (rules_of l.rules)
