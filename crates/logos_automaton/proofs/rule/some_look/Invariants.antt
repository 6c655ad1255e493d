use Rattle.std.proofs.Common.{◌≡◌, drop}
use Rattle.logos_automaton.specs.Rules.{some_look}
use Rattle.logos_automaton.specs.View.{rules_of}
use Rattle.logos_automaton.proofs.rule.some_look.Given as goal

-- the whole is as the rest
abbrev pub invariant-loop-rule : goal.invariant-loop-rule
invariant-loop-rule l = some_look (rules_of (drop l.rule-index l.rules)) ≡ some_look (rules_of l.rules)
