use Rattle.std.proofs.Common.{◌≡◌, drop}
use Rattle.logos_automaton.specs.Faults.{some_leads}
use Rattle.logos_automaton.specs.View.{rules_of}
use Rattle.logos_automaton.proofs.rule.some_leads.Given as goal

-- the whole is as the rest
abbrev pub invariant-loop-rule : goal.invariant-loop-rule
invariant-loop-rule l = some_leads (rules_of (drop l.rule-index l.rules)) ≡ some_leads (rules_of l.rules)
