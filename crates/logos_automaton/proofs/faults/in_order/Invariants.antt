use Rattle.std.proofs.Common.{◌≡◌, ◌++◌, map}
use Rattle.logos_automaton.specs.Errors.{numbers}
use Rattle.logos_automaton.proofs.faults.in_order.Given as goal

abbrev pub invariant-loop-set : goal.invariant-loop-set
invariant-loop-set l = map (λ set. numbers set.items) l.named.items ++ map (λ v. v.items) l.set-iterator ≡ map (λ v. v.items) l.sets.keys
