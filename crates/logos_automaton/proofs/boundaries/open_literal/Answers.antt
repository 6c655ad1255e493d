use Rattle.std.proofs.Common.{◌+◌, arith}
use Rattle.std.proofs.lemmas.Bool.Decides.{nat_tests}
use Rattle.logos_automaton.proofs.keys.WalkLemmas.{opens_spelled, pass_spelled}
use Rattle.logos_automaton.proofs.boundaries.open_literal.Goals as goal

pub returns-clause-marks : goal.returns-clause-marks
returns-clause-marks c = λ x lt unmarked.
    let m = c.mark_at.ensures x lt unmarked in
    (m.0, opens_spelled c.args.text.now x (x + 1) m.1)

pub returns-clause-passes : goal.returns-clause-passes
returns-clause-passes c = λ h. let e = pass_spelled c.args.text.now h in rw c.is_empty.ensures (rw e (grind (arith, nat_tests)))
