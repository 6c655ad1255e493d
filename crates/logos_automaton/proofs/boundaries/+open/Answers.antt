use Rattle.std.proofs.Common.{◌≡◌, ◌+◌, ◌==◌, ℕ, IsTrue, ⊎_elim, ap, ◌∙◌, arith}
use Rattle.std.proofs.lemmas.Bool.{or_left, or_right}
use Rattle.std.proofs.lemmas.Bool.Decides.{nat_tests}
use Rattle.logos_positions.specs.Node.{core_of}
use Rattle.logos_positions.proofs.trees.NodeLemmas.{core-Repeat}
use Rattle.logos_automaton.proofs.keys.WalkLemmas.{opens_repeated, pass_repeated}
use Rattle.logos_automaton.proofs.boundaries.+open.Goals as goal

zero_test : (n : ℕ) → n ≡ 0 → IsTrue (n == 0)
zero_test n e = grind (arith, nat_tests)

pub returns-in-Repeat-clause-marks : goal.returns-in-Repeat-clause-marks
returns-in-Repeat-clause-marks t c = λ x lt unmarked.
    let m = rw c.deref-in-Repeat.ensures at c.open-passed.ensures.marks x lt unmarked in
    (m.0, rw (ap core_of c.in-Repeat.is ∙ core-Repeat _ _ _ _) (opens_repeated x (x + 1) c.in-Repeat.least c.in-Repeat.most (core_of c.in-Repeat.body.value) m.1))

pub returns-in-Repeat-clause-passes : goal.returns-in-Repeat-clause-passes
returns-in-Repeat-clause-passes t c =
    rw (ap core_of c.in-Repeat.is ∙ core-Repeat _ _ _ _)
    (λ h. ⊎_elim (λ e. or_right _ _ (zero_test c.in-Repeat.least e)) (λ p. or_left _ _ (rw c.deref-in-Repeat.ensures at c.open-passed.ensures.passes p))
    (pass_repeated c.in-Repeat.least c.in-Repeat.most (core_of c.in-Repeat.body.value) h))
