use Rattle.std.proofs.Common.{◌≡◌, ℕ, ◌+◌, ◌-◌, ◌<◌, ◌==◌, false, IsTrue, [], length, sym, ◌∙◌, arith, eqb-true}
use Rattle.std.proofs.lemmas.List.{nil_from_length}
use Rattle.std.proofs.lemmas.Bool.Decides.{nat_tests}
use Rattle.logos_positions.specs.Marks.{Has}
use Rattle.logos_positions.proofs.steps.StepLemmas.{iff_trans, iff_refl}
use Rattle.logos_positions.proofs.steps.JumpLemmas.{exits_spelled}
use Rattle.logos_positions.proofs.positions.exits.exits_literal.Goals as goal

pub returns-then-is_empty : goal.returns-then-is_empty
returns-then-is_empty c = λ test.
    let none : c.args.text.now ≡ [] = nil_from_length c.args.text.now (eqb-true _ _ (sym c.is_empty.ensures ∙ c.if-is_empty.true)) in
    rw none (iff_refl (IsTrue c.args.spot.entered))

some_of : (n : ℕ) → (n == 0) ≡ false → 0 < n
some_of n e = grind (arith, nat_tests)

pub returns : goal.returns
returns c = λ test.
    let some : 0 < length c.args.text.now = some_of (length c.args.text.now) (sym c.is_empty.ensures ∙ c.if-is_empty.false) in
    let at : c.args.spot.base + length c.args.text.now - 1 ≡ c.args.spot.base + (length c.args.text.now - 1) = omega arith in
    iff_trans (rw at at c.has_mark.ensures)
    (exits_spelled test (λ q. Has c.args.marks.now (c.args.spot.base + q)) (IsTrue c.args.spot.entered) c.args.text.now some)
