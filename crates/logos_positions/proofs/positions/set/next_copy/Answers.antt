use Rattle.std.proofs.Common.{◌≡◌, ◌+◌, ◌-◌, ◌*◌, arith, subst}
use Rattle.logos_positions.specs.Marks.{Has}
use Rattle.logos_positions.proofs.positions.set.next_copy.Goals as goal

pub returns-clause-unmarked : goal.returns-clause-unmarked
returns-clause-unmarked c = λ q lo hi has.
    let each = c.args.copies.each in
    let k : c.args.copies.base + q ≡ c.args.copies.base + each * c.args.done + (q - each * c.args.done) = omega (arith, lo) in
    c.empty_copies.ensures.unmarked (q - each * c.args.done) (omega (arith, lo, hi)) (subst (Has c.args.marks.now) k has)
