use Rattle.std.proofs.Common.{◌≡◌, ◌∙◌, Bool, true, false, not, true≢false, refl}
use Rattle.logos_positions.proofs.steps.SteppedLemmas.{stepped_byte}
use Rattle.logos_positions.proofs.positions.step.step_byte.Goals as goal

from_not : (b : Bool) → not b ≡ false → b ≡ true
from_not true e = refl
from_not false e = absurd (true≢false e)

pub returns : goal.returns
returns c = λ k test is.
    rw c.in_ok-push.ensures.items
    (stepped_byte test c.args.by.byte c.args.by.marks.now k c.args.next.now.items c.args.spot.base c.args.spot.entered c.has_mark-left.result c.requires.set
    (from_not _ c.if-not-spot.false) (is ∙ c.if-not-fits.false) c.has_mark-left.ensures)
