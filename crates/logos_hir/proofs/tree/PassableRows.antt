-- Trees that can be passed without a byte, by example.
use Rattle.std.proofs.Common.{◌≡◌, true, false, [], None, refl}
use Rattle.logos_hir.specs.Tree.{char_class, capture, repetition}
use Rattle.logos_hir.specs.Passable.{passable}

-- `([a&&b])*`: a class without a member may be left out
pub passable-star : passable (repetition 0 None true (capture (char_class []))) ≡ true
passable-star = refl

-- `([a&&b])+`: it may not
pub passable-plus : passable (repetition 1 None true (capture (char_class []))) ≡ false
passable-plus = refl
