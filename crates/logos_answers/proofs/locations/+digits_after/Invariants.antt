use Rattle.std.proofs.Common.{length}
use Rattle.logos_answers.proofs.locations.+digits_after.Given as goal

-- each call takes one digit
abbrev pub decreases-digits_after : goal.decreases-digits_after
decreases-digits_after l = length l.digits.now
