use Rattle.std.proofs.Common.{◌≡◌, ◌≤◌, ◌<◌, ℕ, length}
use Rattle.logos_answers.specs.Offsets.{IsOffsetOf}
use Rattle.logos_answers.proofs.offsets.offset_of.Given as goal

-- no offset so far has the location
abbrev pub invariant-loop-at : goal.invariant-loop-at
invariant-loop-at l = record {
  text : l.cursor.text ≡ l.input;
  before : l.cursor.at ≤ l.at;
  within : l.at ≤ length l.input;
  none : (k : ℕ) → k < l.at → ¬ IsOffsetOf l.input l.location k;
}
