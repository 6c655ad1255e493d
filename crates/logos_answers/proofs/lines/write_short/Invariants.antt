use Rattle.std.proofs.Common.{◌≡◌, ◌≤◌, ◌+◌, ◌*◌, length}
use Rattle.logos_answers.proofs.lines.write_short.Given as goal

-- each byte takes at most four bytes
abbrev pub invariant-loop-byte : goal.invariant-loop-byte
invariant-loop-byte l = record {
  after : 41 ≤ l.at;
  within : l.at ≤ 105 + 4 * l.byte-index;
  long : length l.line ≡ 347;
}
