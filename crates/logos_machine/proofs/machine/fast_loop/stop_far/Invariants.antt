use Rattle.std.proofs.Common.{◌≡◌, ◌+◌, ◌-◌, ◌≤◌, length, drop}
use Rattle.std.specs.List.{prefix_len}
use Rattle.logos_code.specs.Bytes.{passes_test}
use Rattle.logos_machine.proofs.machine.fast_loop.stop_far.Given as goal

-- the stop from here on is the one wanted
abbrev pub invariant-loop-block : goal.invariant-loop-block
invariant-loop-block l = record {
  same : l.from + prefix_len (passes_test l.code.bit_tables l.test) (drop l.from l.input) ≡ l.at + prefix_len (passes_test l.code.bit_tables l.test) (drop l.at l.input);
  within : l.at ≤ length l.input;
}

abbrev pub decreases-loop-block : goal.decreases-loop-block
decreases-loop-block l = length l.input - l.at
