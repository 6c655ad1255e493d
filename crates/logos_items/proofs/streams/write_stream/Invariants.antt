use Rattle.std.proofs.Common.{◌≡◌}
use Rattle.logos_items.proofs.streams.write_stream.Given as goal

-- code and callback stay
abbrev pub invariant-loop : goal.invariant-loop
invariant-loop g l = record {
  same_code : l.stream.code ≡ l.fn.stream.code;
  same_callback : l.stream.callback ≡ l.fn.stream.callback;
}
