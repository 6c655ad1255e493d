use Rattle.std.proofs.Common.{refl, inr, arith}
use Rattle.logos_attempts.specs.Partials.{partial_line}
use Rattle.logos_attempts.proofs.partial_lines.push_checked.Goals as goal

pub returns : goal.returns
returns c = (
  partial_line c.args.start.leaves.now c.args.start.input.now c.args.start.from c.args.partial.now.leaf c.args.partial.now.end c.as_str.result.now,
  inr (c.args.partial.now.leaf, c.args.partial.now.end, omega (arith, c.if-partial-start.false), omega (arith, c.if-start-partial.false), c.as_str.result.now, refl),
  c.push_line.ensures,
)
