use Rattle.std.proofs.Common.{rules, arith}
use Rattle.logos_json.proofs.QuietLemmas.{quiet_decimal}
use Rattle.logos_json.proofs.lines.JsonLines.number.Goals as goal

pub returns-then-is_err : goal.returns-then-is_err
returns-then-is_err c = record { before = search rules; whole = search rules; quiet = (quiet_decimal c.args.value (omega (arith, c.ranges.value.fits)), tt) }

pub returns-else-is_err : goal.returns-else-is_err
returns-else-is_err c = record { before = search rules; whole = search rules; quiet = (quiet_decimal c.args.value (omega (arith, c.ranges.value.fits)), tt) }
