use Rattle.std.proofs.Common.{rules}
use Rattle.logos_answers.proofs.DigitLemmas.{few_digits}
use Rattle.logos_answers.proofs.lines.push_number.Goals as goal

pub write_digits-from-requires : goal.write_digits-from-requires
write_digits-from-requires c = (search (rules, few_digits), search rules)
