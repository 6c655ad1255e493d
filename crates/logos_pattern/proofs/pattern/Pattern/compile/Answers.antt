use Rattle.std.proofs.Common.{chars}
use Rattle.logos_syntax.specs.Grammar.{first_flags}
use Rattle.logos_syntax.proofs.patterns.Texts.{refused_as}
use Rattle.logos_pattern.proofs.pattern.Pattern.compile.Goals as goal

pub returns-in-Err-clause-complete : goal.returns-in-Err-clause-complete
returns-in-Err-clause-complete c = λ depth small spelled. refused_as (first_flags c.args.unicode c.args.ignore_case) (chars c.args.regex.now) depth c.in-Err.error small spelled c.in-Err.ensures.refused
