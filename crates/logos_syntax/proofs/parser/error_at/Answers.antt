use Rattle.std.proofs.Common.{subst}
use Rattle.logos_syntax.specs.inside.Reading.{IfDeepText}
use Rattle.logos_syntax.proofs.parser.error_at.Goals as goal

pub returns-in-LimitPatternNesting-clause-deep : goal.returns-in-LimitPatternNesting-clause-deep
returns-in-LimitPatternNesting-clause-deep c = λ flags t h is. subst (IfDeepText flags t) c.in-LimitPatternNesting.is h
