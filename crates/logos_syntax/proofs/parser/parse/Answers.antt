use Rattle.std.proofs.Common.{subst, ◌∙◌, chars}
use Rattle.logos_syntax.specs.inside.Reading.{StopsText, IfDeepText}
use Rattle.logos_syntax.proofs.parser.parse.Goals as goal

pub returns-clause-refused : goal.returns-clause-refused
returns-clause-refused c =
    let is = c.deref.ensures.value ∙ c.in_ok-text.ensures in
    c.error_at.ensures.refused c.args.flags (chars c.args.regex.now) (subst (λ t. StopsText c.args.flags t c.in-Err.stop) is c.in-Err.ensures.stopped)

pub returns-clause-deep : goal.returns-clause-deep
returns-clause-deep c =
    let is = c.deref.ensures.value ∙ c.in_ok-text.ensures in
    c.error_at.ensures.deep c.args.flags (chars c.args.regex.now) (subst (λ t. IfDeepText c.args.flags t c.in-Err.stop) is c.in-Err.ensures.deep)
