use Rattle.std.proofs.Common.{sym, ◌∙◌}
use Rattle.logos_lexeme.proofs.EndLaws.{IsNameStart, name_at-start}
use Rattle.logos_lexeme.proofs.lexeme.ends.suffix_end.Goals as goal

start : (c : goal.In-Some) → IsNameStart c.args.source.now c.args.at c.in-Some.name
start c = name_at-start c.args.source.now c.args.at c.in-Some.name (sym c.name_at.ensures.value ∙ c.in-Some.is)

pub past-requires-clause-inside : goal.past-requires-clause-inside
past-requires-clause-inside c = (start c).begins

pub past-requires-clause-boundary : goal.past-requires-clause-boundary
past-requires-clause-boundary c = (start c).boundary c.utf8.source c.requires
