use Rattle.std.proofs.Common.{rules}
use Rattle.logos_enum.proofs.RuleLemmas.{IsRestOf-token}
use Rattle.logos_enum.proofs.attributes.skip_brackets.Goals as goal

pub returns-in-Ok-clause-front : goal.returns-in-Ok-clause-front
returns-in-Ok-clause-front c = search (rules, IsRestOf-token)
