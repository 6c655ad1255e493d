use Rattle.std.proofs.Common.{rules}
use Rattle.logos_enum.proofs.RuleLemmas.{IsRestOf-token, IsRestOf-join}
use Rattle.logos_enum.proofs.attributes.skip_attribute.Goals as goal

pub returns-in_ok-skip_brackets-in-Some-Punct-default-clause-front : goal.returns-in_ok-skip_brackets-in-Some-Punct-default-clause-front
returns-in_ok-skip_brackets-in-Some-Punct-default-clause-front c =
    IsRestOf-join _ _ _ (IsRestOf-token _ _ _ c.in-Some-Punct-default.ensures) c.in_ok-skip_brackets-in-Some-Punct-default.ensures.front

pub returns-in-Some-Doc-default-clause-front : goal.returns-in-Some-Doc-default-clause-front
returns-in-Some-Doc-default-clause-front c = search (rules, IsRestOf-token)
