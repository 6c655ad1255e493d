use Rattle.std.proofs.Common.{refl}
use Rattle.logos_parser.specs.Endings.{nesting_limit, source_limit, unreadable}
use Rattle.logos_causes.specs.Sets.{unread}
use Rattle.logos_causes.proofs.explanation.explain_unreadable.Goals as goal

pub returns-in-Lexical : goal.returns-in-Lexical
returns-in-Lexical c = unread (unreadable (rw c.in-Lexical.is at c.requires) refl) c.nothing.ensures

pub returns-in-LimitSource : goal.returns-in-LimitSource
returns-in-LimitSource c = unread (source_limit (rw c.in-LimitSource.is at c.requires) refl) c.nothing-in-LimitSource.ensures

pub returns-in-LimitTokenNesting : goal.returns-in-LimitTokenNesting
returns-in-LimitTokenNesting c = unread (nesting_limit (rw c.in-LimitTokenNesting.is at c.requires) refl) c.nothing-in-LimitTokenNesting.ensures
