use Rattle.logos_syntax.proofs.patterns.Texts.{one}
use Rattle.logos_syntax.proofs.parser.one_tree.Goals as goal

pub returns : goal.returns
returns c = one
