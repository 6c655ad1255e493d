use Rattle.logos_token.specs.Tokens.{also, none}
use Rattle.logos_token.specs.Views.{tree_of}
use Rattle.logos_attribute.proofs.PieceLemmas.{rest_by}
use Rattle.logos_attribute.proofs.flags.first_printed.Goals as goal

pub before-requires : goal.before-requires
before-requires c = rest_by _ (also (tree_of c.args.tree) none) _ c.requires

pub returns : goal.returns
returns c = rw (c.before-2.ensures (rest_by _ (also (tree_of c.args.tree) none) _ c.requires)) at c.in_ok-text.ensures.text
