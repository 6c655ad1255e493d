use Rattle.logos_token.specs.Tokens.{none, also, append}
use Rattle.logos_token.specs.Flat.{tokens_in}
use Rattle.logos_token.specs.Views.{tree_of}
use Rattle.logos_token.proofs.reading.RunLemmas.{IsFlat-from_flat, tokens_in-from_flat}
use Rattle.logos_token.proofs.reading.GrowingLemmas.{one-more}
use Rattle.logos_token.proofs.token.views.TokenStream.with_tree.Goals as goal

pub invariant_of-result : goal.invariant_of-result
invariant_of-result c = record { nested = IsFlat-from_flat (append (tokens_in c.args.self.entries.items) (also (tree_of c.args.tree) none)) _ (one-more c.args.self.entries.items c.push_tree.new.entries.items (tree_of c.args.tree) c.args.self.nested c.in_ok-push_tree.ensures) }

pub returns : goal.returns
returns c = tokens_in-from_flat (append (tokens_in c.args.self.entries.items) (also (tree_of c.args.tree) none)) _ (one-more c.args.self.entries.items c.push_tree.new.entries.items (tree_of c.args.tree) c.args.self.nested c.in_ok-push_tree.ensures)
