use Rattle.logos_type.proofs.PartLemmas.{leaf_pushed}
use Rattle.logos_type_reader.proofs.reader.add_leaf.Goals as goal

pub returns : goal.returns
returns c = leaf_pushed c.args.parts.now.items c.push.new.self.items c.args.leaf c.in_ok-push.ensures.items
