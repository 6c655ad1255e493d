use Rattle.std.proofs.Common.{append_assoc}
use Rattle.logos_leaf.proofs.subpattern.utf8_text.Goals as goal

pub returns : goal.returns
returns c = simp append_assoc (rw c.token.ensures at c.in_ok-text.ensures.ok)
