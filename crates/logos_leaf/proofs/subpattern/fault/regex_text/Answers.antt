use Rattle.std.proofs.Common.{append_assoc}
use Rattle.logos_leaf.proofs.subpattern.fault.regex_text.Goals as goal

pub returns : goal.returns
returns c = rw append_assoc (rw c.kind_name-name.ensures at c.in_ok-text.ensures.ok)
