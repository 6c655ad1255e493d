use Rattle.std.proofs.Common.{refl, rules}
use Rattle.logos_syntax.proofs.bracket.stack.Frames.item.Goals as goal

pub returns : goal.returns
returns c = (search rules, rw c.in_ok-push_item.ensures refl)
