use Rattle.logos_type.proofs.DepthLemmas.{exceeds_deeper, exceeds_true}
use Rattle.logos_type.proofs.laws.exceeds_is_deeper.Goals as goal

pub returns : goal.returns
returns c levels tree = (exceeds_deeper levels tree, exceeds_true levels tree)
