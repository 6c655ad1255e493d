use Rattle.logos_leaf.specs.Variants.{holds}
use Rattle.logos_leaf.proofs.variant.value_kind.Goals as goal

pub returns : goal.returns
returns c = holds (rw c.span-span.ensures at c.in_ok-got.ensures.ok)
