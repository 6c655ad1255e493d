use Rattle.std.proofs.Common.{map}
use Rattle.logos_leaf.specs.LeafViews.{leaf_view}
use Rattle.logos_leaf.proofs.source.leaves_with.Goals as goal

pub returns-clause-made : goal.returns-clause-made
returns-clause-made c = record {
  of_skips = map leaf_view c.add_skips.new.leaves.items;
  faults = c.add_skips.new.errors;
  skips_add = rw (c.replace-skips.ensures.value, c.new-leaves.ensures.items) at c.in_ok-add_skips.ensures;
  variants_add = c.in_ok-add_variants.ensures.given;
}
