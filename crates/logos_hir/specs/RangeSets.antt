-- The set that a `RangeSet` represents.
use Rattle.logos_hir.specs.declared.sets.RangeSet.{RangeSet}
use Rattle.logos_hir.specs.Sets.{Set, members}
use Rattle.logos_hir.specs.Hir.{pairs}

-- The set that a `RangeSet` represents.
abbrev pub set_of : RangeSet → Set
set_of set = members (pairs set.ranges.items)
