-- The views of subpatterns in contracts.
use Rattle.std.specs.Prelude.{List, map}
use Rattle.logos_leaf.specs.declared.subpattern.Subpatterns.{Subpatterns}
use Rattle.logos_leaf.specs.subpattern.StoredViews.{stored_of}
use Rattle.logos_leaf.specs.subpattern.Substitution.{Stored}

-- The subpatterns, in the order in which their names first occur.
abbrev pub names_of : Subpatterns → List Stored
names_of s = map stored_of s.list.items
