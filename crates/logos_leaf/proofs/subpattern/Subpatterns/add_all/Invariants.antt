use Rattle.std.proofs.Common.{List, [], map, drop}
use Rattle.logos_token.specs.Faults.{Fault}
use Rattle.logos_attribute.specs.LiteralViews.{named_literal_view}
use Rattle.logos_leaf.specs.subpattern.Substitution.{Stored}
use Rattle.logos_leaf.specs.subpattern.Subpatterns.{AreAdded}
use Rattle.logos_leaf.specs.subpattern.SubpatternViews.{names_of}
use Rattle.logos_leaf.proofs.subpattern.Subpatterns.add_all.Given as goal

abbrev pub invariant-loop-named : goal.invariant-loop-named
invariant-loop-named l = (after : List Stored) (new : List Fault) →
    AreAdded l.utf8_mode (map named_literal_view (drop l.named-index l.list)) (names_of l.subpatterns) after l.errors new →
    AreAdded l.utf8_mode (map named_literal_view l.list) [] after l.fn.errors new
