use Rattle.std.proofs.Common.{length}
use Rattle.logos_attribute.specs.inside.Steps.{Completes}
use Rattle.logos_leaf.specs.subpattern.Substitution.{parts, parts_report, nothing_yet}
use Rattle.logos_leaf.specs.subpattern.SubpatternViews.{names_of}
use Rattle.logos_leaf.specs.subpattern.inside.Parts.{text_view}
use Rattle.logos_leaf.proofs.subpattern.substitution.put_together.Given as goal

abbrev pub invariant-loop-part : goal.invariant-loop-part
invariant-loop-part l = Completes (parts_report (names_of l.lookup.subpatterns.now) l.lookup.span (parts 0 l.characters) nothing_yet) l.fn.errors (parts_report (names_of l.lookup.subpatterns.now) l.lookup.span (parts 0 l.rest) (text_view l.text)) l.errors

abbrev pub decreases-loop-part : goal.decreases-loop-part
decreases-loop-part l = length l.rest
