use Rattle.std.proofs.Common.{true, length}
use Rattle.logos_attribute.specs.inside.Steps.{Completes}
use Rattle.logos_attribute.specs.Nested.{pieces_left}
use Rattle.logos_definition.specs.Definitions.{arguments_report}
use Rattle.logos_definition.specs.DefinitionViews.{definition_view}
use Rattle.logos_definition.proofs.definition.Definition.add_arguments.Given as goal

abbrev pub invariant-loop-piece : goal.invariant-loop-piece
invariant-loop-piece l = Completes (arguments_report true (pieces_left l.fn.pieces) (definition_view l.fn.self)) l.fn.errors (arguments_report l.first (pieces_left l.pieces) (definition_view l.self)) l.errors

abbrev pub decreases-loop-piece : goal.decreases-loop-piece
decreases-loop-piece l = length (pieces_left l.pieces)
