use Rattle.std.proofs.Common.{true, length}
use Rattle.logos_attribute.specs.inside.Steps.{Completes}
use Rattle.logos_attribute.specs.Nested.{pieces_left}
use Rattle.logos_definition.specs.ErrorTypes.{error_arguments_report}
use Rattle.logos_definition.specs.ErrorTypeViews.{error_view}
use Rattle.logos_definition.proofs.error_type.ErrorType.add_arguments.Given as goal

abbrev pub invariant-loop-piece : goal.invariant-loop-piece
invariant-loop-piece l = Completes (error_arguments_report true (pieces_left l.fn.pieces) (error_view l.fn.self)) l.fn.errors (error_arguments_report l.first (pieces_left l.pieces) (error_view l.self)) l.errors

abbrev pub decreases-loop-piece : goal.decreases-loop-piece
decreases-loop-piece l = length (pieces_left l.pieces)
