use Rattle.std.proofs.Common.{List, length}
use Rattle.logos_token.specs.Faults.{Fault}
use Rattle.logos_attribute.specs.Nested.{pieces_left}
use Rattle.logos_definition.specs.Options.{OptionsView}
use Rattle.logos_definition.specs.Arguments.{ReadsPieces}
use Rattle.logos_definition.specs.ParserViews.{parser_view}
use Rattle.logos_definition.proofs.parser.Parser.add_pieces.Given as goal

-- a result for the rest completes to a result for the whole
abbrev pub invariant-loop-piece : goal.invariant-loop-piece
invariant-loop-piece l = (options : OptionsView) (faults : List Fault) →
    ReadsPieces (parser_view l.self) options l.self.errors faults (pieces_left l.pieces) →
    ReadsPieces (parser_view l.fn.self) options l.fn.self.errors faults (pieces_left l.fn.pieces)

abbrev pub decreases-loop-piece : goal.decreases-loop-piece
decreases-loop-piece l = length (pieces_left l.pieces)
