use Rattle.std.proofs.Common.{◌≡◌, []}
use Rattle.logos_attribute.specs.Nested.{pieces_left}
use Rattle.logos_definition.specs.Arguments.{no_piece, one_more, ends}
use Rattle.logos_definition.proofs.parser.Parser.add_pieces.Goals as goal

pub returns-then-not-branch : goal.returns-then-not-branch
returns-then-not-branch c = c.loop-piece.invariant _ _ (rw c.in-Some.ensures.steps.0 (ends (rw c.if-not-branch.true at c.in_ok-add_piece.ensures)))

pub loop-piece-preserved : goal.loop-piece-preserved
loop-piece-preserved c = λ options faults h. c.loop-piece.invariant options faults (rw c.in-Some.ensures.steps.0 (one_more (rw c.if-not-branch.false at c.in_ok-add_piece.ensures) h))

pub returns : goal.returns
returns c =
    let none : pieces_left c.loop-piece.pieces ≡ [] = c.in_default.ensures.steps.0.0 in
    c.loop-piece.invariant _ _ (rw none no_piece)
