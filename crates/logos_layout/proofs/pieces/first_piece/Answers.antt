use Rattle.std.proofs.Common.{arith}
use Rattle.std.proofs.lemmas.Str.{IsCharBoundary-start}
use Rattle.logos_lexeme.proofs.LexemeLaws.{next_advances, next_boundary}
use Rattle.logos_layout.proofs.pieces.first_piece.Goals as goal

pub lexeme_at-requires-clause-boundary : goal.lexeme_at-requires-clause-boundary
lexeme_at-requires-clause-boundary c = IsCharBoundary-start c.args.text.now c.utf8.text

pub range-requires-clause-end_boundary : goal.range-requires-clause-end_boundary
range-requires-clause-end_boundary c = next_boundary c.utf8.text (IsCharBoundary-start c.args.text.now c.utf8.text) c.in-Ok.ensures.ok

pub range_from-requires : goal.range_from-requires
range_from-requires c = λ _. next_boundary c.utf8.text (IsCharBoundary-start c.args.text.now c.utf8.text) c.in-Ok.ensures.ok

pub returns : goal.returns
returns c =
    let a = next_advances c.in-Ok.ensures.ok in
    omega (arith, a.0, a.1, c.range_from.ensures.len)
