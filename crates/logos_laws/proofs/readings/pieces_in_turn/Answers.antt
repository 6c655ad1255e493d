use Rattle.logos_laws.proofs.readings.PieceTurns.{are_pieces, only_pieces}
use Rattle.logos_laws.proofs.readings.pieces_in_turn.Goals as goal

pub returns-clause-are : goal.returns-clause-are
returns-clause-are c run = are_pieces run

pub returns-clause-only : goal.returns-clause-only
returns-clause-only c run list h = only_pieces run list h
