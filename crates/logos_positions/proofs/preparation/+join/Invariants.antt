use Rattle.std.proofs.Common.{vec_len}
use Rattle.logos_positions.proofs.preparation.+join.Given as goal

abbrev pub decreases-join : goal.decreases-join
decreases-join l = vec_len l.nodes
