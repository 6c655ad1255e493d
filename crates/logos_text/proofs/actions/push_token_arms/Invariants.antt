use Rattle.std.proofs.Common.{drop}
use Rattle.std.specs.List.{flat_map}
use Rattle.logos_text.specs.declared.sink.Sink.{Sink}
use Rattle.logos_text.specs.Pieces.{Notes}
use Rattle.logos_text.specs.Runs.{plain_leaf_runs}
use Rattle.logos_text.proofs.actions.push_token_arms.Given as goal

abbrev pub invariant-loop-n : goal.invariant-loop-n
invariant-loop-n l = (whole : Sink) → Notes (flat_map (plain_leaf_runs l.name) (drop l.n l.leaves)) l.sink whole → Notes (flat_map (plain_leaf_runs l.name) l.leaves) l.initial.sink whole
