use Rattle.std.proofs.Common.{◌+◌, ◌*◌, map}
use Rattle.logos_token.specs.Tokens.{count_of}
use Rattle.logos_token.specs.Views.{tokens_of}
use Rattle.logos_type.specs.Parts.{tree_of}
use Rattle.logos_type_reader.specs.ReadingViews.{spot_of, spot_left}
use Rattle.logos_type_reader.proofs.ReadingLemmas.{Remains}
use Rattle.logos_type_reader.proofs.reader.+types.Given as goal

abbrev pub decreases-type_at : goal.decreases-type_at
decreases-type_at l = 12 * count_of (tokens_of l.tokens) + 1

abbrev pub decreases-formed_at : goal.decreases-formed_at
decreases-formed_at l = 12 * count_of (tokens_of l.tokens)

abbrev pub decreases-parts_at : goal.decreases-parts_at
decreases-parts_at l = 6 * spot_left (spot_of l.from) + 5

abbrev pub decreases-move_on : goal.decreases-move_on
decreases-move_on l = 6 * spot_left (spot_of l.spot) + 4

abbrev pub decreases-make_step : goal.decreases-make_step
decreases-make_step l = 6 * spot_left (spot_of l.spot) + 3

abbrev pub decreases-move_past_type : goal.decreases-move_past_type
decreases-move_past_type l = 6 * spot_left (spot_of l.spot) + 2

abbrev pub decreases-move_past_still_type : goal.decreases-move_past_still_type
decreases-move_past_still_type l = 6 * spot_left (spot_of l.spot) + 2

abbrev pub decreases-move_past_nest : goal.decreases-move_past_nest
decreases-move_past_nest l = 6 * spot_left (spot_of l.spot) + 2

abbrev pub invariant-parts_at-loop-bars : goal.invariant-parts_at-loop-bars
invariant-parts_at-loop-bars l = Remains l.levels (spot_of l.fn.from) (map tree_of l.fn.parts.items) (map tree_of l.parts.items) l.barred (spot_of l.spot)

abbrev pub decreases-parts_at-loop-bars : goal.decreases-parts_at-loop-bars
decreases-parts_at-loop-bars l = spot_left (spot_of l.spot)
