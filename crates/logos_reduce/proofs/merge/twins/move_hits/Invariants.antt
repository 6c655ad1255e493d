use Rattle.std.proofs.Common.{◌≡◌, vec_len}
use Rattle.logos_reduce.specs.inside.Lists.{HaveMoved}
use Rattle.logos_reduce.proofs.merge.twins.move_hits.Given as goal

abbrev pub invariant-loop-s : goal.invariant-loop-s
invariant-loop-s l = (vec_len l.filing.blocks ≡ vec_len l.initial.filing.blocks) × (vec_len l.filing.lists ≡ vec_len l.initial.filing.lists) × HaveMoved (vec_len l.initial.filing.blocks) l.s-index l.fresh l.initial.filing.blocks.items l.filing.blocks.items l.twins.items l.hits.items l.filing.lists.items
