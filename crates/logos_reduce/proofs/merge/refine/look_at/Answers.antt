use Rattle.std.proofs.Common.{arith, slice_index}
use Rattle.logos_reduce.proofs.merging.HitLemmas.{sources-found}
use Rattle.logos_reduce.proofs.merge.refine.look_at.Goals as goal

pub split_by_block-requires-clause-sources : goal.split_by_block-requires-clause-sources
split_by_block-requires-clause-sources c =
    sources-found c.args.table.now (slice_index c.args.parts.filing.blocks.items) c.args.edges.now.from.items c.in_ok-sources.sources.items c.args.b c.requires.from
    (λ t s l e h. c.in_ok-sources.ensures t s (let same = c.requires.len in omega (arith, same)) e h)
