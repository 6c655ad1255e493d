use Rattle.std.proofs.Common.{◌≡◌, arith, vec_len, slice_index, length}
use Rattle.logos_reduce.specs.inside.Merge.{AreTwins, IsExtension}
use Rattle.logos_reduce.specs.inside.Lists.{HaveMoved}
use Rattle.logos_reduce.specs.Table.{size}
use Rattle.logos_reduce.proofs.merging.HitLemmas.{extension-hits, sources-stay}
use Rattle.logos_reduce.proofs.merging.HistoryLemmas.{sound-extended, finer-extended}
use Rattle.logos_reduce.proofs.merge.refine.split_by_symbol.Goals as goal

extension : (c : goal.After-drop-hits-2) →
    IsExtension c.args.table.now c.args.parts.cuts.splits.items c.in_ok-split.split.cuts.splits.items (slice_index c.args.parts.filing.blocks.items) (slice_index c.in_ok-split.split.filing.blocks.items)
extension c =
    let w = c.args.parts in
    let x = c.in_ok-split.split in
    let hits = c.in_ok-hits.hits in
    let states : vec_len w.filing.blocks ≡ size c.args.table.now = c.requires.len in
    let many : vec_len hits ≡ length hits.items = omega arith in
    let first : vec_len w.cuts.splits ≡ length w.cuts.splits.items = omega arith in
    let moved : HaveMoved (size c.args.table.now) (length hits.items) (length w.cuts.splits.items) w.filing.blocks.items x.filing.blocks.items x.cuts.twins.items hits.items x.filing.lists.items =
    rw (← states, ← many, ← first) c.in_ok-split.ensures.moved in
    let twins : AreTwins (length w.cuts.splits.items) c.args.k x.cuts.twins.items x.cuts.splits.items = rw (← first) c.in_ok-split.ensures.twins in
    extension-hits c.args.table.now w.cuts.splits.items x.cuts.splits.items w.filing.blocks.items x.filing.blocks.items x.cuts.twins.items hits.items c.args.by.now.sources.items x.filing.lists.items c.args.by.now.block c.args.k
    moved twins c.in_ok-split.ensures.continues (λ s l. let b = w.within s (omega arith) in omega arith) (λ s l. let b = x.within s (omega (arith, c.in_ok-split.ensures.len)) in omega arith)
    c.in_ok-hits.ensures.hits c.requires.sources

pub returns-clause-sound : goal.returns-clause-sound
returns-clause-sound c = sound-extended c.args.table.now _ _ _ _ (omega arith) c.requires.sound (extension c)

pub returns-clause-finer : goal.returns-clause-finer
returns-clause-finer c = finer-extended c.args.table.now _ _ _ _ (extension c)

pub returns-clause-sources : goal.returns-clause-sources
returns-clause-sources c = sources-stay c.args.table.now _ _ _ _ c.args.by.now.sources.items c.args.by.now.block (omega arith) (extension c) c.requires.sources
