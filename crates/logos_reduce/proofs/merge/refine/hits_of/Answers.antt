use Rattle.std.proofs.Common.{◌≡◌, ℕ, arith, slice_index, length, ap, ◌∙◌, Vec, Global}
use Rattle.logos_reduce.specs.Merge.{target_block}
use Rattle.logos_reduce.specs.Table.{size}
use Rattle.logos_reduce.proofs.merging.HitLemmas.{hits-taken, hits-skipped, hits-all}
use Rattle.logos_reduce.proofs.merge.refine.hits_of.Goals as goal
use Rattle.logos_reduce.proofs.merge.refine.hits_of.Goals.{then-leads_into+in_ok-push, else-leads_into}

pub loop-s-preserved : goal.loop-s-preserved
loop-s-preserved c =
    let n = size c.args.table.now in
    let lead = target_block c.args.table.now (slice_index c.args.blocks.now.items) in
    let sources = c.args.by.now.sources.items in
    let i = c.loop-s.s-index in
    let same = c.deref-s-items.ensures.value in
    elim c.if-leads_into.branch [
      | then-leads_into+in_ok-push w ↦ hits-taken n i lead sources c.loop-s.hits.items _ c.args.by.now.block c.args.k c.loop-s.invariant (rw same at (c.leads_into.ensures.0 w.if-leads_into.true)) (ap (λ (v : Vec ℕ Global). v.items) w.hits-is ∙ (rw same at w.in_ok-push.ensures.items))
      | else-leads_into w ↦ hits-skipped n i lead sources c.loop-s.hits.items _ c.args.by.now.block c.args.k c.loop-s.invariant (λ q. let q' = c.leads_into.ensures.1 (rw (← same) at q) in absurd (let f = w.if-leads_into.false in cc)) (ap (λ (v : Vec ℕ Global). v.items) w.hits-is)
    ]

pub returns : goal.returns
returns c =
    let same : c.loop-s.s-index ≡ length c.args.by.now.sources.items = omega arith in
    record { hits = hits-all (size c.args.table.now) (target_block c.args.table.now (slice_index c.args.blocks.now.items)) c.args.by.now.sources.items c.loop-s.hits.items c.args.by.now.block c.args.k (rw same at c.loop-s.invariant) }
