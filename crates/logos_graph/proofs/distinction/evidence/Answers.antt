use Rattle.std.proofs.Common.{◌≡◌, ◌<◌, List, ℕ, Some, false, ap, subst, sym, ◌∙◌, arith}
use Rattle.std.proofs.lemmas.List.{get_or_default}
use Rattle.logos_reduce.specs.Merge.{split_at}
use Rattle.logos_reduce.specs.Evidence.{IsEvidence}
use Rattle.logos_reduce.specs.declared.merge.blocks.Split.{Split}
use Rattle.logos_reduce.proofs.words.EvidenceLemmas.{IsStage, with_history, first_stage, shown_by_marks, shown_by_end, shown_by_byte, next_stage, still_apart, stage_short, symbol_in}
use Rattle.logos_graph.proofs.distinction.evidence.Goals as goal

pub loop-k-init : goal.loop-k-init
loop-k-init c = λ h.
    let r = c.args.reduced.now in
    subst (λ (bytes : List ℕ). IsStage r h c.args.s c.args.t bytes c.args.s c.args.t) (sym c.new-bytes.ensures.items)
    (first_stage r (with_history r c.requires.evidence h) c.args.s c.args.t c.requires.s_in c.requires.t_in c.requires.different)

pub parted_at-requires-clause-s_in : goal.parted_at-requires-clause-s_in
parted_at-requires-clause-s_in c = (c.loop-k.invariant c.requires.evidence.history).left_in

pub parted_at-requires-clause-t_in : goal.parted_at-requires-clause-t_in
parted_at-requires-clause-t_in c = (c.loop-k.invariant c.requires.evidence.history).right_in

pub parted_at-requires-clause-different : goal.parted_at-requires-clause-different
parted_at-requires-clause-different c = still_apart c.args.reduced.now c.requires.evidence c.args.s c.args.t _ _ _ (c.loop-k.invariant c.requires.evidence.history)

pub returns-in_default : goal.returns-in_default
returns-in_default c =
    let r = c.args.reduced.now in
    let here : c.index-split.result.now ≡ split_at r.splits.items c.parted_at.result = c.index-split.ensures ∙ get_or_default r.splits.items c.parted_at.result _ _ c.parted_at.ensures.inside in
    shown_by_marks r c.requires.evidence c.args.s c.args.t _ c.loop-k.left c.loop-k.right c.parted_at.result (c.loop-k.invariant c.requires.evidence.history) c.parted_at.ensures (ap (λ (x : Split). x.symbol) (sym here) ∙ c.in_default.is)

pub returns-then-k-eq-END : goal.returns-then-k-eq-END
returns-then-k-eq-END c =
    let r = c.args.reduced.now in
    let here : c.index-split.result.now ≡ split_at r.splits.items c.parted_at.result = c.index-split.ensures ∙ get_or_default r.splits.items c.parted_at.result _ _ c.parted_at.ensures.inside in
    let by : (split_at r.splits.items c.parted_at.result).symbol ≡ Some c.in-Some.k = ap (λ (x : Split). x.symbol) (sym here) ∙ c.in-Some.is in
    shown_by_end r c.requires.evidence c.args.s c.args.t _ c.loop-k.left c.loop-k.right c.parted_at.result (c.loop-k.invariant c.requires.evidence.history) c.parted_at.ensures c.in-Some.k by c.if-k-eq-END.true

pub overflow_cast-k : goal.overflow_cast-k
overflow_cast-k c =
    let r = c.args.reduced.now in
    let here : c.index-split.result.now ≡ split_at r.splits.items c.parted_at.result = c.index-split.ensures ∙ get_or_default r.splits.items c.parted_at.result _ _ c.parted_at.ensures.inside in
    let by : (split_at r.splits.items c.parted_at.result).symbol ≡ Some c.in-Some.k = ap (λ (x : Split). x.symbol) (sym here) ∙ c.in-Some.is in
    let small = symbol_in r c.requires.evidence c.args.s c.args.t _ c.loop-k.left c.loop-k.right c.parted_at.result (c.loop-k.invariant c.requires.evidence.history) c.parted_at.ensures c.in-Some.k by in
    let byte : c.in-Some.k < 256 = grind (arith, small, c.if-k-eq-END.false) in
    omega (arith, byte)

pub both_targets-requires-clause-s_in : goal.both_targets-requires-clause-s_in
both_targets-requires-clause-s_in c = (c.loop-k.invariant c.requires.evidence.history).left_in

pub both_targets-requires-clause-t_in : goal.both_targets-requires-clause-t_in
both_targets-requires-clause-t_in c = (c.loop-k.invariant c.requires.evidence.history).right_in

pub both_targets-requires-clause-k_in : goal.both_targets-requires-clause-k_in
both_targets-requires-clause-k_in c =
    let r = c.args.reduced.now in
    let here : c.index-split.result.now ≡ split_at r.splits.items c.parted_at.result = c.index-split.ensures ∙ get_or_default r.splits.items c.parted_at.result _ _ c.parted_at.ensures.inside in
    let by : (split_at r.splits.items c.parted_at.result).symbol ≡ Some c.in-Some.k = ap (λ (x : Split). x.symbol) (sym here) ∙ c.in-Some.is in
    let small = symbol_in r c.requires.evidence c.args.s c.args.t _ c.loop-k.left c.loop-k.right c.parted_at.result (c.loop-k.invariant c.requires.evidence.history) c.parted_at.ensures c.in-Some.k by in
    let byte : c.in-Some.k < 256 = grind (arith, small, c.if-k-eq-END.false) in
    omega (arith, byte)

pub returns-in_default-both_targets : goal.returns-in_default-both_targets
returns-in_default-both_targets c =
    let r = c.args.reduced.now in
    let here : c.index-split.result.now ≡ split_at r.splits.items c.parted_at.result = c.index-split.ensures ∙ get_or_default r.splits.items c.parted_at.result _ _ c.parted_at.ensures.inside in
    let by : (split_at r.splits.items c.parted_at.result).symbol ≡ Some c.in-Some.k = ap (λ (x : Split). x.symbol) (sym here) ∙ c.in-Some.is in
    let small = symbol_in r c.requires.evidence c.args.s c.args.t _ c.loop-k.left c.loop-k.right c.parted_at.result (c.loop-k.invariant c.requires.evidence.history) c.parted_at.ensures c.in-Some.k by in
    let byte : c.in-Some.k < 256 = grind (arith, small, c.if-k-eq-END.false) in
    subst (λ (bytes : List ℕ). IsEvidence r.table c.args.s c.args.t bytes false) (sym c.in_ok-push.ensures.items)
    (shown_by_byte r c.requires.evidence c.args.s c.args.t _ c.loop-k.left c.loop-k.right c.parted_at.result (c.loop-k.invariant c.requires.evidence.history) c.parted_at.ensures c.in-Some.k by byte c.in_default-both_targets.ensures)

pub loop-k-smaller : goal.loop-k-smaller
loop-k-smaller c =
    let w = stage_short c.args.reduced.now c.requires.evidence c.args.s c.args.t _ _ _ (c.loop-k.invariant c.requires.evidence.history) in
    omega (arith, w, c.in_ok-push.ensures.len)

pub loop-k-preserved : goal.loop-k-preserved
loop-k-preserved c = λ h.
    let r = c.args.reduced.now in
    let here : c.index-split.result.now ≡ split_at r.splits.items c.parted_at.result = c.index-split.ensures ∙ get_or_default r.splits.items c.parted_at.result _ _ c.parted_at.ensures.inside in
    let by : (split_at r.splits.items c.parted_at.result).symbol ≡ Some c.in-Some.k = ap (λ (x : Split). x.symbol) (sym here) ∙ c.in-Some.is in
    let small = symbol_in r c.requires.evidence c.args.s c.args.t _ c.loop-k.left c.loop-k.right c.parted_at.result (c.loop-k.invariant c.requires.evidence.history) c.parted_at.ensures c.in-Some.k by in
    let byte : c.in-Some.k < 256 = grind (arith, small, c.if-k-eq-END.false) in
    subst (λ (bytes : List ℕ). IsStage r h c.args.s c.args.t bytes c.in-Some-both_targets.a c.in-Some-both_targets.b) (sym c.in_ok-push.ensures.items)
    (next_stage r (with_history r c.requires.evidence h) c.args.s c.args.t _ c.loop-k.left c.loop-k.right c.parted_at.result (c.loop-k.invariant h) c.parted_at.ensures c.in-Some.k c.in-Some-both_targets.a c.in-Some-both_targets.b by byte
    c.in-Some-both_targets.ensures.0 c.in-Some-both_targets.ensures.1)
