use Rattle.std.proofs.Common.{◌≡◌, ℕ, ◌+◌, ◌<◌, ◌≤◌, List, [], length, slice_index_or, ap, ◌∙◌, arith}
use Rattle.std.proofs.lemmas.List.{get_or_default, length-set}
use Rattle.logos_reduce.specs.inside.Prune.{met_target}
use Rattle.logos_reduce.specs.Rows.{target_by, target_in}
use Rattle.logos_reduce.proofs.tables.RunLemmas.{set_row}
use Rattle.logos_reduce.proofs.prune.prune_all.Goals as goal

pub loop-i-preserved : goal.loop-i-preserved
loop-i-preserved c =
    let met = met_target c.args.order.now.numbers.items in
    let first = c.args.rows.now.items in
    let old = c.loop-i.rows.items in
    let i = c.loop-i.i in
    let row = c.prune_row.new.row in
    let n = length-set old i row in
    let here : i < length old = omega arith in
    let was : c.index_mut.result.now ≡ slice_index_or first i [] =
    c.index_mut.ensures.value ∙ get_or_default old i c.index_mut.result.now [] here ∙ c.loop-i.invariant.rest i (omega arith) in
    record {
      len = omega (arith, c.loop-i.invariant.len, n);
      wide = λ w j l. set_row (λ j row. j < length old → length row ≡ 257) old i row here (λ l. c.prune_row.ensures.len) (λ j d l. c.loop-i.invariant.wide w j l) j (omega (arith, n, l));
      pruned = λ j k l. set_row (λ j row. j < i + 1 → target_by row k ≡ met (target_in first j k)) old i row here
          (λ l. c.prune_row.ensures.pruned k ∙ ap (λ (row : List ℕ). met (target_by row k)) was)
          (λ j d l. c.loop-i.invariant.pruned j k (omega (arith, d, l))) j l;
      rest = λ j l. set_row (λ j row. i + 1 ≤ j → row ≡ slice_index_or first j []) old i row here
          (λ l. absurd (omega arith))
          (λ j d l. c.loop-i.invariant.rest j (omega (arith, l))) j l;
    }
