use Rattle.std.proofs.Common.{ℕ, ltb, leb, take, drop, length, ◌-◌, rules}
use Rattle.std.proofs.lemmas.List.Sorted.{IsPartitionPoint-from_clause, IsPartitionedBy-ltb, IsPartitionedBy-leb, IsNonDecreasingBy-take, IsNonDecreasingBy-drop}
use Rattle.logos_hir.proofs.lemmas.FoldLemmas.{within_parts}
use Rattle.logos_hir.proofs.case_folding.within.Goals as goal

pub returns : goal.returns
returns c = λ x.
    let xs = c.args.table.now in
    let i = c.partition_point.result in
    let rest = take (length xs - i) (drop i xs) in
    let key = λ (p : ℕ × ℕ). p.0 in
    let sorted = IsNonDecreasingBy-take key (length xs - i) (drop i xs) (IsNonDecreasingBy-drop key i xs c.requires) in
    within_parts xs c.args.range.first c.args.range.last i c.partition_point-2.result x
    (IsPartitionPoint-from_clause (λ (p : ℕ × ℕ). ltb p.0 c.args.range.first) xs i c.partition_point.ensures.partitioned (IsPartitionedBy-ltb key xs c.args.range.first c.requires) (λ a r q k. search rules))
    (IsPartitionPoint-from_clause (λ (p : ℕ × ℕ). leb p.0 c.args.range.last) rest c.partition_point-2.result c.partition_point-2.ensures.partitioned (IsPartitionedBy-leb key rest c.args.range.last sorted) (λ a r q k. search rules))
