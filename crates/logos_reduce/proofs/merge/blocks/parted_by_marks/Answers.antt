use Rattle.std.proofs.Common.{List, ap, ◌∙◌}
use Rattle.logos_reduce.specs.Merge.{split_at}
use Rattle.logos_reduce.specs.declared.merge.blocks.Split.{Split}
use Rattle.logos_reduce.proofs.tables.PushLemmas.{filled}
use Rattle.logos_reduce.proofs.merge.blocks.parted_by_marks.Goals as goal

pub returns-clause-splits : goal.returns-clause-splits
returns-clause-splits c = λ j.
    let h = c.in_ok-splits.ensures.items_if_clones_equal (λ y e. e) in
    ap (λ (xs : List Split). split_at xs j) h ∙ filled c.args.count j _
