-- Lists of trees, one after another.
use Rattle.std.proofs.Common.{ℕ, suc}
use Rattle.logos_hir.specs.Tree.{Trees, none, also}

abbrev pub join_trees : Trees → Trees → Trees
join_trees none us = us
join_trees (also t ts) us = also t (join_trees ts us)

abbrev pub count_trees : Trees → ℕ
count_trees none = 0
count_trees (also t ts) = suc (count_trees ts)
