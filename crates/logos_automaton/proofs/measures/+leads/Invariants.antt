use Rattle.std.proofs.Common.{◌≡◌, map, drop}
use Rattle.logos_hir.specs.Tree.{trees}
use Rattle.logos_hir.specs.Hir.{tree_of}
use Rattle.logos_hir.specs.Passable.{leads_in_order, some_leads}
use Rattle.logos_automaton.proofs.measures.+leads.Given as goal

-- the list leads exactly if the rest does
abbrev pub invariant-leads_in_order-loop-part : goal.invariant-leads_in_order-loop-part
invariant-leads_in_order-loop-part l = leads_in_order (trees (map tree_of (drop l.part-index l.parts))) ≡ leads_in_order (trees (map tree_of l.parts))

-- one leads exactly if one that is left does
abbrev pub invariant-some_leads-loop-branch : goal.invariant-some_leads-loop-branch
invariant-some_leads-loop-branch l = some_leads (trees (map tree_of (drop l.branch-index l.branches))) ≡ some_leads (trees (map tree_of l.branches))
