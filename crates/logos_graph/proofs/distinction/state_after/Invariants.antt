use Rattle.std.proofs.Common.{◌≡◌, ◌<◌, Some, drop}
use Rattle.logos_reduce.specs.SymbolWords.{state_after}
use Rattle.logos_reduce.specs.Table.{size}
use Rattle.logos_graph.proofs.distinction.state_after.Given as goal

abbrev pub invariant-loop-b : goal.invariant-loop-b
invariant-loop-b l = (l.at < size l.table) × (state_after l.table (Some l.s) l.bytes ≡ state_after l.table (Some l.at) (drop l.b-index l.bytes))
