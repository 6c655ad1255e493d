use Rattle.std.proofs.Common.{◌-◌, vec_len}
use Rattle.logos_reduce.specs.Table.{size}
use Rattle.logos_reduce.specs.History.{HistoryOf}
use Rattle.logos_reduce.proofs.words.EvidenceLemmas.{IsStage}
use Rattle.logos_graph.proofs.distinction.evidence.Given as goal

abbrev pub invariant-loop-k : goal.invariant-loop-k
invariant-loop-k l = (h : HistoryOf l.reduced) → IsStage l.reduced h l.s l.t l.bytes.items l.left l.right

abbrev pub decreases-loop-k : goal.decreases-loop-k
decreases-loop-k l = size l.reduced.table - vec_len l.bytes
