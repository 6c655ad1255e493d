use Rattle.logos_reduce.specs.History.{HistoryOf}
use Rattle.logos_reduce.proofs.words.EvidenceLemmas.{ArePlaced}
use Rattle.logos_graph.proofs.distinction.parted_at.Given as goal

abbrev pub invariant-loop-low : goal.invariant-loop-low
invariant-loop-low l = (h : HistoryOf l.reduced) → ArePlaced l.reduced h l.s l.t l.low l.high

abbrev pub decreases-loop-low : goal.decreases-loop-low
decreases-loop-low l = l.high
