use Rattle.logos_causes.proofs.quotes.front_of.Given as goal

abbrev pub decreases-loop-end : goal.decreases-loop-end
decreases-loop-end l = l.end
