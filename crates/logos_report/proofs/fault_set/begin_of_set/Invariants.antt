use Rattle.logos_report.proofs.fault_set.begin_of_set.Given as goal

abbrev pub decreases-loop-from : goal.decreases-loop-from
decreases-loop-from l = l.from
