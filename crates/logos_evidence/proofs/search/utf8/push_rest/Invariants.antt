use Rattle.std.proofs.Common.{◌≡◌, ◌++◌}
use Rattle.logos_evidence.specs.search.Rests.{completion}
use Rattle.logos_evidence.proofs.search.utf8.push_rest.Given as goal

-- a result for the rest completes to a result for the whole
abbrev pub invariant-loop-rest : goal.invariant-loop-rest
invariant-loop-rest l = l.bytes.items ++ completion l.rest ≡ l.initial.bytes.items ++ completion l.fn.rest

abbrev pub decreases-loop-rest : goal.decreases-loop-rest
decreases-loop-rest l = l.rest.count
