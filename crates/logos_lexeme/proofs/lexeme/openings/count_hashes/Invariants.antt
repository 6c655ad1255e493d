use Rattle.std.proofs.Common.{◌≡◌, ℕ, ◌+◌, ◌-◌, ◌<◌, ◌≤◌, get_or}
use Rattle.logos_lexeme.proofs.lexeme.openings.count_hashes.Given as goal

abbrev pub invariant-loop-count : goal.invariant-loop-count
invariant-loop-count l = record { few : l.count ≤ 256; all : (k : ℕ) → k < l.count → get_or l.source (l.from + k) 0 ≡ 35 }

abbrev pub decreases-loop-count : goal.decreases-loop-count
decreases-loop-count l = 256 - l.count
