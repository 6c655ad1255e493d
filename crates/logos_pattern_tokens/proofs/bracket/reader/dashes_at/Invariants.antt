use Rattle.std.proofs.Common.{◌≡◌, ◌+◌, ◌≤◌, length}
use Rattle.logos_pattern_tokens.specs.bracket.Reader.{dashes_from}
use Rattle.logos_pattern_tokens.proofs.bracket.reader.dashes_at.Given as goal

abbrev pub invariant-loop-rest : goal.invariant-loop-rest
invariant-loop-rest l = (l.count + length l.rest ≤ length l.fn.text) × (dashes_from l.count l.rest ≡ dashes_from 0 l.fn.text)

abbrev pub decreases-loop-rest : goal.decreases-loop-rest
decreases-loop-rest l = length l.rest
