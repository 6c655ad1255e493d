use Rattle.std.proofs.Common.{◌≡◌, ◌<◌, ℕ, None, length, get_or, drop}
use Rattle.logos_answers.specs.Matches.{last_of}
use Rattle.logos_answers.proofs.matches.longest_of.Given as goal

-- with the matches that are left each leaf gets its last one of all
abbrev pub invariant-loop-found : goal.invariant-loop-found
invariant-loop-found l = record {
  long : length l.longest.items ≡ l.count;
  rest : (leaf : ℕ) → leaf < l.count → last_of leaf (get_or l.longest.items leaf None) (drop l.found-index l.matches) ≡ last_of leaf None l.matches;
}
