use Rattle.std.proofs.Common.{◌+◌, ◌*◌}
use Rattle.logos_token.specs.Tokens.{count_of}
use Rattle.logos_token.specs.Views.{tokens_of}
use Rattle.logos_rust_file.proofs.FindLemmas.{SoFar}
use Rattle.logos_rust_file.proofs.finder.+find.Given as goal

abbrev pub decreases-add_all : goal.decreases-add_all
decreases-add_all l = 2 * count_of (tokens_of l.run) + 1

abbrev pub decreases-add_first : goal.decreases-add_first
decreases-add_first l = 2 * count_of (tokens_of l.tokens)

abbrev pub invariant-add_all-loop-rest : goal.invariant-add_all-loop-rest
invariant-add_all-loop-rest l = SoFar (tokens_of l.run) (tokens_of l.tokens) l.initial.found.items l.found.items

abbrev pub decreases-add_all-loop-rest : goal.decreases-add_all-loop-rest
decreases-add_all-loop-rest l = count_of (tokens_of l.tokens)
