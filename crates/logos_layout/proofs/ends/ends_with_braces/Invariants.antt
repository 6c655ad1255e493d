use Rattle.logos_token.specs.Tokens.{count_of}
use Rattle.logos_token.specs.Views.{tokens_of}
use Rattle.logos_layout.specs.Layout.{EndsWithBraces}
use Rattle.logos_layout.proofs.ends.ends_with_braces.Given as goal

-- the rest decides
abbrev pub invariant-loop-tree : goal.invariant-loop-tree
invariant-loop-tree l = EndsWithBraces l.to (tokens_of l.rest) → EndsWithBraces l.to (tokens_of l.run)

abbrev pub decreases-loop-tree : goal.decreases-loop-tree
decreases-loop-tree l = count_of (tokens_of l.rest)
