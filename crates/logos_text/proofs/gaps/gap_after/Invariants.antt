use Rattle.std.proofs.Common.{◌≡◌, []}
use denote.Shadow.{shadow}
use denote.Text.{Utf8}
use Rattle.logos_token.specs.Tokens.{count_of}
use Rattle.logos_token.specs.Views.{tokens_of}
use Rattle.logos_text.specs.Gaps.{gap_after}
use Rattle.logos_text.proofs.gaps.gap_after.Given as goal

-- the gap after the rest is that after the whole
abbrev pub invariant-loop-tree : goal.invariant-loop-tree
invariant-loop-tree l = shadow (Utf8 l.gap) × (gap_after l.gap (tokens_of l.rest) ≡ gap_after [] (tokens_of l.tokens))

abbrev pub decreases-loop-tree : goal.decreases-loop-tree
decreases-loop-tree l = count_of (tokens_of l.rest)
