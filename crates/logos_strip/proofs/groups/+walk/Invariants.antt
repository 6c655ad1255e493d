use Rattle.std.proofs.Common.{◌≡◌, ◌+◌, ◌*◌}
use Rattle.logos_token.specs.Tokens.{count_of}
use Rattle.logos_token.specs.Views.{tokens_of}
use Rattle.logos_strip.specs.declared.spots.TokenSpot.TheVariants.{Open}
use Rattle.logos_strip.specs.Stripping.{left, sorted}
use Rattle.logos_strip.specs.inside.Writing.{completed, rank}
use Rattle.logos_strip.proofs.groups.+walk.Given as goal

abbrev pub decreases-keep : goal.decreases-keep
decreases-keep l = 3 * rank l.scope

abbrev pub decreases-strip_run : goal.decreases-strip_run
decreases-strip_run l = 3 * rank l.scope + 1

abbrev pub decreases-keep_group : goal.decreases-keep_group
decreases-keep_group l = 3 * rank l.scope + 2

abbrev pub invariant-strip_run-loop-tree : goal.invariant-strip_run-loop-tree
invariant-strip_run-loop-tree l = completed l.writer (sorted l.scope l.spot (tokens_of l.tokens)) ≡ left (sorted l.scope Open (tokens_of l.run))

abbrev pub decreases-strip_run-loop-tree : goal.decreases-strip_run-loop-tree
decreases-strip_run-loop-tree l = count_of (tokens_of l.tokens)
