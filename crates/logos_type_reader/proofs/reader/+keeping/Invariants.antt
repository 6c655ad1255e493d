use Rattle.std.proofs.Common.{◌≡◌, ◌++◌, ◌+◌, ◌*◌, ◌≤◌, map}
use Rattle.logos_token.specs.Tokens.{count_of, token_count}
use Rattle.logos_token.specs.Views.{tokens_of, inside_of, tree_of as token_of}
use Rattle.logos_type.specs.Parts.{tree_of}
use Rattle.logos_type_reader.specs.StillRuns.{still_run}
use Rattle.logos_type_reader.proofs.reader.+keeping.Given as goal

abbrev pub decreases-keep_tokens : goal.decreases-keep_tokens
decreases-keep_tokens l = 3 * count_of (tokens_of l.run) + 1

abbrev pub decreases-keep_token : goal.decreases-keep_token
decreases-keep_token l = 3 * token_count (token_of l.tree)

abbrev pub decreases-keep_group : goal.decreases-keep_group
decreases-keep_group l = 3 * count_of (inside_of l.group) + 2

-- the rest completes the whole
abbrev pub invariant-keep_tokens-loop-tree : goal.invariant-keep_tokens-loop-tree
invariant-keep_tokens-loop-tree l =
    (map tree_of l.parts.items ++ still_run (tokens_of l.rest) ≡ map tree_of l.fn.parts.items ++ still_run (tokens_of l.fn.run)) × (count_of (tokens_of l.rest) ≤ count_of (tokens_of l.fn.run))

abbrev pub decreases-keep_tokens-loop-tree : goal.decreases-keep_tokens-loop-tree
decreases-keep_tokens-loop-tree l = count_of (tokens_of l.rest)
