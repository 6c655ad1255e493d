use Rattle.std.proofs.Common.{◌≡◌, true}
use Rattle.logos_token.specs.Tokens.{count_of}
use Rattle.logos_token.specs.Views.{tokens_of}
use Rattle.logos_rust_file.specs.Derives.{lists_macro}
use Rattle.logos_rust_file.proofs.derives.lists_macro.Given as goal

abbrev pub invariant-loop-tree : goal.invariant-loop-tree
invariant-loop-tree l = lists_macro true (tokens_of l.tokens) ≡ lists_macro l.begins (tokens_of l.rest)

abbrev pub decreases-loop-tree : goal.decreases-loop-tree
decreases-loop-tree l = count_of (tokens_of l.rest)
