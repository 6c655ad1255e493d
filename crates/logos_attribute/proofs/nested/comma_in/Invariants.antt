use Rattle.std.proofs.Common.{◌≡◌}
use Rattle.logos_token.specs.Tokens.{TokenList, append, count_of}
use Rattle.logos_token.specs.Views.{tokens_of}
use Rattle.logos_attribute.specs.Pieces.{up_to_comma, after_comma}
use Rattle.logos_attribute.proofs.nested.comma_in.Given as goal

abbrev pub invariant-loop-tree : goal.invariant-loop-tree
invariant-loop-tree l = record {
  parts : (end : TokenList) → tokens_of l.rest ≡ append (up_to_comma (tokens_of l.rest)) end → tokens_of l.tokens ≡ append (up_to_comma (tokens_of l.tokens)) end;
  after : after_comma (tokens_of l.tokens) ≡ after_comma (tokens_of l.rest);
}

abbrev pub decreases-loop-tree : goal.decreases-loop-tree
decreases-loop-tree l = count_of (tokens_of l.rest)
