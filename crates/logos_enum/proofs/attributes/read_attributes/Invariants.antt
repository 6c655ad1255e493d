use Rattle.std.proofs.Common.{◌≡◌, ◌≤◌}
use Rattle.logos_token.specs.Tokens.{count_of, IsRestOf}
use Rattle.logos_token.specs.Views.{tokens_of}
use Rattle.logos_enum.specs.Attributes.{after_attributes}
use Rattle.logos_enum.proofs.attributes.read_attributes.Given as goal

abbrev pub invariant-loop-next : goal.invariant-loop-next
invariant-loop-next l =
    record {
      same : after_attributes (tokens_of l.tokens) ≡ after_attributes (tokens_of l.rest);
      front : IsRestOf (tokens_of l.tokens) (tokens_of l.rest);
      shorter : count_of (tokens_of l.rest) ≤ count_of (tokens_of l.tokens);
    }

abbrev pub decreases-loop-next : goal.decreases-loop-next
decreases-loop-next l = count_of (tokens_of l.rest)
