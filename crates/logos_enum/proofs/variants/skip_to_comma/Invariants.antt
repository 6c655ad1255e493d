use Rattle.std.proofs.Common.{◌≡◌, ◌≤◌}
use Rattle.logos_token.specs.Tokens.{count_of}
use Rattle.logos_token.specs.Views.{tokens_of}
use Rattle.logos_enum.specs.Enum.{from_comma}
use Rattle.logos_enum.proofs.variants.skip_to_comma.Given as goal

abbrev pub invariant-loop-next : goal.invariant-loop-next
invariant-loop-next l =
    record {
      same : from_comma (tokens_of l.tokens) ≡ from_comma (tokens_of l.rest);
      shorter : count_of (tokens_of l.rest) ≤ count_of (tokens_of l.tokens);
    }

abbrev pub decreases-loop-next : goal.decreases-loop-next
decreases-loop-next l = count_of (tokens_of l.rest)
