use Rattle.std.proofs.Common.{◌≡◌, ◌≤◌}
use Rattle.logos_token.specs.Tokens.{count_of}
use Rattle.logos_token.specs.Views.{tokens_of}
use Rattle.logos_enum.specs.Enum.{from_brace}
use Rattle.logos_enum.proofs.item.skip_to_brace.Given as goal

abbrev pub invariant-loop-next : goal.invariant-loop-next
invariant-loop-next l =
    record {
      same : from_brace (tokens_of l.tokens) ≡ from_brace (tokens_of l.rest);
      shorter : count_of (tokens_of l.rest) ≤ count_of (tokens_of l.tokens);
    }

abbrev pub decreases-loop-next : goal.decreases-loop-next
decreases-loop-next l = count_of (tokens_of l.rest)
