use Rattle.std.proofs.Common.{◌≡◌, ◌≤◌, ◌+◌, false}
use Rattle.logos_token.specs.Tokens.{count_of, IsRestOf}
use Rattle.logos_token.specs.Views.{tokens_of}
use Rattle.logos_enum.specs.Extents.{after_from}
use Rattle.logos_enum.proofs.extents.skip_extent.Given as goal

abbrev pub invariant-loop-next : goal.invariant-loop-next
invariant-loop-next l =
    record {
      same : after_from l.end false 0 (tokens_of l.tokens) ≡ after_from l.end l.angles.arrow l.angles.depth (tokens_of l.rest);
      front : IsRestOf (tokens_of l.tokens) (tokens_of l.rest);
      shorter : l.angles.depth + count_of (tokens_of l.rest) ≤ count_of (tokens_of l.tokens);
    }

abbrev pub decreases-loop-next : goal.decreases-loop-next
decreases-loop-next l = count_of (tokens_of l.rest)
