use Rattle.std.proofs.Common.{◌-◌, ◌≤◌, length, map}
use Rattle.std.specs.Str.{IsCharBoundary}
use Rattle.logos_token.specs.Flat.{value_of}
use Rattle.logos_token.specs.inside.Reading.{IsRead}
use Rattle.logos_token.proofs.token.reader.tokenize.Given as goal

abbrev pub invariant-loop-from : goal.invariant-loop-from
invariant-loop-from l = record {
  within : l.from ≤ length l.src;
  boundary : IsCharBoundary l.src l.from;
  read : IsRead l.src l.from (map value_of l.entries.items) l.open_groups.items;
}

abbrev pub decreases-loop-from : goal.decreases-loop-from
decreases-loop-from l = length l.src - l.from
