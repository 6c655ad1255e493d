use Rattle.std.proofs.Common.{drop}
use Rattle.std.specs.List.{flat_map}
use Rattle.logos_json.specs.Lines.{LinesValue, Puts}
use Rattle.logos_records.specs.Matches.{match_lines}
use Rattle.logos_records.proofs.matches.push_each.Given as goal

-- with the matches that are left the lines of all are pushed
abbrev pub invariant-loop-found : goal.invariant-loop-found
invariant-loop-found l = (new : LinesValue) → Puts (flat_map (match_lines l.start.leaves.now l.start.input.now l.start.from l.start.winner) (drop l.found-index l.longest)) l.lines new →
    Puts (flat_map (match_lines l.start.leaves.now l.start.input.now l.start.from l.start.winner) l.longest) l.initial.lines new
