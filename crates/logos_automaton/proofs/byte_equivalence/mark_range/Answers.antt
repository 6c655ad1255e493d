use Rattle.std.proofs.Common.{◌+◌}
use Rattle.logos_automaton.proofs.keys.MarkLemmas.{range_alike}
use Rattle.logos_automaton.proofs.byte_equivalence.mark_range.Goals as goal

pub returns : goal.returns
returns c = λ x lt unmarked.
    let second = c.mark-2.ensures (x + 1) lt unmarked in
    let first = c.mark.ensures (x + 1) lt second.0 in
    (first.0, range_alike c.args.range.first c.args.range.last x first.1 second.1)
