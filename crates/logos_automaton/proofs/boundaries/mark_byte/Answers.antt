use Rattle.std.proofs.Common.{◌+◌, sym, ◌∙◌}
use Rattle.logos_automaton.proofs.keys.MarkLemmas.{one_byte}
use Rattle.logos_automaton.proofs.boundaries.mark_byte.Goals as goal

pub returns : goal.returns
returns c = λ x lt unmarked.
    let m = rw c.new.ensures at c.mark_range.ensures x lt unmarked in
    (m.0, sym (one_byte c.args.byte x) ∙ m.1 ∙ one_byte c.args.byte (x + 1))
