use Rattle.std.proofs.Common.{refl, sym, ◌∙◌}
use Rattle.logos_automaton.specs.inside.Alike.{OpensAlike}
use Rattle.logos_positions.specs.Core as core
use Rattle.logos_positions.specs.Table.{reader_of}
use Rattle.logos_automaton.proofs.keys.MarkLemmas.{marked_more}
use Rattle.logos_automaton.proofs.boundaries.mark_first.Goals as goal

pub loop-byte-preserved : goal.loop-byte-preserved
loop-byte-preserved c =
    marked_more (OpensAlike (core.character (reader_of c.args.table.now))) c.args.marked.now c.loop-byte.marked c.loop-byte.byte _ c.differ-is_other.result c.loop-byte.auto.byte c.loop-byte-test.true refl
    (λ e. sym c.first.ensures ∙ c.differ-is_other.ensures e ∙ c.first-in-loop-byte.ensures) c.loop-byte.invariant
