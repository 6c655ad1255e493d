use Rattle.std.proofs.Common.{None, slice_index_or, sym, ◌∙◌, subst, arith}
use Rattle.logos_positions.specs.inside.Ranges.{in_ranges}
use Rattle.logos_positions.specs.inside.Characters.{lead}
use Rattle.logos_positions.specs.inside.Reader.{IsReaderOf}
use Rattle.logos_positions.specs.Table.{reader_from}
use Rattle.logos_positions.proofs.classes.BuildLemmas.{is_reader}
use Rattle.logos_positions.proofs.classes.TableLemmas.{FindsFirst-grows}
use Rattle.logos_positions.proofs.characters.builder.build.Goals as goal

pub returns : goal.returns
returns c =
    let long = c.in_ok-follow.ensures.long in
    let made = is_reader c.follow_cells.new.rests.keys (in_ranges c.args.ranges.now) c.in_ok-first.first.items c.in_ok-follow.follow.items
    c.in_ok-follow.ensures.rests (sym c.in_ok-first.first.ok.0 ∙ c.in_ok-first.ensures.long)
    (λ b lt. FindsFirst-grows _ _ (in_ranges c.args.ranges.now) (lead b) (slice_index_or c.in_ok-first.first.items b None) c.in_ok-follow.ensures.grows (c.in_ok-first.ensures.cells b lt))
    (λ j lt. c.in_ok-follow.ensures.cells j (omega (arith, long))) in
    subst (λ k. IsReaderOf (in_ranges c.args.ranges.now) (reader_from k c.in_ok-first.first.items c.in_ok-follow.follow.items)) (sym c.len.ensures.len) made
