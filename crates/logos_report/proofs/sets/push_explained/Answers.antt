use Rattle.std.proofs.Common.{◌∷◌, [], map, subst}
use Rattle.logos_report.specs.Locations.{location_line}
use Rattle.logos_report.specs.Reports.{Shows}
use Rattle.logos_report.specs.Sets.{offsets_of}
use Rattle.logos_report.proofs.ReportLemmas.{first_shown, shown, shows_as, shows_then}
use Rattle.logos_report.proofs.sets.push_explained.Goals as goal

pub returns : goal.returns
returns c =
    let source = c.args.part.source.now in
    let begin = c.args.part.offset in
    let placed = shows_as (λ colored. location_line colored source begin c.args.known.fault.now.span.from ∷ []) c.push_head.ensures.colored c.push_offset.ensures in
    let front = shows_then (shown c.push_head.ensures) placed in
    let starts = shows_as (λ colored. map (location_line colored source begin) (offsets_of c.args.starts.now)) front.colored (rw c.min.ensures at c.push_starts.ensures) in
    shows_then front (first_shown starts c.push_notes.ensures)
