use Rattle.std.proofs.Common.{◌∷◌, []}
use Rattle.logos_report.specs.Locations.{location_line}
use Rattle.logos_report.proofs.ReportLemmas.{shown, shows_as, shows_then}
use Rattle.logos_report.proofs.warnings.push_warning.Goals as goal

pub returns : goal.returns
returns c =
    let head = rw c.as_str.ensures.value at c.push_head.ensures in
    let framed = shows_as (λ colored. location_line colored c.args.part.source.now c.args.part.offset c.args.warning.now.span.from ∷ []) c.push_head.ensures.colored c.push_frame-width.ensures in
    shows_then (shown head) (shows_then framed c.push_notes.ensures)
