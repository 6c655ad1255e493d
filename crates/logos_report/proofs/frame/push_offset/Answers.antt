use Rattle.std.proofs.Common.{◌∷◌, []}
use Rattle.logos_lines.specs.Locations.{location_at}
use Rattle.logos_page.specs.Pages.{Gains}
use Rattle.logos_report.specs.Locations.{arrow_line, in_file}
use Rattle.logos_page.proofs.PageLemmas.{gains_as}
use Rattle.logos_report.proofs.ReportLemmas.{shown_after}
use Rattle.logos_report.proofs.frame.push_offset.Goals as goal

pub returns : goal.returns
returns c =
    let source = c.args.part.source.now in
    let arrow = rw c.location.ensures at c.push_arrow.ensures in
    shown_after c.args.width c.push_times.ensures (gains_as (λ colored. arrow_line colored source.path (location_at source.text (in_file c.args.part.offset c.args.offset))) c.push_times.ensures.colored arrow)
