use Rattle.std.proofs.Common.{◌∷◌, []}
use Rattle.logos_report.specs.Locations.{location_line}
use Rattle.logos_report.proofs.ReportLemmas.{shown, shows_as, shows_then}
use Rattle.logos_report.proofs.sets.push_begin.Goals as goal

pub returns : goal.returns
returns c =
    let framed = shows_as (λ colored. location_line colored c.args.part.source.now c.args.part.offset c.args.fault.now.span.from ∷ []) c.push_head.ensures.colored c.push_marked.ensures in
    shows_then (shown c.push_head.ensures) framed
