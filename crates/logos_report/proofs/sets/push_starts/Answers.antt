use Rattle.std.proofs.Common.{◌∷◌, ◌∙◌, [], refl, subst}
use Rattle.logos_report.specs.Locations.{location_line}
use Rattle.logos_report.specs.Sets.{from_of}
use Rattle.logos_report.proofs.FaultLemmas.{next_started, none_left}
use Rattle.logos_report.proofs.ReportLemmas.{shows_as}
use Rattle.logos_report.proofs.sets.push_starts.Goals as goal

pub loop-start-init : goal.loop-start-init
loop-start-init c = record { colored = refl; rest = λ new s. s }

pub loop-start-preserved : goal.loop-start-preserved
loop-start-preserved c =
    let same = c.loop-start.invariant.colored in
    let shows = shows_as (λ colored. location_line colored c.args.part.source.now c.args.part.offset (from_of c.start-item.result) ∷ []) same c.push_start.ensures in
    record {
      colored = c.push_start.ensures.colored ∙ same;
      rest = λ new s. c.loop-start.invariant.rest new (next_started c.args.page.now.is_colored c.args.part.source.now c.args.part.offset c.args.starts.now c.loop-start.start-index c.start-item.result _ _ new c.loop-start-test.true c.start-item.is shows s);
    }

pub returns : goal.returns
returns c = c.loop-start.invariant.rest _ (none_left c.args.page.now.is_colored c.args.part.source.now c.args.part.offset c.args.starts.now c.loop-start.start-index _ c.loop-start-test.false)
