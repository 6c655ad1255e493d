use Rattle.std.proofs.Common.{◌∙◌, subst}
use Rattle.logos_report.specs.Reports.{Shows}
use Rattle.logos_report.specs.Warnings.{warning_texts}
use Rattle.logos_report.proofs.ReportLemmas.{shows_as}
use Rattle.logos_report.proofs.WarningLemmas.{next_warned, none_warned}
use Rattle.logos_report.proofs.warnings.push_all.Goals as goal

pub loop-warning-preserved : goal.loop-warning-preserved
loop-warning-preserved c =
    let same = c.loop-warning.invariant.colored in
    let shows = shows_as (λ colored. warning_texts colored c.args.part.source.now c.args.part.offset c.warning-item.result) same c.push_warning.ensures in
    record {
      colored = c.push_warning.ensures.colored ∙ same;
      rest = λ new s. c.loop-warning.invariant.rest new (next_warned c.args.page.now.is_colored c.args.part.source.now c.args.part.offset c.args.warnings.now c.loop-warning.warning-index c.warning-item.result _ _ new c.loop-warning-test.true c.warning-item.is shows s);
    }

pub returns : goal.returns
returns c = c.loop-warning.invariant.rest _ (none_warned c.args.page.now.is_colored c.args.part.source.now c.args.part.offset c.args.warnings.now c.loop-warning.warning-index _ c.loop-warning-test.false)
