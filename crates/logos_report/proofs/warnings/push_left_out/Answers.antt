use Rattle.std.proofs.Common.{subst}
use Rattle.logos_report.specs.Reports.{Shows}
use Rattle.logos_report.proofs.ReportLemmas.{empty_shown, first_shown, shown, shows_nothing}
use Rattle.logos_report.proofs.WarningLemmas.{none_left_out, some_left_out}
use Rattle.logos_report.proofs.warnings.push_left_out.Goals as goal

pub returns-then-count-gt0 : goal.returns-then-count-gt0
returns-then-count-gt0 c =
    subst (λ lines. Shows lines c.args.page.now c.push.new.self) (some_left_out c.args.page.now.is_colored c.args.count c.if-count-gt0.true) (first_shown (shown c.push_left_out_line.ensures) (empty_shown c.push.ensures))

pub returns-else-count-gt0 : goal.returns-else-count-gt0
returns-else-count-gt0 c =
    subst (λ lines. Shows lines c.args.page.now c.args.page.now) (none_left_out c.args.page.now.is_colored c.args.count c.if-count-gt0.false) (shows_nothing _)
