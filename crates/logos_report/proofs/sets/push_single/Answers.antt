use Rattle.std.proofs.Common.{◌∙◌, subst, sym}
use Rattle.logos_report.specs.Reports.{Shows}
use Rattle.logos_report.proofs.FaultLemmas.{none_started}
use Rattle.logos_report.proofs.sets.push_single.Goals as goal

pub returns-then-is_empty : goal.returns-then-is_empty
returns-then-is_empty c =
    subst (λ lines. Shows lines c.args.page.now c.push_fault.new.page)
    (none_started c.args.page.now.is_colored c.args.part.source.now c.args.part.offset c.args.starts.now _ (sym c.is_empty.ensures ∙ c.if-is_empty.true)) c.push_fault.ensures

pub returns-else-is_empty : goal.returns-else-is_empty
returns-else-is_empty c = c.push_explained.ensures
