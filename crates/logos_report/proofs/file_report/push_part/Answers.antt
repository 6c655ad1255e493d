use Rattle.std.proofs.Common.{◌+◌, sym, subst, take}
use Rattle.std.proofs.lemmas.List.{take_rest}
use Rattle.logos_report.specs.Faults.{texts_after}
use Rattle.logos_report.specs.Reports.{Shows}
use Rattle.logos_report.specs.Parts.{all_faults}
use Rattle.logos_report.specs.Sets.{first_faults, sizes_of, starts_of}
use Rattle.logos_report.proofs.PartLemmas.{around, part_then}
use Rattle.logos_report.proofs.file_report.push_part.Goals as goal

pub returns-clause-shown : goal.returns-clause-shown
returns-clause-shown c =
    let parts = c.args.refused.now in
    let source = c.args.source.now in
    let is_colored = c.args.page.now.is_colored in
    let one = c.index-refused-number.result in
    let front = all_faults (take c.args.number parts) in
    let pushed = rw (c.list.ensures, c.first_faults.ensures.faults, c.first_faults.ensures.starts, take_rest parts (c.args.number + 1)) at c.push_all.ensures in
    let shown = subst (λ all. Shows (texts_after is_colored source one.offset (starts_of one.clues) all front (first_faults (sizes_of one.clues)) one.errors) c.args.page.now c.push_all.new.page) (sym (around parts c.args.number one c.requires c.index-refused-number.is)) pushed in
    part_then is_colored source parts c.args.number one c.requires c.index-refused-number.is shown
