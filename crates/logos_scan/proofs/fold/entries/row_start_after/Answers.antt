use Rattle.std.proofs.Common.{arith}
use Rattle.logos_scan.proofs.fold.FoldLemmas.{goes_target, target_small}
use Rattle.logos_scan.proofs.fold.entries.row_start_after.Goals as goal

pub overflow_mul-result : goal.overflow_mul-result
overflow_mul-result c = omega (arith, target_small c.args.code.now c.args.state c.args.byte c.in-Leads.next c.requires.few c.requires.sound c.requires.state c.in-Leads.ensures.1)

pub returns-in-Leads : goal.returns-in-Leads
returns-in-Leads c =
    let describes = c.in-Leads.ensures in
    goes_target c.args.code.now c.args.state c.args.byte c.in-Leads.next c.requires.sound c.requires.state describes.0 describes.1
