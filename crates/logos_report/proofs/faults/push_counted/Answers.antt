use Rattle.std.proofs.Common.{◌++◌, take}
use Rattle.logos_token.specs.FaultView.{fault_of, faults_of}
use Rattle.logos_report.specs.Parts.{all_faults, listed_faults}
use Rattle.logos_report.specs.Sets.{next_value, starts_in}
use Rattle.logos_report.proofs.FaultLemmas.{nothing_counted}
use Rattle.logos_report.proofs.faults.push_counted.Goals as goal

pub returns-else-seen-eq-MOST : goal.returns-else-seen-eq-MOST
returns-else-seen-eq-MOST c =
    let front = all_faults c.args.listing.earlier.now ++ faults_of (take c.args.number c.args.listing.faults.now) in
    nothing_counted c.args.page.now.is_colored c.args.part.source.now c.args.part.offset (starts_in c.args.next) (listed_faults c.args.listing) front (next_value c.args.next) (fault_of c.args.fault.now) c.seen_in-seen.result c.args.page.now
    c.seen_in-seen.ensures c.if-seen-lt-MOST.false c.if-seen-eq-MOST.false
