use Rattle.std.proofs.Common.{◌++◌, [], take}
use Rattle.logos_json.proofs.LineLemmas.{puts_nothing}
use Rattle.logos_report.specs.Parts.{all_faults, listed_faults}
use Rattle.logos_token.specs.FaultView.{fault_of, faults_of}
use Rattle.logos_messages.proofs.MessageLemmas.{nothing_counted}
use Rattle.logos_messages.proofs.messages.push_counted.Goals as goal

pub returns : goal.returns
returns c =
    let front = all_faults c.args.listing.earlier.now ++ faults_of (take c.args.number c.args.listing.faults.now) in
    let past = nothing_counted c.args.message.part.source.now c.args.message.part.offset (listed_faults c.args.listing) front (fault_of c.args.message.known.fault.now) c.seen_in-seen.result c.seen_in-seen.ensures c.if-seen-lt-MOST.false
    c.if-seen-eq-MOST.false in
    ([], past, puts_nothing c.args.lines.now)
