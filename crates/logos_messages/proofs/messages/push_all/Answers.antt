use Rattle.std.proofs.Common.{◌++◌, subst, take}
use Rattle.std.proofs.lemmas.List.{append-nil}
use Rattle.logos_report.specs.Parts.{all_faults, listed_faults}
use Rattle.logos_token.specs.FaultView.{fault_of, faults_of}
use Rattle.logos_messages.specs.Messages.{PutsAfter, PutsCounted}
use Rattle.logos_messages.proofs.MessageLemmas.{next_counted, none_counted}
use Rattle.logos_messages.proofs.messages.push_all.Goals as goal

pub loop-number-init : goal.loop-number-init
loop-number-init c = λ new puts.
    subst (λ front. PutsAfter c.args.part.source.now c.args.part.offset (listed_faults c.args.listing) front (faults_of c.args.listing.faults.now) c.args.lines.now new)
    (append-nil (all_faults c.args.listing.earlier.now)) puts

pub loop-number-preserved : goal.loop-number-preserved
loop-number-preserved c = λ new rest.
    let source = c.args.part.source.now in
    let all = listed_faults c.args.listing in
    let earlier = all_faults c.args.listing.earlier.now in
    let faults = c.args.listing.faults.now in
    let i = c.loop-number.number in
    let one = subst (λ x. PutsCounted source c.args.part.offset all (earlier ++ faults_of (take i faults)) (fault_of x) c.loop-number.lines c.push_counted.new.lines) c.index-faults-number.is c.in_ok-push_counted.ensures in
    c.loop-number.invariant new (next_counted source c.args.part.offset all earlier faults i c.index-faults-number.result c.loop-number-test.true one rest)

pub returns : goal.returns
returns c =
    let front = all_faults c.args.listing.earlier.now ++ faults_of (take c.loop-number.number c.args.listing.faults.now) in
    c.loop-number.invariant _ (none_counted c.args.part.source.now c.args.part.offset (listed_faults c.args.listing) front c.args.listing.faults.now c.loop-number.number _ c.loop-number-test.false)
