use Rattle.std.proofs.Common.{◌++◌, drop, take}
use Rattle.logos_json.specs.Lines.{LinesValue}
use Rattle.logos_report.specs.Parts.{all_faults, listed_faults}
use Rattle.logos_token.specs.FaultView.{faults_of}
use Rattle.logos_messages.specs.Messages.{PutsAfter}
use Rattle.logos_messages.proofs.messages.push_all.Given as goal

-- with the faults that are left the lines of all are pushed
abbrev pub invariant-loop-number : goal.invariant-loop-number
invariant-loop-number l =
    let earlier = all_faults l.listing.earlier.now in
    let faults = l.listing.faults.now in
    (new : LinesValue) → PutsAfter l.part.source.now l.part.offset (listed_faults l.listing) (earlier ++ faults_of (take l.number faults)) (faults_of (drop l.number faults)) l.lines new →
    PutsAfter l.part.source.now l.part.offset (listed_faults l.listing) earlier (faults_of faults) l.initial.lines new
