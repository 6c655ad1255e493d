use Rattle.std.proofs.Common.{◌≡◌, ◌++◌, drop, take}
use Rattle.logos_token.specs.FaultView.{faults_of}
use Rattle.logos_report.specs.Faults.{texts_after}
use Rattle.logos_page.specs.Pages.{PageValue}
use Rattle.logos_report.specs.Reports.{Shows}
use Rattle.logos_report.specs.Parts.{all_faults, listed_faults}
use Rattle.logos_report.specs.Sets.{next_value, starts_in}
use Rattle.logos_report.proofs.faults.push_all.Given as goal

-- with the faults that are left the page shows all of them
abbrev pub invariant-loop-fault : goal.invariant-loop-fault
invariant-loop-fault l =
    let texts = texts_after l.initial.page.is_colored l.part.source.now l.part.offset (starts_in l.first) (listed_faults l.listing) in
    let earlier = all_faults l.listing.earlier.now in
    let faults = l.listing.faults.now in
    record {
      numbered : l.number ≡ l.fault-index;
      started : starts_in l.next ≡ starts_in l.first;
      colored : l.page.is_colored ≡ l.initial.page.is_colored;
      rest : (new : PageValue) →
          Shows (texts (earlier ++ faults_of (take l.fault-index faults)) (next_value l.next) (faults_of (drop l.fault-index faults))) l.page new →
          Shows (texts earlier (next_value l.first) (faults_of faults)) l.initial.page new;
    }
