use Rattle.std.proofs.Common.{◌≡◌, drop, map}
use Rattle.logos_page.specs.Pages.{PageValue}
use Rattle.logos_report.specs.Locations.{location_line}
use Rattle.logos_report.specs.Reports.{Shows}
use Rattle.logos_report.specs.Sets.{from_of}
use Rattle.logos_report.proofs.sets.push_starts.Given as goal

-- with the patterns that are left the page shows all of them
abbrev pub invariant-loop-start : goal.invariant-loop-start
invariant-loop-start l =
    let line = location_line l.initial.page.is_colored l.part.source.now l.part.offset in
    record {
      colored : l.page.is_colored ≡ l.initial.page.is_colored;
      rest : (new : PageValue) → Shows (map line (map from_of (drop l.start-index l.starts))) l.page new → Shows (map line (map from_of l.starts)) l.initial.page new;
    }
