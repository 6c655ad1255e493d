use Rattle.std.proofs.Common.{◌-◌, ◌≤◌}
use Rattle.logos_page.specs.Pages.{Gains, times}
use Rattle.logos_page.proofs.page.Page.push_times.Given as goal

abbrev pub invariant-loop-pushed : goal.invariant-loop-pushed
invariant-loop-pushed l = record { gained : Gains (times l.pushed l.text) l.initial.self l.self; within : l.pushed ≤ l.count }

abbrev pub decreases-loop-pushed : goal.decreases-loop-pushed
decreases-loop-pushed l = l.count - l.pushed
