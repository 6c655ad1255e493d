use Rattle.std.proofs.Common.{◌≡◌, ℕ, ◌+◌, ◌-◌, ◌*◌, ◌<◌, ◌≤◌, List, length, slice_index}
use Rattle.logos_positions.specs.Core.{Core, width}
use Rattle.logos_positions.specs.Kinds.{test_at}
use Rattle.logos_positions.specs.Marks.{IsSet}
use Rattle.logos_positions.specs.inside.Stepped.{Stepped}
use Rattle.logos_positions.specs.inside.Repeated.{Repeated}
use Rattle.logos_positions.proofs.positions.step.repeat_step.Given as goal

abbrev pub invariant-loop-more : goal.invariant-loop-more
invariant-loop-more l = record {
  few : l.more ≤ l.count;
  longer : l.to ≤ length l.next.items;
  prefix : (k : ℕ) → k < l.to → slice_index l.next.items k ≡ slice_index l.initial.next.items k;
  set : IsSet l.next.items (l.rest.base + l.rest.each * (l.more + 1));
  repeated : (t : Core) (before : List ℕ) → l.rest.each ≡ width t → IsSet before l.rest.base →
      Stepped t (test_at l.by.at) l.by.byte l.by.marks.now before l.initial.next.items l.rest.base l.rest.entered l.left →
      Repeated t (test_at l.by.at) l.by.byte l.by.marks.now l.initial.next.items (l.rest.base + l.rest.each) l.left l.more l.next.items;
}

abbrev pub decreases-loop-more : goal.decreases-loop-more
decreases-loop-more l = l.count - l.more
