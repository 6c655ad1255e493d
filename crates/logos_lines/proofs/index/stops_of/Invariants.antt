use Rattle.std.proofs.Common.{◌≡◌, ◌≤◌, ◌<◌, ◌*◌, ℕ, length, get_or}
use Rattle.logos_lines.specs.Locations.{location_at}
use Rattle.logos_lines.specs.declared.location.Location.{Location}
use Rattle.logos_lines.proofs.index.stops_of.Given as goal

abbrev pub invariant-loop-stop : goal.invariant-loop-stop
invariant-loop-stop l = record {
  same : l.cursor.text ≡ l.bytes;
  afterward : l.cursor.at ≤ l.stop * 256;
  count : length l.stops.items ≡ l.stop;
  each : (k : ℕ) (other : Location) → k < length l.stops.items → get_or l.stops.items k other ≡ location_at l.bytes (k * 256);
}
