use Rattle.std.proofs.Common.{◌≡◌}
use Rattle.logos_scan.specs.walk.Cursors.{IsMarkedBeside}
use Rattle.logos_scan.proofs.walk.masks.ChunkEntries.mark.Given as goal

abbrev pub invariant-loop-word : goal.invariant-loop-word
invariant-loop-word l = record {
  marked : IsMarkedBeside l.word l.to l.self;
  entries : l.self.entries ≡ l.initial.self.entries;
}
