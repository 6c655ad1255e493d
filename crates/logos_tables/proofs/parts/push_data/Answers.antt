use Rattle.std.proofs.Common.{append_assoc}
use Rattle.logos_tables.proofs.parts.push_data.Goals as goal

pub returns : goal.returns
returns c = rw c.in_ok-write.ensures.bytes (simp append_assoc)
