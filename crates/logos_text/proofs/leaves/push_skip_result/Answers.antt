use Rattle.std.proofs.Common.{refl}
use Rattle.logos_text.proofs.PieceLemmas.{notes_text}
use Rattle.logos_text.proofs.leaves.push_skip_result.Goals as goal

pub returns : goal.returns
returns c = notes_text _ c.in_ok-write.ensures.bytes refl
