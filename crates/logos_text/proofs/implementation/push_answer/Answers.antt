use Rattle.std.proofs.Common.{append_assoc, refl}
use Rattle.logos_text.proofs.PieceLemmas.{prints_text}
use Rattle.logos_text.proofs.implementation.push_answer.Goals as goal

pub returns : goal.returns
returns c = prints_text _ (rw c.in_ok-write.ensures.bytes (simp append_assoc)) refl
