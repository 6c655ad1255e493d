use Rattle.logos_text.proofs.PieceLemmas.{prints_nothing}
use Rattle.std.proofs.Common.{refl}
use Rattle.logos_text.proofs.sink.Sink.note_call.Goals as goal

pub returns : goal.returns
returns c = prints_nothing refl refl
