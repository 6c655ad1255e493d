use Rattle.logos_text.proofs.PieceLemmas.{prints_text}
use Rattle.std.proofs.Common.{refl}
use Rattle.logos_text.proofs.sink.Sink.push.Goals as goal

pub returns : goal.returns
returns c = prints_text c.args.part.now c.in_ok-push_str.ensures.bytes refl
