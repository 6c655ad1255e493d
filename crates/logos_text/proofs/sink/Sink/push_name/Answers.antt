use Rattle.logos_text.proofs.PieceLemmas.{prints_piece}
use Rattle.std.proofs.Common.{refl}
use Rattle.logos_text.specs.Runs.{name_run}
use Rattle.logos_text.proofs.sink.Sink.push_name.Goals as goal

pub returns : goal.returns
returns c = prints_piece c.args.name.text.now c.args.name.span (name_run c.args.name) refl refl c.in_ok-push_piece.ensures
