use Rattle.logos_token.specs.Views.{stream_tokens}
use Rattle.logos_strip.proofs.CompleteLemmas.{known_stripped}
use Rattle.logos_strip.proofs.stripper.strip_enum.Goals as goal

pub returns : goal.returns
returns c = known_stripped stream_tokens c.args.src.now _ _ c.requires.known c.requires.spelled c.strip_run.ensures
