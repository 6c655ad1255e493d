use Rattle.logos_file_warnings.specs.Warned.{missing_texts}
use Rattle.logos_file_warnings.proofs.ShownLemmas.{human_shown}
use Rattle.logos_file_warnings.proofs.file_warnings.warning_text.Goals as goal

pub returns-in-Ok : goal.returns-in-Ok
returns-in-Ok c =
    human_shown c.args.showing.format c.args.source.now c.args.warned.now (missing_texts c.args.source.now c.args.is_missing) c.args.showing.is_colored c.into_bytes.result.items c.in-Human.is (rw c.into_bytes.ensures.value c.in-Ok.ensures)
