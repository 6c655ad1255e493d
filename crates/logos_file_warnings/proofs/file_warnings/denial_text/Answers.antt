use Rattle.std.proofs.Common.{◌∷◌, [], string_bytes}
use Rattle.logos_file_warnings.specs.Warned.{denied_line}
use Rattle.logos_file_warnings.proofs.ShownLemmas.{human_before, json_alike}
use Rattle.logos_file_warnings.proofs.file_warnings.denial_text.Goals as goal

pub returns-in-Human : goal.returns-in-Human
returns-in-Human c =
    human_before string_bytes c.denied.result c.args.showing.format c.args.source.now c.args.warned.now (string_bytes c.in_ok-text.text) c.in-Human.is (rw c.in_ok-text.ensures c.in_ok-warning_text.ensures) c.denied.ensures

pub returns-in-Json : goal.returns-in-Json
returns-in-Json c = json_alike c.args.showing.format c.args.source.now c.args.warned.now [] (denied_line ∷ []) (string_bytes c.in_ok-text.text) c.in-Json.is (rw c.in_ok-text.ensures c.in_ok-warning_text.ensures)
