use Rattle.std.proofs.Common.{◌∙◌, ℕ, List, ◌++◌, ap, subst, sym}
use Rattle.logos_messages.specs.Warnings.{AreWarnings}
use Rattle.logos_report.specs.Warnings.{shown_of}
use Rattle.logos_file_warnings.proofs.file_warnings.warning_lines.Goals as goal

pub returns : goal.returns
returns c =
    let m = c.in_ok-push_warning_messages.ensures.pushed in
    subst (AreWarnings c.args.source.now 0 (shown_of c.args.warned.now)) (sym (m.1 ∙ ap (λ (x : List ℕ). x ++ m.0) c.new-lines.ensures.items)) m.2
