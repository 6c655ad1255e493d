use Rattle.std.proofs.Common.{string_bytes, subst, sym}
use Rattle.logos_host.specs.declared.message_format.MessageFormat.{MessageFormat}
use Rattle.logos_expand.specs.Gathering.{ShowsRefused}
use Rattle.logos_expand.proofs.expansion.faults_text.Goals as goal

pub returns-in-Ok : goal.returns-in-Ok
returns-in-Ok c =
    subst (λ (format : MessageFormat). ShowsRefused format c.args.source.now c.args.refused.now (string_bytes c.in-Ok.text)) (sym c.in-Human.is) (c.args.showing.is_colored, c.args.warned.now, c.in-Ok.ensures)
