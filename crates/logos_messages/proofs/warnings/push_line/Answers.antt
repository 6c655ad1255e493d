use Rattle.std.proofs.Common.{false, refl, string_bytes}
use Rattle.logos_report.specs.Warnings.{warning_texts}
use Rattle.logos_messages.specs.Tokens.{warning_head, warning_tokens}
use Rattle.logos_messages.proofs.MessageLemmas.{message_put}
use Rattle.logos_messages.proofs.warnings.push_line.Goals as goal

pub returns : goal.returns
returns c =
    let source = c.args.part.source.now in
    let begin = c.args.part.offset in
    let warning = c.args.warning.now in
    let put = message_put string_bytes source begin (warning_head (string_bytes warning.message)) warning.span warning.also (warning_texts false source begin warning) c.in_ok-rendered.rendered _ c.text_of.ensures
    c.in_ok-rendered.ensures.occur c.in_ok-rendered.ensures.left_out c.push_object.ensures c.end_line.ensures in
    (warning_tokens source begin warning put.0, record { shown = put.0; may = put.1; is = refl }, put.2)
