use Rattle.std.proofs.Common.{false, refl, string_bytes}
use Rattle.logos_report.specs.Faults.{fault_texts}
use Rattle.logos_token.specs.FaultView.{fault_of}
use Rattle.logos_messages.specs.Tokens.{fault_head, fault_tokens}
use Rattle.logos_messages.proofs.MessageLemmas.{message_put}
use Rattle.logos_messages.proofs.fault.push_fault_line.Goals as goal

pub returns : goal.returns
returns c =
    let source = c.args.message.part.source.now in
    let begin = c.args.message.part.offset in
    let fault = fault_of c.args.message.known.fault.now in
    let put = message_put string_bytes source begin (fault_head fault) fault.span fault.also (fault_texts false source begin fault) c.in_ok-rendered.rendered _ c.text_of.ensures c.in_ok-rendered.ensures.occur c.in_ok-rendered.ensures.left_out
    c.push_message.ensures c.end_line.ensures in
    (fault_tokens source begin fault put.0, record { shown = put.0; may = put.1; is = refl }, put.2)
