use Rattle.std.proofs.Common.{◌∙◌, ap, string_bytes}
use Rattle.logos_warnings.proofs.messages.warning_of.Goals as goal

pub returns : goal.returns
returns c = record {
  message = ap string_bytes c.plain_warning.ensures.text ∙ c.in_ok-message.ensures;
  span = c.plain_warning.ensures.span ∙ c.span_of.ensures;
}
