use Rattle.std.proofs.Common.{◌∙◌, refl, string_bytes}
use Rattle.logos_json.proofs.LineLemmas.{one_put}
use Rattle.logos_messages.specs.Tokens.{rest_tokens}
use Rattle.logos_messages.proofs.rest_line.push_rest_line.Goals as goal

pub returns : goal.returns
returns c =
    let rendered = string_bytes c.in_ok-rendered.rendered in
    let e = c.as_str.ensures.value ∙ c.in_ok-message.ensures in (
      rest_tokens c.args.code c.args.count rendered,
      record { rendered = rendered; occurs = c.in_ok-rendered.ensures; is = refl },
      one_put (rw (e, c.as_str-2.ensures.value) at c.push_object.ensures) c.end_line.ensures,
    )
