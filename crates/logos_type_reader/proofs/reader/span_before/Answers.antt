use Rattle.std.proofs.Common.{ap, ◌∙◌}
use Rattle.logos_token.specs.Tokens.{TokenList, run_span}
use Rattle.logos_type_reader.proofs.reader.span_before.Goals as goal

pub returns : goal.returns
returns c split = c.span.ensures ∙ ap (λ (x : TokenList). run_span x) (c.before-front.ensures split)
