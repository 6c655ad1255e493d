use Rattle.std.proofs.Common.{◌∙◌}
use Rattle.logos_token.specs.Views.{tokens_of}
use Rattle.logos_text.proofs.PieceLemmas.{prints_none, prints_some}
use Rattle.logos_text.proofs.sink.Sink.push_tokens.Goals as goal

pub returns-then-is_empty : goal.returns-then-is_empty
returns-then-is_empty c = prints_none _ (tokens_of c.args.tokens) (c.is_empty.ensures.0 c.if-is_empty.true)

pub returns : goal.returns
returns c =
    prints_some _ _ (tokens_of c.args.tokens) (λ e. absurd (let t = c.is_empty.ensures.1 e in cc)) (c.as_str.ensures.value ∙ c.in_ok-text.ensures.text) c.span.ensures
    c.in_ok-push_piece.ensures
