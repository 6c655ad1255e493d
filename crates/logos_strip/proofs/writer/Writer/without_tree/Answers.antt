use Rattle.std.proofs.Common.{◌∙◌, ap}
use Rattle.logos_token.specs.Tokens.{append}
use Rattle.logos_strip.specs.Stripping.{left}
use Rattle.logos_strip.proofs.WritingLemmas.{append-one}
use Rattle.logos_strip.proofs.writer.Writer.without_tree.Goals as goal

pub returns : goal.returns
returns c = λ pieces. rw c.in-Some.is (ap (λ r. append r (left pieces)) c.in_ok-with_tree.ensures ∙ append-one _ _ (left pieces))
