use Rattle.std.proofs.Common.{◌∙◌, ap}
use Rattle.logos_token.specs.Tokens.{rest_of}
use Rattle.logos_token.specs.Views.{tokens_of}
use Rattle.logos_attribute.specs.Pieces.{after_comma}
use Rattle.logos_attribute.proofs.PieceLemmas.{through_first}
use Rattle.logos_attribute.proofs.nested.unnamed_at.Goals as goal

pub returns : goal.returns
returns c = λ first rest e. (through_first _ _ _ _ first rest c.run_from.ensures.run c.run_from.ensures.after c.begin.ensures.pieces e, ap tokens_of c.begin.ensures.rest ∙ c.run_from.ensures.after ∙ ap (λ t. after_comma (rest_of t)) e)
