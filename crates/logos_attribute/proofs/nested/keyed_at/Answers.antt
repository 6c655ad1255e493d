use Rattle.std.proofs.Common.{◌∙◌, ap}
use Rattle.logos_token.specs.Views.{tokens_of}
use Rattle.logos_attribute.specs.Slices.{ident_slice}
use Rattle.logos_token.specs.Tokens.{TokenList}
use Rattle.logos_attribute.specs.Pieces.{named, keyed}
use Rattle.logos_attribute.proofs.PieceLemmas.{through_is}
use Rattle.logos_attribute.proofs.nested.keyed_at.Goals as goal

pub returns : goal.returns
returns c = (through_is (λ (run : TokenList). named (ident_slice c.args.keyword) (keyed (ident_slice c.args.name) run)) (tokens_of c.args.tokens) _ _ _ c.run_at.ensures.run c.run_at.ensures.after c.begin.ensures.pieces, ap tokens_of c.begin.ensures.rest ∙ c.run_at.ensures.after)
