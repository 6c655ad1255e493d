use Rattle.std.proofs.Common.{◌≡◌, ◌∙◌, sym, false}
use Rattle.logos_token.specs.Punctuation.{is_alone}
use Rattle.logos_token.specs.Views.{tree_of}
use Rattle.logos_attribute.proofs.nested.mark_at.Goals as goal

pub returns : goal.returns
returns c =
    let other : is_alone 61 (tree_of c.args.tree) ≡ false = sym c.is_punct.ensures ∙ c.if-is_punct.false in
    rw other (c.unnamed_at.ensures _ _ c.requires)
