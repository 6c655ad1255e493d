use Rattle.std.proofs.Common.{◌∙◌, ap}
use Rattle.logos_token.specs.Tokens.{also}
use Rattle.logos_token.specs.Views.{tokens_of, tree_of}
use Rattle.logos_attribute.proofs.nested.piece_at.Goals as goal

pub returns-in-Some-Punct-default : goal.returns-in-Some-Punct-default
returns-in-Some-Punct-default c =
    let a = c.in-Some-Punct-default in
    let whole = a.ensures ∙ ap (λ tree. also (tree_of tree) (tokens_of a.field-0-1)) a.field-0-0-is in
    rw whole (c.unnamed_at.ensures _ _ whole)

pub returns-in-Some-Literal-default : goal.returns-in-Some-Literal-default
returns-in-Some-Literal-default c =
    let a = c.in-Some-Literal-default in
    let whole = a.ensures ∙ ap (λ tree. also (tree_of tree) (tokens_of a.field-0-1)) a.field-0-0-is in
    rw whole (c.unnamed_at-in-Some-Literal-default.ensures _ _ whole)

pub returns-in-Some-Doc-default : goal.returns-in-Some-Doc-default
returns-in-Some-Doc-default c =
    let a = c.in-Some-Doc-default in
    let whole = a.ensures ∙ ap (λ tree. also (tree_of tree) (tokens_of a.field-0-1)) a.field-0-0-is in
    rw whole (c.unnamed_at-in-Some-Doc-default.ensures _ _ whole)

pub returns-in-Some-Group-default : goal.returns-in-Some-Group-default
returns-in-Some-Group-default c =
    let a = c.in-Some-Group-default in
    let whole = a.ensures ∙ ap (λ tree. also (tree_of tree) (tokens_of a.field-0-1)) a.field-0-0-is in
    rw whole (c.unnamed_at-in-Some-Group-default.ensures _ _ whole)
