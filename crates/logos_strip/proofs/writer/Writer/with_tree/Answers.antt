use Rattle.std.proofs.Common.{◌∷◌, Some, ◌∙◌, ap}
use Rattle.logos_token.specs.Tokens.{punctuation, none, also, append}
use Rattle.logos_token.specs.Views.{tree_of}
use Rattle.logos_strip.specs.Stripping.{left}
use Rattle.logos_strip.proofs.WritingLemmas.{one-more, other-more}
use Rattle.logos_strip.proofs.writer.Writer.with_tree.Goals as goal

pub returns-in-Punct : goal.returns-in-Punct
returns-in-Punct c = λ pieces.
    let p = c.in-Punct.punct in
    rw c.in-Punct.is (ap (λ r. append r (left (Some (punctuation p.character p.spacing p.span) ∷ pieces))) c.in_ok-stream.ensures ∙ one-more _ c.args.self.held _ pieces)

pub returns-in_ok-with_tree-in_default : goal.returns-in_ok-with_tree-in_default
returns-in_ok-with_tree-in_default c =
    other-more _ _ c.args.self.held c.args.tree c.in_default.not-Punct
    (c.in_ok-with_tree-in_default.ensures ∙ ap (λ r. append r (also (tree_of c.args.tree) none)) c.in_ok-stream.ensures)
