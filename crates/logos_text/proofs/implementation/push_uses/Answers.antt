use Rattle.logos_text.proofs.PieceLemmas.{prints_both, prints_last}
use Rattle.logos_text.proofs.implementation.push_uses.Goals as goal

pub returns : goal.returns
returns c = prints_both (prints_last c.in_ok-push_internals.ensures c.in_ok-push_core.ensures) c.in_ok-push_lexer.ensures
