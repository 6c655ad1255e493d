use Rattle.logos_codegen.proofs.lexing.lex_input.Goals as goal

-- the lexer is at the start of the input
pub returns-clause-items : goal.returns-clause-items
returns-clause-items g c = rw c.in_ok-lexer.ensures.accepted.0 at c.in_ok-items.ensures
