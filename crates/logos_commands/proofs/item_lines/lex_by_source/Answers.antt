use Rattle.std.proofs.Common.{inl}
use Rattle.logos_graph.specs.View.{rules_of}
use Rattle.logos_generator.proofs.InputLemmas.{are_bytes}
use Rattle.logos_commands.proofs.LexingLemmas.{printed_items, refused}
use Rattle.logos_codegen.specs.Source.{IsRefused}
use Rattle.logos_commands.proofs.RefusalLemmas.{faults_shown}
use Rattle.logos_commands.proofs.item_lines.lex_by_source.Goals as goal

pub returns-in-Ok-clause-done : goal.returns-in-Ok-clause-done
returns-in-Ok-clause-done g c =
    let made = c.in-Ok.made in
    printed_items c.args.source.now c.args.input.now (rules_of made.graph.leaves) made.graph.utf8 made.code c.in-Ok.ensures.accepted c.in-Ok.ensures.lexer
    (are_bytes c.args.input.now c.type_inv.input) _ _ c.lex_by_code.result c.lex_by_code.ensures.text c.lex_by_code.ensures.lines

pub returns-in-Ok-clause-denied : goal.returns-in-Ok-clause-denied
returns-in-Ok-clause-denied g c =
    let made = c.in-Ok.made in
    refused c.args.source.now c.args.input.now (rules_of made.graph.leaves) made.graph.utf8 made.code c.in-Ok.ensures.accepted c.in-Ok.ensures.lexer
    c.lex_by_code.result c.lex_by_code.ensures.denied

pub returns-in-Err-clause-denied : goal.returns-in-Err-clause-denied
returns-in-Err-clause-denied g c =
    λ s. inl (faults_shown (IsRefused c.args.source.now) c.in-Err.refusal c.refused_source.result c.refused_source.ensures.refusal c.in-Err.ensures.refused s)
