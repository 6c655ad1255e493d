use Rattle.logos_graph.specs.View.{rules_of}
use Rattle.logos_machine.specs.LexerValue.{answers_of}
use Rattle.logos_generator.proofs.InputLemmas.{are_bytes}
use Rattle.logos_codegen.proofs.LexLemmas.{memory_no_refusal, items_of_result, order_of_result, parts_of_result, cut_of_result, shapes_of_result, takes_by_rules, unlexed_just, unlexed_no_refusal}
use Rattle.logos_codegen.proofs.lexing.lex_source.Goals as goal

pub lex_input-found-requires : goal.lex_input-found-requires
lex_input-found-requires g c =
    let made = c.in-Ok.ensures in
    takes_by_rules g.C.Fn (rules_of c.in-Ok.generated.graph.leaves) c.in-Ok.generated.code c.args.callbacks made.lexer.uses (c.requires (rules_of c.in-Ok.generated.graph.leaves) c.in-Ok.generated.graph.utf8 made.accepted)

pub returns-in-Err-clause-accepted : goal.returns-in-Err-clause-accepted
returns-in-Err-clause-accepted g c = λ rules utf8 a limits. memory_no_refusal _ c.from.result c.from.ensures (c.in-Err.ensures.complete rules utf8 a limits)

pub returns-in-Ok-clause-items : goal.returns-in-Ok-clause-items
returns-in-Ok-clause-items g c =
    let made = c.in-Ok.ensures in
    items_of_result c.args.src.now (rules_of c.in-Ok.generated.graph.leaves) c.in-Ok.generated.graph.utf8 c.in-Ok.generated.code made.accepted made.lexer
    (answers_of g.C.Fn c.args.callbacks) c.args.input.now (are_bytes c.args.input.now c.type_inv.input) c.lex_input-found.result c.lex_input-found.ensures.items c.lex_input-found.ensures.text

pub returns-in-Ok-clause-in_order : goal.returns-in-Ok-clause-in_order
returns-in-Ok-clause-in_order g c =
    let made = c.in-Ok.ensures in
    order_of_result c.args.src.now (rules_of c.in-Ok.generated.graph.leaves) c.in-Ok.generated.graph.utf8 c.in-Ok.generated.code made.accepted made.lexer
    (answers_of g.C.Fn c.args.callbacks) c.args.input.now (are_bytes c.args.input.now c.type_inv.input) c.lex_input-found.result c.lex_input-found.ensures.items c.lex_input-found.ensures.text

pub returns-in-Ok-clause-parts : goal.returns-in-Ok-clause-parts
returns-in-Ok-clause-parts g c =
    let made = c.in-Ok.ensures in
    parts_of_result c.args.src.now (rules_of c.in-Ok.generated.graph.leaves) c.in-Ok.generated.graph.utf8 c.in-Ok.generated.code made.accepted made.lexer
    (answers_of g.C.Fn c.args.callbacks) c.args.input.now (are_bytes c.args.input.now c.type_inv.input) c.lex_input-found.result c.lex_input-found.ensures.items c.lex_input-found.ensures.text

pub returns-in-Ok-clause-cut : goal.returns-in-Ok-clause-cut
returns-in-Ok-clause-cut g c =
    let made = c.in-Ok.ensures in
    cut_of_result c.args.src.now (rules_of c.in-Ok.generated.graph.leaves) c.in-Ok.generated.graph.utf8 c.in-Ok.generated.code made.accepted made.lexer
    (answers_of g.C.Fn c.args.callbacks) c.args.input.now (are_bytes c.args.input.now c.type_inv.input) c.lex_input-found.result c.lex_input-found.ensures.items c.lex_input-found.ensures.text

pub returns-in-Ok-clause-shapes : goal.returns-in-Ok-clause-shapes
returns-in-Ok-clause-shapes g c =
    let made = c.in-Ok.ensures in
    shapes_of_result c.args.src.now (rules_of c.in-Ok.generated.graph.leaves) c.in-Ok.generated.graph.utf8 c.in-Ok.generated.code made.accepted made.lexer
    (answers_of g.C.Fn c.args.callbacks) c.args.input.now (are_bytes c.args.input.now c.type_inv.input) c.lex_input-found.result c.lex_input-found.ensures.items c.lex_input-found.ensures.text

pub returns-in-Ok-clause-err : goal.returns-in-Ok-clause-err
returns-in-Ok-clause-err g c =
    let made = c.in-Ok.ensures in
    unlexed_just c.args.src.now (rules_of c.in-Ok.generated.graph.leaves) c.in-Ok.generated.graph.utf8 c.in-Ok.generated.code c.args.input.now made.accepted made.lexer
    c.lex_input-found.result c.lex_input-found.ensures.err

pub returns-in-Ok-clause-accepted : goal.returns-in-Ok-clause-accepted
returns-in-Ok-clause-accepted g c = λ rules utf8 a limits. unlexed_no_refusal c.in-Ok.generated.code c.args.input.now c.lex_input-found.result c.lex_input-found.ensures.err
