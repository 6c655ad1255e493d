use Rattle.std.proofs.Common.{◌≡◌, map, Result, Ok, Err, IfOk, rules}
use Rattle.logos_graph.specs.View.{rule_of, rules_of}
use Rattle.logos_code.specs.Code.{CodeValue}
use Rattle.logos_code.specs.Headline.{IsLexer}
use Rattle.logos_generator.specs.Runs.{RunsAs}
use Rattle.logos_generator.proofs.Compose.{is_lexer_of}
use Rattle.logos_codegen.proofs.generation.code_of.Goals as goal

-- a property of a result by three facts about it
together : {T E : Type 0} (P Q R S : T → Type 0) (result : Result T E) → ((x : T) → P x → Q x → R x → S x) → IfOk result P → IfOk result Q → IfOk result R → IfOk result S
together P Q R S (Ok x) by p q r = by x p q r
together P Q R S (Err e) by p q r = tt

pub returns-clause-lexer : goal.returns-clause-lexer
returns-clause-lexer c =
    let graph = c.args.graph.now in
    together (RunsAs graph.states graph.utf8) (λ code. code.utf8 ≡ graph.utf8) (λ (code : CodeValue). code.leaves ≡ map (λ leaf. (rule_of leaf).use_of) graph.leaves)
    (IsLexer (rules_of graph.leaves) graph.utf8) c.generate.result (λ code runs mode uses. is_lexer_of graph code (c.requires.of_leaves.finds c.requires.faultless) runs mode uses)
    (rw c.new-generator.ensures at c.generate.ensures.runs) (rw c.new-generator.ensures at c.generate.ensures.mode) (rw c.new-generator.ensures at c.generate.ensures.uses)

pub returns-clause-keeps : goal.returns-clause-keeps
returns-clause-keeps c = search (rules, rw c.new-generator.ensures at c.generate.ensures.keeps)
