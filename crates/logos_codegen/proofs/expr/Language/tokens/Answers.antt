use Rattle.std.proofs.Common.{◌∙◌, ap, arith, map, subst, rules}
use Rattle.std.proofs.lemmas.List.{map-append}
use Rattle.logos_machine.specs.LexerValue.{item_of}
use Rattle.logos_codegen.specs.Language.{LanguageValue, IsLanguage}
use Rattle.logos_codegen.specs.Tokenizing.{token_value}
use Rattle.logos_generator.proofs.InputLemmas.{are_bytes}
use Rattle.logos_codegen.proofs.ExprLemmas.{begins, error_outcome, token_more, tokenized_bad, tokenized_all, outcome_is}
use Rattle.logos_codegen.proofs.expr.Language.tokens.Goals as goal

pub loop-item-init : goal.loop-item-init
loop-item-init c = record {
  same_code = ap (λ l. l.code) c.new_str-lexer.ensures ∙ ap (λ (v : LanguageValue). v.code) c.self.view_is;
  same_input = ap (λ l. l.input) c.new_str-lexer.ensures;
  within = omega (arith, ap (λ l. l.to) c.new_str-lexer.ensures);
  continues = λ rules utf8 lexer. rw (c.new-tokens.ensures.items, ap (λ l. l.to) c.new_str-lexer.ensures) (begins c.args.self.now.kinds rules utf8 c.args.input.now);
}

pub loop-item-preserved : goal.loop-item-preserved
loop-item-preserved c =
    let keeps = c.in-Some.ensures.keeps in
    let given = c.in-Some.ensures.item in
    record {
      same_code = keeps.code ∙ c.loop-item.invariant.same_code;
      same_input = keeps.input ∙ c.loop-item.invariant.same_input;
      within = rw (keeps.input ∙ c.loop-item.invariant.same_input) at given.within;
      continues = λ rules utf8 lexer. rw (c.in_ok-push-in-Ok.ensures.items, map-append)
          (token_more _ (λ leaf slice answer w. search rules) c.args.self.now.code c.args.self.now.kinds c.args.input.now (are_bytes c.args.input.now c.type_inv.input) c.utf8.input c.loop-item.lexer c.next.new.self
          c.loop-item.invariant.same_code c.loop-item.invariant.same_input (map token_value c.loop-item.tokens.items) c.loop-item.invariant.continues
          (item_of c.in-Some.item) (token_value c.in-Ok.token) given c.in-Ok.ensures.ok rules utf8 lexer);
    }

pub returns-clause-reads : goal.returns-clause-reads
returns-clause-reads c =
    tokenized_all _ (λ leaf slice answer w. search rules) c.args.self.now.code c.args.self.now.kinds c.args.input.now (are_bytes c.args.input.now c.type_inv.input) c.utf8.input c.loop-item.lexer c.next.new.self
    c.loop-item.invariant.same_code c.loop-item.invariant.same_input (map token_value c.loop-item.tokens.items) c.loop-item.invariant.continues
    (subst IsLanguage c.self.view_is c.self.invariant) c.in_default.ensures.item

pub returns-clause-all : goal.returns-clause-all
returns-clause-all c = outcome_is c.args.input.now _ (returns-clause-reads c)

pub returns-in-Err-clause-reads : goal.returns-in-Err-clause-reads
returns-in-Err-clause-reads c =
    tokenized_bad _ (λ leaf slice answer w. search rules) c.args.self.now.code c.args.self.now.kinds c.args.input.now (are_bytes c.args.input.now c.type_inv.input) c.utf8.input c.loop-item.lexer c.next.new.self
    c.loop-item.invariant.same_code c.loop-item.invariant.same_input (map token_value c.loop-item.tokens.items) c.loop-item.invariant.continues
    (subst IsLanguage c.self.view_is c.self.invariant) (item_of c.in-Some.item) c.in-Err.span.from c.in-Err.span.to c.in-Some.ensures.item (error_outcome c.args.self.now.kinds _ _ c.in-Err.ensures.err)

pub returns-in-Err-clause-all : goal.returns-in-Err-clause-all
returns-in-Err-clause-all c = outcome_is c.args.input.now _ (returns-in-Err-clause-reads c)
