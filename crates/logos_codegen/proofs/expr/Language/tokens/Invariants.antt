use Rattle.std.proofs.Common.{◌≡◌, ◌≤◌, ◌-◌, Bool, List, map, length}
use Rattle.logos_automaton.specs.Munch.{Rule}
use Rattle.logos_code.specs.Headline.{IsLexer}
use Rattle.logos_codegen.specs.Tokenizing.{token_value}
use Rattle.logos_codegen.proofs.ExprLemmas.{Continues}
use Rattle.logos_codegen.proofs.expr.Language.tokens.Given as goal

-- the items that are read after the tokens are read from the start
abbrev pub invariant-loop-item : goal.invariant-loop-item
invariant-loop-item l = record {
  same_code : l.lexer.code ≡ l.fn.self.code;
  same_input : l.lexer.input ≡ l.input;
  within : l.lexer.to ≤ length l.input;
  continues : (rules : List Rule) (utf8 : Bool) → IsLexer rules utf8 l.fn.self.code → Continues l.fn.self.kinds rules utf8 l.input (map token_value l.tokens.items) l.lexer.to;
}

abbrev pub decreases-loop-item : goal.decreases-loop-item
decreases-loop-item l = length l.input - l.lexer.to
