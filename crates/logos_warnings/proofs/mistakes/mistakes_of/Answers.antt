use Rattle.std.proofs.Common.{◌≡◌, ◌∙◌, true, false, sym}
use Rattle.logos_warnings.specs.Mistakes.{of_lexer, of_forgotten, of_other}
use Rattle.logos_warnings.proofs.mistakes.mistakes_of.Goals as goal

pub returns-then-derives : goal.returns-then-derives
returns-then-derives c = of_lexer c.if-derives.true c.in_ok-all.ensures

pub returns-then-has_helpers : goal.returns-then-has_helpers
returns-then-has_helpers c = of_forgotten c.if-derives.false (c.has_helpers.ensures.0 c.if-has_helpers.true) c.in_ok-all-2.ensures

pub returns : goal.returns
returns c = rw c.new.ensures.items (of_other c.if-derives.false (λ h. let clash : false ≡ true = sym c.if-has_helpers.false ∙ c.has_helpers.ensures.1 h in cc))
