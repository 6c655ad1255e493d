use Rattle.std.proofs.Common.{◌≡◌, ◌∙◌, true, false, sym}
use Rattle.logos_warnings.specs.Mistakes.{with_patterns, without}
use Rattle.logos_warnings.proofs.mistakes.of_lexer.Goals as goal

pub returns-then-has_patterns : goal.returns-then-has_patterns
returns-then-has_patterns c = with_patterns (c.has_patterns.ensures.0 c.if-has_patterns.true) c.in_ok-names.ensures

pub returns : goal.returns
returns c = without (λ h. let clash : false ≡ true = sym c.if-has_patterns.false ∙ c.has_patterns.ensures.1 h in cc) c.in_ok-all.ensures
