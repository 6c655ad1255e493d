use Rattle.std.proofs.Common.{◌≡◌, false, refl, ap, ◌∙◌}
use Rattle.std.proofs.lemmas.List.{get_or_past}
use Rattle.logos_lexeme.specs.LiteralBodies.{is_blank}
use Rattle.logos_lexeme.proofs.lexeme.bodies.blanks_end.Goals as goal

no_blank : is_blank 0 ≡ false
unfolding is_blank
no_blank = refl

pub returns-after-loop-end : goal.returns-after-loop-end
returns-after-loop-end c = record {
  begun = c.loop-end.invariant.begun;
  holds = ap is_blank (get_or_past c.args.source.now c.loop-end.end 0 c.loop-end-test.false) ∙ no_blank;
  first = c.loop-end.invariant.first;
}
