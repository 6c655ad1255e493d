use Rattle.std.proofs.Common.{Bool, subst}
use Rattle.std.specs.Borrow.{Bor}
use Rattle.logos_pattern_tokens.specs.declared.token.Token.{Token}
use Rattle.logos_pattern_tokens.specs.Token.{Text, token_view}
use Rattle.logos_syntax.specs.inside.GroupsView.{state_view}
use Rattle.logos_syntax.specs.inside.GroupNames.{Admits}
use Rattle.logos_syntax.proofs.patterns.Fronts.{shallow_token, step_is_deep}
use Rattle.logos_syntax.proofs.patterns.Texts.{faulted, twice, step_stops, simple_goes}
use Rattle.logos_syntax.proofs.parser.PatternParser.simple.Goals as goal

pub returns-in-Err : goal.returns-in-Err
returns-in-Err c = λ seen h. (
  faulted {X = Token × Bor Text} (λ x. (token_view x.0, x.1.now)) (state_view c.args.self.now.groups) seen c.args.text.now c.in-Err.fault c.stop.result c.in-Err.ensures c.stop.ensures,
  shallow_token c.in-Err.fault c.stop.result (state_view c.args.self.now.groups) seen c.args.text.now _ c.stop.ensures,
)

pub returns-then-not-branch : goal.returns-then-not-branch
returns-then-not-branch c = λ seen h. (
  twice (state_view c.args.self.now.groups) seen c.args.text.now c.in-Ok.found.1.now (token_view c.in-Ok.found.0) c.admit.new.self c.in-Ok.ensures
      (subst (λ (b : Bool). Admits seen (token_view c.in-Ok.found.0) b c.admit.new.self) c.if-not-branch.true (c.in_ok-admit.ensures seen h)),
  tt,
)

pub returns-in-Err-step : goal.returns-in-Err-step
returns-in-Err-step c = λ seen h. (
  step_stops (state_view c.args.self.now.groups) (state_view c.step.new.self) seen c.args.text.now c.in-Ok.found.1.now (token_view c.in-Ok.found.0) c.in-Err-step.stop c.in-Ok.ensures c.in-Err-step.ensures,
  step_is_deep (state_view c.args.self.now.groups) (state_view c.step.new.self) seen c.args.text.now c.in-Ok.found.1.now (token_view c.in-Ok.found.0) c.admit.new.self c.in-Err-step.stop c.in-Ok.ensures
      (subst (λ (b : Bool). Admits seen (token_view c.in-Ok.found.0) b c.admit.new.self) c.if-not-branch.false (c.in_ok-admit.ensures seen h)) c.in-Err-step.ensures,
)

pub returns : goal.returns
returns c = λ seen h.
    simple_goes (state_view c.args.self.now.groups) (state_view c.step.new.self) seen c.args.text.now c.in-Ok.found.1.now (token_view c.in-Ok.found.0) c.admit.new.self c.in_default.field-0 c.in-Ok.ensures
    (subst (λ (b : Bool). Admits seen (token_view c.in-Ok.found.0) b c.admit.new.self) c.if-not-branch.false (c.in_ok-admit.ensures seen h)) c.in_default.ensures
