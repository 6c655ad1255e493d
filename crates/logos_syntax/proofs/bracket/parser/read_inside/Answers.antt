use Rattle.std.proofs.Common.{◌≡◌, Some, ap, ◌∙◌}
use Rattle.logos_pattern_tokens.specs.declared.bracket.token.BracketToken.TheVariants.{Close}
use Rattle.logos_pattern_tokens.specs.bracket.Reader.{bracket_token_at}
use Rattle.logos_syntax.specs.inside.BracketView.{frames_view}
use Rattle.logos_syntax.proofs.brackets.Texts.{at_opening, one_step, closed}
use Rattle.logos_syntax.proofs.brackets.Answered.{faulted, stopped, unclosed, empty_text}
use Rattle.logos_syntax.proofs.brackets.LeavesLemmas.{shallow_inside, deep_inside}
use Rattle.logos_pattern_tokens.proofs.Shorter.{shorter_bracket}
use Rattle.logos_syntax.proofs.bracket.parser.read_inside.Goals as goal

pub loop-rest-init : goal.loop-rest-init
loop-rest-init c = at_opening c.args.flags c.args.base c.args.opening.negated c.args.opening.lead c.args.text.now (frames_view c.in_ok-frames.frames) c.in_ok-frames.ensures

pub returns-in-Err : goal.returns-in-Err
returns-in-Err c = (
  faulted c.args.flags c.args.base c.args.opening.negated c.args.opening.lead c.args.text.now c.loop-rest.rest.now _ c.loop-rest.invariant c.in-Err.fault c.stop_for.result c.in-Err.ensures c.stop_for.ensures,
  shallow_inside c.args.flags c.args.base c.args.text.now c.in-Err.fault c.stop_for.result c.stop_for.ensures,
)

pub returns-then-ends_by : goal.returns-then-ends_by
returns-then-ends_by c =
    let end = c.if-ends_by.ensures in
    let found : bracket_token_at c.loop-rest.rest.now ≡ Some (Close, c.in-Ok.found.1.now) = c.in-Ok.ensures ∙ ap (λ t. Some (t, c.in-Ok.found.1.now)) end.0 in
    let d = closed c.args.flags c.args.base c.args.opening.negated c.args.opening.lead c.args.text.now c.loop-rest.rest.now c.in-Ok.found.1.now (frames_view c.loop-rest.frames) c.loop-rest.invariant end.1 found in
    let f = c.in_ok-finish.ensures in
    record { inside = d.inside; cut = d.cut; fits = d.fits; is_set = f.0 ∙ d.is_set; is_depth = f.1 ∙ d.is_depth; shallow = f.2 }

pub returns-in-Err-step : goal.returns-in-Err-step
returns-in-Err-step c = (
  stopped c.args.flags c.args.base c.args.opening.negated c.args.opening.lead c.args.text.now c.loop-rest.rest.now (frames_view c.loop-rest.frames) c.loop-rest.invariant c.in-Ok.found.0 c.in-Ok.found.1.now c.in-Err-step.stop _ c.in-Ok.ensures c.if-ends_by.ensures c.in-Err-step.ensures,
  deep_inside c.args.flags c.args.base c.args.opening.negated c.args.opening.lead c.args.text.now c.loop-rest.rest.now (frames_view c.loop-rest.frames) c.loop-rest.invariant c.in-Ok.found.0 c.in-Ok.found.1.now c.in-Err-step.stop _ c.in-Ok.ensures c.in-Err-step.ensures,
)

pub loop-rest-smaller : goal.loop-rest-smaller
loop-rest-smaller c = shorter_bracket c.loop-rest.rest.now c.in-Ok.found.1.now c.in-Ok.found.0 c.in-Ok.ensures

pub loop-rest-preserved : goal.loop-rest-preserved
loop-rest-preserved c =
    let h = c.in_default.ensures in
    one_step c.args.flags c.args.base c.args.opening.negated c.args.opening.lead c.args.text.now c.loop-rest.rest.now c.in-Ok.found.1.now (frames_view c.loop-rest.frames) _ c.in-Ok.found.0 c.loop-rest.invariant c.in-Ok.ensures h.0 h.1

pub returns : goal.returns
returns c = (unclosed c.args.flags c.args.base c.args.opening.negated c.args.opening.lead c.args.text.now c.loop-rest.rest.now (frames_view c.loop-rest.frames) c.loop-rest.invariant (empty_text c.loop-rest.rest.now c.loop-rest-test.ensures), tt)
