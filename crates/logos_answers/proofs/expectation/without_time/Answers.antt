use Rattle.std.proofs.Common.{◌∙◌, sym, ap, subst}
use Rattle.logos_answers.specs.Expecting.{IsLineStart}
use Rattle.logos_answers.proofs.TimeLemmas.{shows_time, time_cut, time_kept}
use Rattle.logos_answers.proofs.expectation.without_time.Goals as goal

pub returns-then-starts_with : goal.returns-then-starts_with
returns-then-starts_with c =
    let is = subst (λ n. IsLineStart c.args.answer.now n c.line_start-start.result) c.saturating_sub.ensures c.line_start-start.ensures in
    c.front_of.ensures ∙ time_cut c.args.answer.now c.line_start-start.result is (sym (ap shows_time c.tail_of.ensures) ∙ sym c.starts_with.ensures.value ∙ c.if-starts_with.true)

pub returns : goal.returns
returns c =
    let is = subst (λ n. IsLineStart c.args.answer.now n c.line_start-start.result) c.saturating_sub.ensures c.line_start-start.ensures in
    time_kept c.args.answer.now c.line_start-start.result is (sym (ap shows_time c.tail_of.ensures) ∙ sym c.starts_with.ensures.value ∙ c.if-starts_with.false)
