use Rattle.std.proofs.Common.{◌∙◌, sym}
use Rattle.logos_warnings.specs.Mistakes.{no_effect, with_condition, well_spelled, ill_spelled}
use Rattle.logos_warnings.proofs.MistakeLemmas.{one_more}
use Rattle.logos_warnings.proofs.mistakes.report_named.Goals as goal

pub returns-then-is_useless : goal.returns-then-is_useless
returns-then-is_useless c = rw (one_more c.args.warnings.now.items c.push.new.self.items _ c.in_ok-push.ensures.items) (no_effect c.requires (sym c.is_useless.ensures ∙ c.if-is_useless.true))

pub returns-then-is_conditional : goal.returns-then-is_conditional
returns-then-is_conditional c =
    rw (one_more c.args.warnings.now.items c.push-then-is_conditional.new.self.items _ c.in_ok-push-2.ensures.items)
    (with_condition c.requires (sym c.is_useless.ensures ∙ c.if-is_useless.false) (sym c.is_conditional.ensures ∙ c.if-is_conditional.true))

pub returns-in_default : goal.returns-in_default
returns-in_default c = well_spelled c.requires (sym c.is_useless.ensures ∙ c.if-is_useless.false) (sym c.is_conditional.ensures ∙ c.if-is_conditional.false) c.in_default.ensures

pub returns : goal.returns
returns c =
    rw (one_more c.args.warnings.now.items c.push-2.new.self.items _ c.in_ok-push-3.ensures.items)
    (ill_spelled c.requires (sym c.is_useless.ensures ∙ c.if-is_useless.false) (sym c.is_conditional.ensures ∙ c.if-is_conditional.false) c.in-Some.ensures)
