use Rattle.std.proofs.Common.{◌∙◌, ap, codes, refl, sym}
use Rattle.std.proofs.lemmas.Result.{IfOk-weaker}
use Rattle.logos_leaf.specs.Variants.{is_named, on_error, on_token, on_regex, on_other}
use Rattle.logos_leaf.proofs.variant.read_attribute.Goals as goal

pub returns-in_default-clause-given : goal.returns-in_default-clause-given
returns-in_default-clause-given c =
    on_other (ap (λ m. is_named m (codes "error")) c.in_default.ensures) (ap (λ m. is_named m (codes "token")) c.in_default.ensures)
    (ap (λ m. is_named m (codes "regex")) c.in_default.ensures) refl

pub returns-then-eq-clause-given : goal.returns-then-eq-clause-given
returns-then-eq-clause-given c =
    on_error (ap (λ m. is_named m (codes "error")) c.in-Some.ensures ∙ (sym c.eq.ensures ∙ c.if-eq.true)) c.in_ok-report_error_variant.ensures

pub returns-then-eq-2-clause-given : goal.returns-then-eq-2-clause-given
returns-then-eq-2-clause-given c =
    IfOk-weaker c.read_token.result _ _
    (λ leaf reads_as. on_token (ap (λ m. is_named m (codes "token")) c.in-Some.ensures ∙ (sym c.eq-2.ensures ∙ c.if-eq-2.true)) reads_as)
    c.read_token.ensures.given

pub returns-then-eq-3-clause-given : goal.returns-then-eq-3-clause-given
returns-then-eq-3-clause-given c =
    IfOk-weaker c.read_regex.result _ _
    (λ leaf reads_as. on_regex (ap (λ m. is_named m (codes "regex")) c.in-Some.ensures ∙ (sym c.eq-3.ensures ∙ c.if-eq-3.true)) reads_as)
    c.read_regex.ensures.given

pub returns-clause-given : goal.returns-clause-given
returns-clause-given c =
    on_other (ap (λ m. is_named m (codes "error")) c.in-Some.ensures ∙ (sym c.eq.ensures ∙ c.if-eq.false))
    (ap (λ m. is_named m (codes "token")) c.in-Some.ensures ∙ (sym c.eq-2.ensures ∙ c.if-eq-2.false))
    (ap (λ m. is_named m (codes "regex")) c.in-Some.ensures ∙ (sym c.eq-3.ensures ∙ c.if-eq-3.false)) refl
