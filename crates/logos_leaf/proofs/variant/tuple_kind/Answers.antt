use Rattle.std.proofs.lemmas.List.{nil_from_length}
use Rattle.std.proofs.lemmas.Result.{IfOk-weaker}
use Rattle.logos_leaf.specs.Variants.{empty}
use Rattle.logos_leaf.proofs.VariantLemmas.{kind_of_first}
use Rattle.logos_leaf.proofs.variant.tuple_kind.Goals as goal

pub returns-in_default : goal.returns-in_default
returns-in_default c = rw (nil_from_length _ c.in_default.ensures.cases) (empty c.in_ok-report_variant_fields.ensures)

pub returns : goal.returns
returns c =
    IfOk-weaker c.value_kind.result _ _
    (λ kind holds. kind_of_first _ c.args.name c.args.span c.args.errors.now c.report_count.new.errors _ c.args.fields.now _ _ _ c.in-Some.ensures.cases.0 c.in_ok-report_count.ensures holds)
    c.value_kind.ensures
