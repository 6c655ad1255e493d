use Rattle.std.proofs.lemmas.Result.{IfOk-weaker}
use Rattle.logos_definition.specs.DefinitionViews.{definition_view}
use Rattle.logos_leaf.specs.subpattern.SubpatternViews.{names_of}
use Rattle.logos_leaf.proofs.LeafLemmas.{whole_is_regex, missing_is_regex}
use Rattle.logos_leaf.proofs.leaf.regex_pattern.Goals as goal

pub returns-in-Ok-Some-clause-made : goal.returns-in-Ok-Some-clause-made
returns-in-Ok-Some-clause-made c =
    let w = c.in-Ok-Some in
    let put = rw w.field-0-is at w.ensures in
    IfOk-weaker c.whole_pattern.result _ _ (λ fitted whole kind. whole_is_regex (definition_view c.args.definition.now) kind (names_of c.args.subpatterns.now) _ _ c.args.errors.now c.whole_text.new.errors c.whole_pattern.new.errors put (rw c.as_str.ensures.value at (whole kind))) c.whole_pattern.ensures.made

pub returns-in-Ok-None-clause-made : goal.returns-in-Ok-None-clause-made
returns-in-Ok-None-clause-made c =
    let w = c.in-Ok-None in
    let put = rw w.field-0-is at w.ensures in
    λ kind. missing_is_regex (definition_view c.args.definition.now) kind (names_of c.args.subpatterns.now) c.args.errors.now c.whole_text.new.errors put
