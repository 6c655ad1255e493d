use Rattle.std.proofs.lemmas.Result.{IfOk-weaker}
use Rattle.logos_pattern.specs.Leaf.{pattern_tree}
use Rattle.logos_definition.specs.DefinitionViews.{definition_view}
use Rattle.logos_leaf.proofs.LeafLemmas.{spelled_whole, unread_whole}
use Rattle.logos_leaf.proofs.leaf.whole_pattern.Goals as goal

pub returns-in-Ok-Some-clause-made : goal.returns-in-Ok-Some-clause-made
returns-in-Ok-Some-clause-made c =
    let w = c.in-Ok-Some in
    let read = rw (w.field-0-is, c.is_string.ensures) at w.ensures.read in
    IfOk-weaker c.fitted_pattern.result _ _ (λ fitted report kind. spelled_whole (definition_view c.args.definition.now) kind c.args.text.now (pattern_tree w.pattern) _ c.args.errors.now c.read_pattern.new.errors c.fitted_pattern.new.errors read (report kind)) c.fitted_pattern.ensures.made

pub returns-in-Ok-None-clause-made : goal.returns-in-Ok-None-clause-made
returns-in-Ok-None-clause-made c =
    let w = c.in-Ok-None in
    let read = rw (w.field-0-is, c.is_string.ensures) at w.ensures.read in
    λ kind. unread_whole (definition_view c.args.definition.now) kind c.args.text.now c.args.errors.now c.read_pattern.new.errors read
