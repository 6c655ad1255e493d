use Rattle.std.proofs.Common.{rules, Some, None, refl, sym, ◌∙◌, append-nil}
use Rattle.logos_pattern.specs.Leaf.{pattern_tree}
use Rattle.logos_definition.specs.DefinitionViews.{definition_view}
use Rattle.logos_leaf.proofs.LeafLemmas.{fitted_is_report}
use Rattle.logos_leaf.proofs.leaf.fitted_pattern.Goals as goal

pub returns-clause-made : goal.returns-clause-made
returns-clause-made c =
    let mid = c.check_greedy.new.errors in
    λ kind. fitted_is_report (definition_view c.args.definition.now) kind (pattern_tree c.args.pattern) (Some c.in-Some.priority) _ c.args.errors.now mid mid (sym c.in-Some.is ∙ c.regex_priority-priority.ensures) c.in-Ok.ensures (refl, sym (append-nil mid))

pub returns-in_default-priority-clause-made : goal.returns-in_default-priority-clause-made
returns-in_default-priority-clause-made c =
    λ kind. fitted_is_report (definition_view c.args.definition.now) kind (pattern_tree c.args.pattern) None None c.args.errors.now c.check_greedy.new.errors _ (sym c.in_default-priority.is ∙ c.regex_priority-priority.ensures) c.in-Ok.ensures (refl, search rules)
