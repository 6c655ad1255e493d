use Rattle.std.proofs.Common.{◌≡◌, false}
use Rattle.logos_pattern.specs.Leaf.{pattern_tree, kind_value}
use Rattle.logos_definition.specs.DefinitionViews.{definition_view}
use Rattle.logos_leaf.specs.Leaves.{leaf_with}
use Rattle.logos_leaf.specs.LeafViews.{leaf_view}
use Rattle.logos_leaf.proofs.leaf.read_leaf.Goals as goal

pub returns-in-Ok-Some : goal.returns-in-Ok-Some
returns-in-Ok-Some c =
    let w = c.in-Ok-Some in
    let kind = kind_value c.args.kind in
    let made = rw w.field-0-is at w.ensures.made in
    let form = rw w.field-0-is at w.ensures.regex in
    let same : leaf_view c.leaf_with.result ≡ leaf_with false (definition_view c.args.definition) kind (pattern_tree w.pattern) w.priority = rw form at c.leaf_with.ensures in
    rw same (made kind)

pub returns-in-Ok-None : goal.returns-in-Ok-None
returns-in-Ok-None c =
    let w = c.in-Ok-None in
    (rw w.field-0-is at w.ensures.made) (kind_value c.args.kind)
