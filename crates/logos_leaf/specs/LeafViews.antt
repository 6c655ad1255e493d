-- The views of leaves in contracts.
use Rattle.std.specs.Prelude.{option_map}
use Rattle.logos_pattern.specs.Leaf.{pattern_tree, source_of, is_token, kind_value}
use Rattle.logos_pattern.specs.declared.leaf.Leaf.{Leaf}
use Rattle.logos_attribute.specs.CallbackViews.{callback_view}
use Rattle.logos_leaf.specs.Leaves.{LeafView}

-- A leaf as a value.
abbrev pub leaf_view : Leaf → LeafView
leaf_view leaf = record {
  is_token = is_token leaf.pattern;
  tree = pattern_tree leaf.pattern;
  source = source_of leaf.pattern;
  span = leaf.span;
  priority = leaf.priority;
  kind = kind_value leaf.kind;
  callback = option_map callback_view leaf.callback;
  options = leaf.options;
}
