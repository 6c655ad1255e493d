use Rattle.std.proofs.Common.{◌≡◌, List, map}
use Rattle.logos_token.specs.Faults.{Fault}
use Rattle.logos_token.specs.Tokens.{count_of}
use Rattle.logos_token.specs.Views.{tokens_of}
use Rattle.logos_pattern.specs.Leaf.{kind_value}
use Rattle.logos_leaf.specs.subpattern.SubpatternViews.{names_of}
use Rattle.logos_definition.specs.ParserViews.{parser_view}
use Rattle.logos_leaf.specs.Leaves.{LeafView}
use Rattle.logos_leaf.specs.LeafViews.{leaf_view}
use Rattle.logos_leaf.specs.Variants.{AttributesAdd}
use Rattle.logos_leaf.proofs.variant.add_attributes.Given as goal

-- a result for the rest completes to a result for the whole
abbrev pub invariant-loop-attribute : goal.invariant-loop-attribute
invariant-loop-attribute l = record {
  unchanged : parser_view l.parser ≡ parser_view l.fn.parser;
  completes : (after : List LeafView) (new : List Fault) →
      AttributesAdd (names_of l.subpatterns) (kind_value l.kind) (tokens_of l.rest) (map leaf_view l.leaves.items) after l.parser.errors new →
      AttributesAdd (names_of l.subpatterns) (kind_value l.kind) (tokens_of l.fn.attributes) (map leaf_view l.fn.leaves.items) after l.fn.parser.errors new;
}

abbrev pub decreases-loop-attribute : goal.decreases-loop-attribute
decreases-loop-attribute l = count_of (tokens_of l.rest)
