use Rattle.std.proofs.Common.{◌≡◌, List, map, drop}
use Rattle.logos_token.specs.Faults.{Fault}
use Rattle.logos_type_params.specs.SelfReference.{texts}
use Rattle.logos_type_params.specs.WrittenTypes.{params_with}
use Rattle.logos_enum.specs.EnumValues.{variant_value}
use Rattle.logos_leaf.specs.subpattern.SubpatternViews.{names_of}
use Rattle.logos_definition.specs.ParserViews.{parser_view}
use Rattle.logos_leaf.specs.Leaves.{LeafView}
use Rattle.logos_leaf.specs.LeafViews.{leaf_view}
use Rattle.logos_leaf.specs.Variants.{VariantsAdd}
use Rattle.logos_leaf.proofs.variant.add_variants.Given as goal

-- a result for the rest completes to a result for the whole
abbrev pub invariant-loop-variant : goal.invariant-loop-variant
invariant-loop-variant l = record {
  unchanged : parser_view l.parser ≡ parser_view l.fn.parser;
  completes : (after : List LeafView) (new : List Fault) →
      VariantsAdd (params_with l.fn.parser.types (texts l.held.keys)) (names_of l.subpatterns) (map variant_value (drop l.variant-index l.variants)) (map leaf_view l.leaves.items) after
      l.parser.errors new →
      VariantsAdd (params_with l.fn.parser.types (texts l.held.keys)) (names_of l.subpatterns) (map variant_value l.variants) (map leaf_view l.fn.leaves.items) after l.fn.parser.errors new;
}
