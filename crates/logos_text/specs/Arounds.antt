-- The text around the body of a lexer, as values.
use Rattle.std.specs.Prelude.{option_copied, option_map}
use Rattle.logos_text.specs.Fronts.{AroundValue}
use Rattle.logos_text.specs.declared.implementation.Around.{Around}
use Rattle.logos_token.specs.Views.{tokens_of}
use Rattle.logos_type.specs.TypeTrees.{type_tree}

-- The text around the body of a lexer, as a value.
abbrev pub around_value : Around → AroundValue
around_value around = record {
  logos = option_map tokens_of around.logos;
  error = option_map tokens_of around.error;
  error_type = option_map type_tree (option_copied around.error_type);
  extras = option_map tokens_of around.extras;
  source = around.source.now;
}
