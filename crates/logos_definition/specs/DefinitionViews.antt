-- The definitions that values of type `Definition` represent.
use Rattle.std.specs.Prelude.{option_map}
use Rattle.logos_attribute.specs.CallbackViews.{callback_view}
use Rattle.logos_attribute.specs.LiteralViews.{literal_view}
use Rattle.logos_definition.specs.declared.definition.Definition.{Definition}
use Rattle.logos_definition.specs.Definitions.{DefinitionView}

-- A definition as a value.
abbrev pub definition_view : Definition → DefinitionView
definition_view d = record {
  literal = literal_view d.literal;
  priority = d.priority;
  callback = option_map callback_view d.callback;
  allow_greedy = d.allow_greedy;
  ignore_case = d.ignore_flags.ignore_case;
}
