-- The options that a value of type `Parser` represents.
use Rattle.std.specs.Prelude.{◌≡◌, false, map, option_map, string_bytes}
use Rattle.logos_token.specs.Views.{stream_tokens}
use Rattle.logos_attribute.specs.LiteralViews.{named_literal_view}
use Rattle.logos_definition.specs.declared.parser.Parser.{Parser}
use Rattle.logos_definition.specs.declared.parser.Utf8Mode.{Utf8Mode}
use Rattle.logos_definition.specs.declared.parser.ExportPath.{ExportPath}
use Rattle.logos_type_params.specs.TypeParams.{value_of}
use Rattle.logos_definition.specs.Options.{ModeView, ExportView, OptionsView}
use Rattle.logos_definition.specs.DefinitionViews.{definition_view}
use Rattle.logos_definition.specs.ErrorTypeViews.{run_in, error_view}

-- The UTF-8 mode that a value represents.
abbrev pub mode_view : Utf8Mode → ModeView
mode_view mode = record { value = mode.value; span = mode.span }

-- The export path that a value represents.
abbrev pub export_view : ExportPath → ExportView
export_view export = record { path = string_bytes export.path; span = export.span }

-- The options that a parser has read.
abbrev pub parser_view : Parser → OptionsView
parser_view p = record {
  utf8 = option_map mode_view p.utf8_mode;
  skips = map definition_view p.skips.items;
  extras = run_in p.extras;
  subpatterns = map named_literal_view p.subpatterns.items;
  error_type = option_map error_view p.error_type;
  logos_path = option_map stream_tokens p.logos_path;
  export_path = option_map export_view p.export_path;
  types = value_of p.types;
}

-- The parser had not failed before the call, and has not failed after it.
abbrev pub HasNotFailed : Parser → Parser → Type 0
HasNotFailed before after = (before.failed ≡ false) × (after.failed ≡ false)
