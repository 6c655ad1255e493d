-- The error types that values of type `ErrorType` represent.
use Rattle.std.specs.Prelude.{Option, Some, None, option_map}
use Rattle.logos_token.specs.Tokens.{TokenList}
use Rattle.logos_token.specs.Views.{stream_tokens}
use Rattle.logos_token.specs.declared.util.MaybeVoid.{MaybeVoid}
use Rattle.logos_token.specs.declared.util.MaybeVoid.TheVariants.{Some as SomeTokens, Void}
use Rattle.logos_type.specs.TypeTrees.{type_tree}
use Rattle.logos_attribute.specs.CallbackViews.{callback_view}
use Rattle.logos_definition.specs.declared.error_type.ErrorType.{ErrorType}
use Rattle.logos_definition.specs.ErrorTypes.{ErrorView}

-- The tokens, if there are some.
abbrev pub run_in : MaybeVoid → Option TokenList
run_in (SomeTokens stream) = Some (stream_tokens stream)
run_in Void = None

-- An error type as a value.
abbrev pub error_view : ErrorType → ErrorView
error_view e = record { type_run = run_in e.ty; type = option_map type_tree e.type_expr; callback = option_map callback_view e.callback }
