-- The callbacks that values of type `Callback` represent.
use Rattle.logos_token.specs.Views.{stream_tokens}
use Rattle.logos_pattern.specs.declared.leaf.Callback.{Callback}
use Rattle.logos_pattern.specs.declared.leaf.Callback.TheVariants.{Label, Inline}
use Rattle.logos_attribute.specs.Slices.{ident_slice}
use Rattle.logos_attribute.specs.Callbacks.{CallbackView, label, inline}

-- A callback as a value.
abbrev pub callback_view : Callback → CallbackView
callback_view (Label tokens) = label (stream_tokens tokens)
callback_view (Inline written) = inline (ident_slice written.arg) (stream_tokens written.body) written.span
