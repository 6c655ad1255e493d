-- Views of callbacks.
use Rattle.std.proofs.Common.{◌≡◌, refl}
use Rattle.logos_pattern.specs.declared.leaf.Callback.{Callback}
use Rattle.logos_pattern.specs.declared.leaf.Callback.TheVariants.{Label, Inline}
use Rattle.logos_pattern.specs.Leaf.{callback_span}
use Rattle.logos_attribute.specs.Callbacks.{view_span}
use Rattle.logos_attribute.specs.CallbackViews.{callback_view}

pub span_view : (callback : Callback) → callback_span callback ≡ view_span (callback_view callback)
span_view (Label tokens) = refl
span_view (Inline written) = refl
