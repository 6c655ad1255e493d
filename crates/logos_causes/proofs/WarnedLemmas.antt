-- The warnings about a lexer.
use Rattle.std.proofs.Common.{List, inl, inr, ◌≡◌, Bor, Some, length, refl, slice_get, subst, ℕ}
use Rattle.std.proofs.lemmas.Option.{slice_get_read}
use Rattle.std.specs.Slice.{IsItemAt}
use Rattle.logos_graph.specs.View.{GraphValue}
use Rattle.logos_pattern.specs.declared.leaf.Leaf.{Leaf}
use Rattle.logos_report.specs.declared.warnings.Warning.{Warning}
use Rattle.logos_warnings.specs.Shown.{AddsEach}
use Rattle.logos_warnings.proofs.ShownLemmas.{adds_also, adds_then}
use Rattle.logos_causes.specs.Warned.{IsHidden, IsOfCallback, IsOfLexer}

-- those of the callback for errors, those of the other callbacks, and those of leaves
pub of_lexer : (graph : GraphValue) (old one other new : List Warning) → AddsEach IsOfCallback old one → AddsEach IsOfCallback one other → AddsEach (IsHidden graph) other new → AddsEach (IsOfLexer graph) old new
of_lexer graph old one other new a b c =
    let callback = λ (list next : List Warning). adds_also IsOfCallback (IsOfLexer graph) list next (λ warning h. inl h) in
    adds_then (IsOfLexer graph) old other new (adds_then (IsOfLexer graph) old one other (callback old one a) (callback one other b)) (adds_also (IsHidden graph) (IsOfLexer graph) other new (λ warning h. inr h) c)

-- the leaf with a number
pub leaf_at : (leaves list : List Leaf) (number : ℕ) (leaf : Bor Leaf) → list ≡ leaves → IsItemAt list number (Some leaf) → slice_get leaves number ≡ Some leaf.now
leaf_at leaves list number leaf e h = subst (λ xs. slice_get xs number ≡ Some leaf.now) e (slice_get_read list (length list) number leaf.now refl h.3.0 h.1)
