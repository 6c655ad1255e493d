-- The ends of paths.
use Rattle.std.proofs.Common.{◌≡◌, ◌≢◌, ◌-◌, ◌++◌, ◌↔◌, Bool, false, IsTrue, List, ap, append_assoc, codes, length, sym, take, ℕ, ◌∙◌}
use Rattle.std.proofs.lemmas.Bool.Decides.{Decides-eqb}
use Rattle.std.proofs.lemmas.List.{append_cancel_right}
use Rattle.std.proofs.lemmas.Slice.Eq.{ends_is}
use Rattle.std.specs.List.{ends_with}
use Rattle.std.specs.Prelude.{nat_eq}
use Rattle.logos_rust_file.specs.Paths.{EndsWithPath}

-- the part of a path before a shorter one ends with `::`, or it does not
pub ends_here : (path end front : List ℕ) (result : Bool) → path ≡ front ++ end → result ≡ ends_with nat_eq front (codes "::") → IsTrue result ↔ EndsWithPath path end
ends_here path end front result whole ends =
    let d = ends_is Decides-eqb front (codes "::") result ends in (
      (λ t. (take (length front - 2) front, whole ∙ ap (λ x. x ++ end) (d.0 t) ∙ append_assoc (take (length front - 2) front) (codes "::") end)),
      λ h. d.1 h.0 (append_cancel_right front (h.0 ++ codes "::") end (sym whole ∙ h.1 ∙ sym (append_assoc h.0 (codes "::") end))),
    )

-- a path that does not end with another one
pub no_end : (path end : List ℕ) → ((front : List ℕ) → path ≢ front ++ end) → IsTrue false ↔ EndsWithPath path end
no_end path end none = ((λ t. absurd cc), λ h. absurd (none (h.0 ++ codes "::") (h.1 ∙ sym (append_assoc h.0 (codes "::") end))))
