-- Lines of leaves, one after another.
use Rattle.std.proofs.Common.{◌≡◌, ◌≤◌, ◌⊎◌, inl, inr, ℕ, suc, ◌+◌, List, [], ◌++◌, arith, subst}
use Rattle.std.proofs.lemmas.List.{append-nil}
use Rattle.logos_page.proofs.PageLemmas.{gains_then}
use Rattle.logos_page.specs.Pages.{Gains, PageValue}
use Rattle.logos_pattern.specs.declared.leaf.Leaf.{Leaf}
use Rattle.logos_attempts.specs.Partials.{AddsLine, IsPartialLine, PartialLines, adds}

module _ (leaves : List Leaf) (input : List ℕ) (from : ℕ) where
  -- at most this number of lines was appended
  abbrev pub HasLines : ℕ → PageValue → PageValue → Type 0
  HasLines most old new = (count : ℕ) × (text : List ℕ) × (count ≤ most) × PartialLines leaves input from count text × Gains text old new

  -- and one more, or nothing
  pub next_line : {most : ℕ} {old middle new : PageValue} → HasLines most old middle → AddsLine leaves input from middle new → HasLines (most + 1) old new
  next_line {most} {old} {middle} {new} h a = go a.1
    where
      go : (a.0 ≡ []) ⊎ IsPartialLine leaves input from a.0 → HasLines (most + 1) old new
      go (inl e) = (h.0, h.1, omega (arith, h.2), h.3, subst (λ text. Gains text old new) (append-nil h.1) (gains_then h.4 (subst (λ line. Gains line middle new) e a.2)))
      go (inr is) = (suc h.0, h.1 ++ a.0, omega (arith, h.2), adds h.0 h.1 a.0 h.3 is, gains_then h.4 a.2)
