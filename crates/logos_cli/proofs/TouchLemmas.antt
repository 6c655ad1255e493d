-- The operations on the files of a run.
use Rattle.std.proofs.Common.{◌≡◌, ℕ, List, [], ◌∷◌, Option, Some, None, inl, inr, refl, subst}
use Rattle.logos_cli.specs.Orders.{OrderValue}
use Rattle.logos_cli.specs.Runs.{AreTouched, IsTouched, MayWrite}

module _ {F : Type 0} (reads : F → F → Type 0) (writes : F → List ℕ → F → Type 0) where
  -- nothing was compared or written
  pub none_written : (output : Option (List ℕ)) (files : F) → MayWrite reads writes output files files
  none_written output files = (files, inl refl, inl refl)

  -- a file was only compared
  pub only_compared : (output : Option (List ℕ)) (files after : F) → reads files after → MayWrite reads writes output files after
  only_compared output files after l = (after, inr l, inl refl)

  -- it was written after that
  pub then_written : (path : List ℕ) (files compared after : F) → reads files compared → writes compared path after → MayWrite reads writes (Some path) files after
  then_written path files compared after l t = (compared, inr l, inr (path, refl, t))

  -- The operations so far: those for the orders that are left complete them to those for all.
  abbrev pub AreTouchedSoFar : List OrderValue → List OrderValue → F → F → Type 0
  AreTouchedSoFar orders left first now = (after : F) → AreTouched reads writes left now after → AreTouched reads writes orders first after

  pub none_touched : (orders : List OrderValue) (files : F) → AreTouchedSoFar orders orders files files
  none_touched orders files = λ after h. h

  pub next_touched : (orders left : List OrderValue) (order : OrderValue) (first now next : F) → AreTouchedSoFar orders (order ∷ left) first now → IsTouched reads writes order now next → AreTouchedSoFar orders left first next
  next_touched orders left order first now next so t = λ after h. so after (next, t, h)

  pub all_touched : (orders left : List OrderValue) (first now : F) → left ≡ [] → AreTouchedSoFar orders left first now → AreTouched reads writes orders first now
  all_touched orders left first now e so = (subst (λ (l : List OrderValue). AreTouchedSoFar orders l first now) e so) now refl
