-- The values of settings, by the numbers of their options.
use Rattle.std.proofs.Common.{◌≡◌, ℕ, zero, suc, List, [], ◌∷◌, get_or, map, refl}

-- A view of an element.
pub at_mapped : {X Y : Type 0} (f : X → Y) (xs : List X) (i : ℕ) (d : X) → get_or (map f xs) i (f d) ≡ f (get_or xs i d)
at_mapped f [] i d = refl
at_mapped f (x ∷ xs) zero d = refl
at_mapped f (x ∷ xs) (suc i) d = at_mapped f xs i d
