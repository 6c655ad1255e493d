-- The lines of inputs, one after another.
use Rattle.std.proofs.Common.{◌≡◌, ◌≤◌, ◌<◌, ◌+◌, ℕ, zero, suc, List, [], ◌∷◌, ◌++◌, length, get_or, take, drop, map, sym, ap, ◌∙◌, refl, subst}
use Rattle.std.proofs.lemmas.List.{at_drop_more, at_drop_all}
use Rattle.std.specs.List.{flat_map}
use Rattle.logos_page.specs.Pages.{Gains, PageValue}
use Rattle.logos_page.proofs.PageLemmas.{gains_nothing, gains_then}

module _ {X : Type 0} (bytes : X → List ℕ) (f : List ℕ → List ℕ) (xs : List X) (k : ℕ) where
  -- the line of the next one, and those of the rest
  pub next_input : (x : X) {old middle new : PageValue} → k < length xs → x ≡ get_or xs k x → Gains (f (bytes x)) old middle → Gains (flat_map f (map bytes (drop (k + 1) xs))) middle new →
      Gains (flat_map f (map bytes (drop k xs))) old new
  next_input x {old} {middle} {new} l e one rest =
      subst (λ text. Gains text old new)
      (ap (λ y. f (bytes y) ++ flat_map f (map bytes (drop (k + 1) xs))) e ∙ sym (at_drop_more (λ ys. flat_map f (map bytes ys)) xs k x l)) (gains_then one rest)

  -- nothing is left
  pub no_input : (page : PageValue) → length xs ≤ k → Gains (flat_map f (map bytes (drop k xs))) page page
  no_input page l = subst (λ text. Gains text page page) (sym (at_drop_all (λ ys. flat_map f (map bytes ys)) xs k l)) (gains_nothing page)

pub map_take : {X : Type 0} (bytes : X → List ℕ) (n : ℕ) (xs : List X) → map bytes (take n xs) ≡ take n (map bytes xs)
map_take bytes zero xs = refl
map_take bytes (suc n) [] = refl
map_take bytes (suc n) (x ∷ xs) = ap (λ ys. bytes x ∷ ys) (map_take bytes n xs)

pub map_length : {X : Type 0} (bytes : X → List ℕ) (xs : List X) → length xs ≡ length (map bytes xs)
map_length bytes [] = refl
map_length bytes (x ∷ xs) = ap suc (map_length bytes xs)

-- the lines of the first inputs of a list, by other names of it
pub first_shown : {X : Type 0} (bytes : X → List ℕ) (f : List ℕ → List ℕ) (most : ℕ) (xs given first : List X) {old new : PageValue} → first ≡ take most given → given ≡ xs →
    Gains (flat_map f (map bytes first)) old new → Gains (flat_map f (take most (map bytes xs))) old new
first_shown bytes f most xs given first {old} {new} e same g =
    subst (λ ys. Gains (flat_map f ys) old new) (ap (map bytes) e ∙ ap (λ ys. map bytes (take most ys)) same ∙ map_take bytes most xs) g
