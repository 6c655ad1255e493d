-- The runs of the tables of Unicode.
use Rattle.std.proofs.Common.{◌≡◌, ℕ, Bool, List, [], ◌∷◌, ◌||◌, refl, sym, ap, ◌∙◌}
use Rattle.unicode.specs.Rows.{HasExactly}
use Rattle.unicode.specs.Rows.{in_ranges as in_runs}
use Rattle.logos_hir.specs.Sets.{members, only_chars, in_range, in_ranges}
use Rattle.logos_hir.proofs.lemmas.RangeLemmas.{same_chars, char_bound}

in_runs-ranges : (runs : List (ℕ × ℕ)) (c : ℕ) → in_runs runs c ≡ in_ranges runs c
unfolding in_runs
in_runs-ranges [] c = refl
in_runs-ranges (r ∷ rest) c = ap (λ b. in_range r c || b) (in_runs-ranges rest c)

pub members_of_runs : (runs : List (ℕ × ℕ)) (p : ℕ → Bool) → HasExactly runs p → members runs ≡ only_chars p
members_of_runs runs p h = same_chars (in_ranges runs) p (λ c hc. sym (in_runs-ranges runs c) ∙ h c (char_bound c hc))
