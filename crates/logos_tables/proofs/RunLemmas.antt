-- Runs of equal steps.
use Rattle.std.proofs.Common.{◌≡◌, ℕ, zero, suc, ◌+◌, List, [], ◌∷◌, ◌++◌, append-nil, append_assoc, add-one, refl, sym, ◌∙◌, ap}
use Rattle.std.proofs.lemmas.Grind.{flat_map-append}
use Rattle.logos_tables.specs.Layout.{spread, times}

times_more : (n x : ℕ) → times (suc n) x ≡ times n x ++ x ∷ []
times_more zero x = refl
times_more (suc n) x = ap (λ xs. x ∷ xs) (times_more n x)

spread_append : (runs : List (ℕ × ℕ)) (run : ℕ × ℕ) → spread (runs ++ run ∷ []) ≡ spread runs ++ times run.0 run.1
spread_append runs run =
    flat_map-append (λ (run : ℕ × ℕ). times run.0 run.1) runs (run ∷ []) ∙ ap (λ xs. spread runs ++ xs) (append-nil (times run.0 run.1))

-- a run of one step more
pub spread_longer : (runs : List (ℕ × ℕ)) (n x : ℕ) → spread (runs ++ (n + 1, x) ∷ []) ≡ spread (runs ++ (n, x) ∷ []) ++ x ∷ []
spread_longer runs n x =
    spread_append runs (n + 1, x) ∙ ap (λ m. spread runs ++ times m x) (add-one n) ∙ ap (λ xs. spread runs ++ xs) (times_more n x)
    ∙ sym (append_assoc (spread runs) (times n x) (x ∷ [])) ∙ ap (λ xs. xs ++ x ∷ []) (sym (spread_append runs (n, x)))

-- a run of one step
pub spread_new : (runs : List (ℕ × ℕ)) (x : ℕ) → spread (runs ++ (1, x) ∷ []) ≡ spread runs ++ x ∷ []
spread_new runs x = spread_append runs (1, x)
