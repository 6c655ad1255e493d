-- Steps of states.
use Rattle.std.proofs.Common.{◌≡◌, ℕ, ◌<◌, Option, Some, None, IfSome, arith}

-- a state that is named exists
pub some_named : (target : Option ℕ) (state count : ℕ) → target ≡ Some state → IfSome target (λ s. s < count) → state < count
some_named None state count is named = absurd cc
some_named (Some s) state count is named = let same : s ≡ state = cc in omega (arith, named, same)
