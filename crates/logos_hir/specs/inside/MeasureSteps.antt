-- The steps of the measures.
use Rattle.std.specs.Prelude.{ℕ, min}
use Rattle.logos_hir.specs.Tree.{Trees, none, also}
use Rattle.logos_hir.specs.Priority.{value}

-- The least of a number and the values of trees.
abbrev pub least_with : ℕ → Trees → ℕ
least_with n none = n
least_with n (also t rest) = least_with (min n (value t)) rest
