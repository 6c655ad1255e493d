-- The views of the signs of a code in contracts.
use Rattle.std.specs.Prelude.{◌≡◌, ℕ, ◌<◌, List, length, true, false, Option, Some, None, slice_index_or}
use Rattle.logos_code.specs.Code.{CodeValue, Mark}
use Rattle.logos_code.specs.CodeView.{state_at}
use Rattle.logos_code.specs.declared.code.signs.Sign.{Sign}
use Rattle.logos_code.specs.declared.code.signs.Sign.TheVariants.{Nothing, Here, Before}

-- The mark that a sign represents.
abbrev pub mark_by : Sign → Option Mark
mark_by Nothing = None
mark_by (Here leaf) = Some (record { leaf = leaf.0; late = false })
mark_by (Before leaf) = Some (record { leaf = leaf.0; late = true })

-- The marks of the states.
pub record AreSigns (code : CodeValue) (marks : List (Option Mark)) : Type 0 where
  pub count : length marks ≡ length code.states
  pub each : (s : ℕ) → s < length code.states → slice_index_or marks s None ≡ (state_at code s).mark
