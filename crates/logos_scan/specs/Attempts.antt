-- The state of an attempt before a byte, and attempts that are skipped.
use Rattle.std.specs.Prelude.{◌≡◌, ℕ, ◌+◌, ◌*◌, ◌≤◌, List, drop}
use Rattle.logos_automaton.specs.Munch.{matched}
use Rattle.logos_code.specs.Code.{CodeValue}
use Rattle.logos_code.specs.CodeView.{state_at}
use Rattle.logos_code.specs.Rows.{IsUse}
use Rattle.logos_code.specs.Runs.{looped}
use Rattle.logos_code.specs.declared.code.rows.MatchUse.TheVariants.{Skips}
use Rattle.logos_machine.specs.inside.Looks.{Comes, Attempted}

-- The attempt that begins at `start` has reached the state of the row, and its fast loop has
-- reached this byte.
pub record ComesTo (code : CodeValue) (bytes : List ℕ) (start at row_start : ℕ) : Type 0 where
  pub state : ℕ
  pub is : row_start ≡ 272 * state
  pub offset : ℕ
  pub before : ℕ
  pub comes : Comes code bytes start state offset before
  pub past : offset ≤ at
  pub loops : offset + looped code (state_at code state).fast_loop (drop offset bytes) ≡ at + looped code (state_at code state).fast_loop (drop at bytes)

-- From one point to the other, each attempt has a match that is skipped without a callback.
pub data SkipsTo (code : CodeValue) (bytes : List ℕ) : ℕ → ℕ → Type 0 where
  skips_none : (at : ℕ) → SkipsTo code bytes at at
  skips_then : (from mid to leaf steps : ℕ) → SkipsTo code bytes from mid → Attempted code bytes mid (matched leaf to) steps → IsUse code leaf Skips → SkipsTo code bytes from to
