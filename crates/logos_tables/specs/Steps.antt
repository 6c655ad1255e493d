-- The steps of symbols in states, as numbers. The symbols are the bytes, and after them the end of
-- the input.
use Rattle.std.specs.Prelude.{◌≡◌, ℕ, ◌+◌, ◌*◌, ◌<◌, ◌&&◌, not, List, length, Option, Some, None, if◌then◌else◌, ◌==◌, slice_index}
use Rattle.logos_automaton.specs.Munch.{Use}
use Rattle.logos_code.specs.Code.{CodeValue, CodeState, Mark}
use Rattle.logos_code.specs.Runs.{stays, target}

-- 0 for no state, otherwise 2 plus the state.
abbrev pub led_number : Option ℕ → ℕ
led_number None = 0
led_number (Some state) = state + 2

-- The step of a symbol: 0 if it leads to no state, 1 if the byte stays in the state, otherwise 2
-- plus the target state.
abbrev pub step_number : CodeValue → CodeState → ℕ → ℕ
step_number code state symbol =
    if symbol == 256 then led_number state.at_end
    else (if stays code state.fast_loop symbol then 1 else led_number (target code state.fork symbol))

-- The steps of a state, for each symbol.
pub record HasSteps (code : CodeValue) (state : CodeState) (steps : List ℕ) : Type 0 where
  pub wide : length steps ≡ 257
  pub are : (symbol : ℕ) → symbol < 257 → slice_index steps symbol ≡ step_number code state symbol

-- 0 for no mark, otherwise 2 plus twice the leaf, plus 1 if the mark is late.
abbrev pub mark_number : Option Mark → ℕ
mark_number None = 0
mark_number (Some mark) = if mark.late then mark.leaf * 2 + 3 else mark.leaf * 2 + 2

-- Leaves below this number have marks that fit into 64 bits. No list of leaves is longer.
abbrev pub leaf_limit : ℕ
leaf_limit = 9223372036854775807

-- 1 for a leaf whose matches are skipped without a callback, otherwise 0.
abbrev pub skip_number : Use → ℕ
skip_number use_of = if use_of.skips && not use_of.calls_back then 1 else 0
