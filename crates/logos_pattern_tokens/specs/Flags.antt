-- Flags, and the effect of flag settings on them.
use Rattle.std.specs.Prelude.{◌≡◌, ℕ, ◌<◌, Bool, true, false, ◌==◌, List, [], ◌∷◌, ◌++◌, length, Option, Some, None, option_map, unwrap_or, if◌then◌else◌}
use Rattle.logos_pattern_tokens.specs.declared.token.Flags.{Flags}
use Rattle.logos_pattern_tokens.specs.declared.token.Change.{Change}

-- The flag setting that changes no flag.
abbrev pub no_change : Change
no_change = record { unicode = None; ignore_case = None; multi_line = None; dot_all = None; swap_greed = None; crlf = None }

-- The new setting of a flag that is turned on or off. A flag can be set only once.
abbrev pub set_once : Option Bool → Bool → Option (Option Bool)
set_once None on = Some (Some on)
set_once (Some was) on = None

-- The setting with one more letter. It is a fault if the letter is not one of `i m s U u R`, or was
-- read before.
abbrev pub with_letter : Change → Bool → ℕ → Option Change
with_letter change on letter =
    if letter == 105 then option_map (λ f. record change { ignore_case = f }) (set_once change.ignore_case on)
    else if letter == 109 then option_map (λ f. record change { multi_line = f }) (set_once change.multi_line on)
    else if letter == 115 then option_map (λ f. record change { dot_all = f }) (set_once change.dot_all on)
    else if letter == 85 then option_map (λ f. record change { swap_greed = f }) (set_once change.swap_greed on)
    else if letter == 117 then option_map (λ f. record change { unicode = f }) (set_once change.unicode on)
    else if letter == 82 then option_map (λ f. record change { crlf = f }) (set_once change.crlf on)
    else None

-- The letters turn their flags on, or off, in addition to the earlier changes.
pub data Letters : Change → Bool → List ℕ → Change → Type 0 where
  no_letter : (change : Change) (on : Bool) → Letters change on [] change
  a_letter : (change next last : Change) (on : Bool) (letter : ℕ) (letters : List ℕ) →
      with_letter change on letter ≡ Some next → Letters next on letters last → Letters change on (letter ∷ letters) last

-- The letters of a flag setting, and their change: `letters`, or `letters-letters`.
pub data Settings : List ℕ → Change → Type 0 where
  only_on : (on : List ℕ) (change : Change) → 0 < length on → Letters no_change true on change → Settings on change
  some_off : (on off : List ℕ) (half change : Change) → 0 < length off → Letters no_change true on half →
      Letters half false off change → Settings (on ++ 45 ∷ off) change

-- The flags after a setting.
abbrev pub flags_after : Change → Flags → Flags
flags_after change flags = record {
  unicode = unwrap_or change.unicode flags.unicode;
  ignore_case = unwrap_or change.ignore_case flags.ignore_case;
  multi_line = unwrap_or change.multi_line flags.multi_line;
  dot_all = unwrap_or change.dot_all flags.dot_all;
  swap_greed = unwrap_or change.swap_greed flags.swap_greed;
  crlf = unwrap_or change.crlf flags.crlf;
}
