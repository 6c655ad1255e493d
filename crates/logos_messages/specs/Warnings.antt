-- The lines of warnings.
use Rattle.std.specs.Prelude.{◌≡◌, ℕ, List, [], ◌∷◌, false}
use Rattle.json.specs.Token.{Token}
use Rattle.logos_json.specs.Lines.{AreLines, LinesValue, Puts}
use Rattle.logos_report.specs.declared.warnings.Warning.{Warning}
use Rattle.logos_report.specs.Locations.{SourceValue}
use Rattle.logos_report.specs.Warnings.{warning_texts}
use Rattle.logos_messages.specs.Shown.{IsShown, Shown}
use Rattle.logos_messages.specs.Tokens.{warning_tokens}

-- These tokens are the line of a warning of the part of a file that begins at an offset: the report
-- has the line of the warning, the one that names its location, and otherwise only asides.
pub record IsWarningLine (source : SourceValue) (begin : ℕ) (warning : Warning) (tokens : List Token) : Type 0 where
  pub shown : Shown
  pub may : IsShown source begin warning.span warning.also (warning_texts false source begin warning) shown
  pub is : tokens ≡ warning_tokens source begin warning shown

-- The lines of warnings, one for each, in order.
abbrev pub WarningLines : SourceValue → ℕ → List Warning → List (List Token) → Type 0
WarningLines source begin [] lines = lines ≡ []
WarningLines source begin (warning ∷ warnings) lines =
    (line : List Token) × (rest : List (List Token)) × (lines ≡ line ∷ rest) × IsWarningLine source begin warning line × WarningLines source begin warnings rest

-- These bytes are the lines of warnings.
abbrev pub AreWarnings : SourceValue → ℕ → List Warning → List ℕ → Type 0
AreWarnings source begin warnings text = (lines : List (List Token)) × WarningLines source begin warnings lines × AreLines lines text

-- The line of a warning was appended.
abbrev pub PutsWarning : SourceValue → ℕ → Warning → LinesValue → LinesValue → Type 0
PutsWarning source begin warning old new = (line : List Token) × IsWarningLine source begin warning line × Puts (line ∷ []) old new

-- The lines of warnings were appended.
abbrev pub PutsWarnings : SourceValue → ℕ → List Warning → LinesValue → LinesValue → Type 0
PutsWarnings source begin warnings old new = (lines : List (List Token)) × WarningLines source begin warnings lines × Puts lines old new
