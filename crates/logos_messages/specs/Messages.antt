-- The lines of faults: at most 50 of one code, and one with the number of the others.
use Rattle.std.specs.Prelude.{◌≡◌, ◌==◌, nat_lt, ℕ, Bool, true, false, List, [], ◌∷◌, ◌++◌, drop, take}
use Rattle.json.specs.Token.{Token}
use Rattle.logos_json.specs.Lines.{AreLines, LinesValue, Puts}
use Rattle.logos_report.specs.declared.file_report.Refused.{Refused}
use Rattle.logos_report.specs.Faults.{fault_texts, left_out, rest_line, seen_of}
use Rattle.logos_report.specs.Parts.{all_faults}
use Rattle.logos_report.specs.Locations.{SourceValue}
use Rattle.logos_report.specs.Reports.{InReport}
use Rattle.logos_token.specs.Faults.{Fault}
use Rattle.logos_token.specs.declared.error.fault_code.FaultCode.{FaultCode}
use Rattle.logos_messages.specs.Shown.{IsShown, Shown}
use Rattle.logos_messages.specs.Tokens.{fault_tokens, rest_tokens}

-- These tokens are the line of a fault of the part of a file that begins at an offset: the report
-- has the line of the fault, the one that names its location, and otherwise only asides.
pub record IsFaultLine (source : SourceValue) (begin : ℕ) (fault : Fault) (tokens : List Token) : Type 0 where
  pub shown : Shown
  pub may : IsShown source begin fault.span fault.also (fault_texts false source begin fault) shown
  pub is : tokens ≡ fault_tokens source begin fault shown

-- These tokens are the line with the number of faults of a code that are left out; its report has
-- the number too.
pub record IsRestLine (code : FaultCode) (count : ℕ) (tokens : List Token) : Type 0 where
  pub rendered : List ℕ
  pub occurs : InReport false (rest_line false code count ∷ []) rendered
  pub is : tokens ≡ rest_tokens code count rendered

-- The lines for a fault: its own if it is shown; otherwise the number of those that are left out,
-- at the first of these.
abbrev pub LinesFor : Bool → Bool → SourceValue → ℕ → Fault → ℕ → List (List Token) → Type 0
LinesFor true is_first source begin fault count lines = (line : List Token) × IsFaultLine source begin fault line × (lines ≡ line ∷ [])
LinesFor false true source begin fault count lines = (line : List Token) × IsRestLine fault.code count line × (lines ≡ line ∷ [])
LinesFor false false source begin fault count lines = lines ≡ []

-- The lines for a fault of a list, after those before it: it is shown if fewer than 50 earlier ones
-- have its code.
abbrev pub CountedLines : SourceValue → ℕ → List Fault → List Fault → Fault → List (List Token) → Type 0
CountedLines source begin all front fault lines =
    LinesFor (nat_lt (seen_of fault.code front) 50) (seen_of fault.code front == 50) source begin fault (left_out fault.code all) lines

-- The lines for the faults after some earlier ones, in order.
abbrev pub LinesAfter : SourceValue → ℕ → List Fault → List Fault → List Fault → List (List Token) → Type 0
LinesAfter source begin all front [] lines = lines ≡ []
LinesAfter source begin all front (fault ∷ faults) lines =
    (first rest : List (List Token)) × (lines ≡ first ++ rest) × CountedLines source begin all front fault first × LinesAfter source begin all (front ++ fault ∷ []) faults rest

-- The lines for the faults of several parts of a file, one after another. `all` are the faults of
-- all parts, and `front` those of the parts before these.
abbrev pub PartLines : SourceValue → List Fault → List Fault → List Refused → List (List Token) → Type 0
PartLines source all front [] lines = lines ≡ []
PartLines source all front (part ∷ parts) lines =
    (first rest : List (List Token)) × (lines ≡ first ++ rest) × LinesAfter source part.offset all front part.errors first × PartLines source all (front ++ part.errors) parts rest

-- These bytes are the lines of the faults of the part of a file that begins at an offset.
abbrev pub AreMessages : SourceValue → ℕ → List Fault → List ℕ → Type 0
AreMessages source begin faults text = (lines : List (List Token)) × LinesAfter source begin faults [] faults lines × AreLines lines text

-- These bytes are the lines of the faults of all parts of a file.
abbrev pub AreRefusedMessages : SourceValue → List Refused → List ℕ → Type 0
AreRefusedMessages source parts text = (lines : List (List Token)) × PartLines source (all_faults parts) [] parts lines × AreLines lines text

-- The lines for a fault of a list were appended.
abbrev pub PutsCounted : SourceValue → ℕ → List Fault → List Fault → Fault → LinesValue → LinesValue → Type 0
PutsCounted source begin all front fault old new = (lines : List (List Token)) × CountedLines source begin all front fault lines × Puts lines old new

-- The line of a fault was appended.
abbrev pub PutsFault : SourceValue → ℕ → Fault → LinesValue → LinesValue → Type 0
PutsFault source begin fault old new = (line : List Token) × IsFaultLine source begin fault line × Puts (line ∷ []) old new

-- The line with the number of faults of a code that are left out was appended.
abbrev pub PutsRest : FaultCode → ℕ → LinesValue → LinesValue → Type 0
PutsRest code count old new = (line : List Token) × IsRestLine code count line × Puts (line ∷ []) old new

-- The lines for the faults after some earlier ones were appended.
abbrev pub PutsAfter : SourceValue → ℕ → List Fault → List Fault → List Fault → LinesValue → LinesValue → Type 0
PutsAfter source begin all front faults old new = (lines : List (List Token)) × LinesAfter source begin all front faults lines × Puts lines old new

-- The lines for the parts of a file, beginning with the part `number`, were appended.
abbrev pub PutsFrom : SourceValue → List Refused → ℕ → LinesValue → LinesValue → Type 0
PutsFrom source parts number old new =
    (lines : List (List Token)) × PartLines source (all_faults parts) (all_faults (take number parts)) (drop number parts) lines × Puts lines old new
