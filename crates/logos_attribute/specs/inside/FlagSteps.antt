-- Invariants that hold while flags are read.
use Rattle.std.specs.Prelude.{◌≡◌, ◌<◌, Bool, true, List, Option, MatchOption}
use Rattle.logos_token.specs.Faults.{Fault}
use Rattle.logos_token.specs.Tokens.{TokenList, count_of}
use Rattle.logos_token.specs.Views.{tokens_of}
use Rattle.logos_token.specs.declared.token.views.Tokens.{Tokens}
use Rattle.logos_attribute.specs.Slices.{Slice}
use Rattle.logos_attribute.specs.Reports.{IsReport}
use Rattle.logos_attribute.specs.Flags.{flags_report, after_flag}

-- After `case` the flags continue after a comma, or they end.
abbrev pub Continues : Slice → TokenList → List Fault → List Fault → Option Tokens → Type 0
Continues name run old new next = MatchOption next
    (IsReport (after_flag name run) true old new)
    (λ rest. (after_flag name run ≡ flags_report name true true (tokens_of rest)) × (new ≡ old) × (count_of (tokens_of rest) < count_of run))

-- The flags begin with `case`, or they end.
abbrev pub HasCase : Slice → Bool → TokenList → List Fault → List Fault → Option Tokens → Type 0
HasCase name found run old new next = MatchOption next
    ((ignore_case : Bool) → IsReport (flags_report name found ignore_case run) ignore_case old new)
    (λ rest. ((ignore_case : Bool) → flags_report name found ignore_case run ≡ after_flag name (tokens_of rest)) × (new ≡ old) × (count_of (tokens_of rest) < count_of run))
