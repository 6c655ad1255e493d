-- Properties of the results of the functions that read types.
use Rattle.std.specs.Prelude.{◌≡◌, ℕ, ◌+◌, ◌*◌, ◌++◌, List, Bool, Option, Some, None, Result, Ok, Err}
use Rattle.logos_token.specs.Tokens.{TokenList, count_of}
use Rattle.logos_token.specs.declared.token.views.Tokens.{Tokens}
use Rattle.logos_token.specs.Views.{tokens_of}
use Rattle.logos_type_reader.specs.declared.table.stage.Spot.{Spot as SpotView}
use Rattle.logos_type_reader.specs.declared.table.stage.TypeStep.{TypeStep}
use Rattle.logos_type_reader.specs.declared.table.stage.TypeStep.TheVariants.{End, Take, Bar, Need, KeepType, Keep, Nest}
use Rattle.logos_type_reader.specs.declared.table.stage.StepFault.{StepFault}
use Rattle.logos_type_reader.specs.declared.table.stage.StepFault.TheVariants.{Unsupported, Mismatch}
use Rattle.logos_type_reader.specs.declared.table.stage.Beginning.{Beginning}
use Rattle.logos_type.specs.Parts.{Tree, sign_of}
use Rattle.logos_type_reader.specs.declared.reader.TypeFault.{TypeFault}
use Rattle.logos_type_reader.specs.declared.reader.TypeFault.TheVariants as faults
use Rattle.logos_type_reader.specs.Reading.{next_of, IsMove, NoMove, AreParts, NoParts}
use Rattle.logos_type_reader.specs.Table.{Spot, Move, ends, takes, bars, needs, keeps_type, keeps, nests, stops, First, starts, refused, Fault, unsupported, mismatch, too_deep}

-- The tokens after the open group, if a group is open.
abbrev pub outside_of : Option Tokens → Option TokenList
outside_of (Some tokens) = Some (tokens_of tokens)
outside_of None = None

-- The spot that a value of the reader represents.
abbrev pub spot_of : SpotView → Spot
spot_of spot = record { stage = spot.stage; run = tokens_of spot.run; outside = outside_of spot.outside }

-- A termination measure: twice the number of tokens left, plus one if a group is open.
abbrev pub left : TokenList → Option TokenList → ℕ
left run None = 2 * count_of run
left run (Some rest) = 2 * (count_of run + count_of rest) + 1

-- The result represents the next step `next`.
abbrev pub IsStep : Result TypeStep StepFault → Move → Type 0
IsStep (Ok End) next = next ≡ ends
IsStep (Ok (Take leaf spot)) next = next ≡ takes (sign_of leaf) (spot_of spot)
IsStep (Ok (Bar leaf spot)) next = next ≡ bars (sign_of leaf) (spot_of spot)
IsStep (Ok (Need plus stage)) next = next ≡ needs plus stage
IsStep (Ok (KeepType stage)) next = next ≡ keeps_type stage
IsStep (Ok (Keep run spot)) next = next ≡ keeps (tokens_of run) (spot_of spot)
IsStep (Ok (Nest leaf spot stage)) next = next ≡ nests (sign_of leaf) (spot_of spot) stage
IsStep (Err (Unsupported span)) next = next ≡ stops (unsupported span)
IsStep (Err (Mismatch span)) next = next ≡ stops (mismatch span)

-- The result represents the first token `first`.
abbrev pub IsFirst : Result Beginning StepFault → First → Type 0
IsFirst (Ok read) first = first ≡ starts read.barred (sign_of read.leaf) (spot_of read.spot)
IsFirst (Err (Unsupported span)) first = first ≡ refused (unsupported span)
IsFirst (Err (Mismatch span)) first = first ≡ refused (mismatch span)

-- Unless memory ran out, the fault has this property.
abbrev pub IfFault : (Fault → Type 0) → TypeFault → Type 0
IfFault Holds (faults.Unsupported span) = Holds (unsupported span)
IfFault Holds (faults.Mismatch span) = Holds (mismatch span)
IfFault Holds faults.LimitNesting = Holds too_deep
IfFault Holds faults.Memory = Unit {0}

-- The fault of a type for the fault of one of its steps.
abbrev pub fault_of : StepFault → TypeFault
fault_of (Unsupported span) = faults.Unsupported span
fault_of (Mismatch span) = faults.Mismatch span

-- The termination measure of the tokens that are left at a spot.
abbrev pub spot_left : Spot → ℕ
spot_left spot = left spot.run spot.outside

-- One step is made: its parts are added, and the spot after them is returned if a step follows; or
-- the fault is returned.
abbrev pub YieldsMove : ℕ → Spot → List Tree → List Tree → Result (Option (Bool × SpotView)) TypeFault → Type 0
YieldsMove levels spot old new (Ok None) = (next_of spot ≡ ends) × (new ≡ old)
YieldsMove levels spot old new (Ok (Some read)) = (front : List Tree) × (new ≡ old ++ front) × IsMove levels read.0 spot front (spot_of read.1)
YieldsMove levels spot old new (Err fault) = IfFault (NoMove levels spot) fault

-- All parts from the spot on are added. Whether one of them makes the type unsupported is returned
-- with the rest.
abbrev pub YieldsParts : ℕ → Spot → List Tree → List Tree → Result (Bool × Tokens) TypeFault → Type 0
YieldsParts levels spot old new (Ok read) = (parts : List Tree) × (new ≡ old ++ parts) × AreParts levels read.0 spot parts (tokens_of read.1)
YieldsParts levels spot old new (Err fault) = IfFault (NoParts levels spot) fault
