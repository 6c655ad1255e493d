-- The steps of gathering the results of the enums of a file.
use Rattle.std.specs.Prelude.{◌≡◌, ℕ, Bool, List, [], ◌∷◌, ◌++◌}
use Rattle.logos_code.specs.Code.{CodeValue}
use Rattle.logos_tables.specs.declared.shape.Shape.{Shape}
use Rattle.logos_expand.specs.declared.expansion.Gathered.{Gathered}
use Rattle.logos_report.specs.declared.clues.Clues.{Clues}
use Rattle.logos_report.specs.declared.file_report.Refused.{Refused}
use Rattle.logos_report.specs.declared.warnings.Warning.{Warning}
use Rattle.logos_report.specs.Sets.{sizes_of}
use Rattle.logos_expand.specs.Expanding.{IsGuarded, under}
use Rattle.logos_tables.specs.Shapes.{IsShown}
use Rattle.logos_text.specs.Fronts.{AroundValue}
use Rattle.logos_expand.specs.FileWarnings.{AreOfEnums}
use Rattle.logos_expand.specs.Gathering.{Gathers}
use Rattle.logos_layout.specs.Layout.{IsLaidOut}
use Rattle.logos_rust_file.specs.declared.finder.FoundEnum.{FoundEnum}
use Rattle.logos_rust_file.specs.declared.replacement.Replacement.{Replacement}
use Rattle.logos_rust_file.specs.Handed.{Refusal}
use Rattle.logos_rust_file.specs.Handed as refusals
use Rattle.logos_rust_file.specs.Handed.{IsStripped}
use Rattle.logos_token.specs.Faults.{Fault}
use Rattle.logos_token.specs.Tokens.{TokenList}

-- One more enum was gathered: its result was appended.
pub record GathersOne (shape : Shape) (text : List ℕ) (one : FoundEnum) (old new : Gathered) : Type 0 where
  pub parts : List Replacement
  pub refused : List Refused
  pub parts_are : new.parts.items ≡ old.parts.items ++ parts
  pub refused_are : new.refused.items ≡ old.refused.items ++ refused
  pub completes : (rest : List FoundEnum) (more : List Replacement) (worse : List Refused) → Gathers shape text rest more worse → Gathers shape text (one ∷ rest) (parts ++ more) (refused ++ worse)

-- Some warnings were added.
abbrev pub AddsSome : List Warning → List Warning → Type 0
AddsSome old new = (own : List Warning) × (new ≡ old ++ own)

-- One more enum was gathered: its warnings were appended.
pub record WarnsOne (shape : Shape) (text : List ℕ) (one : FoundEnum) (old new : Gathered) (warned after : List Warning) : Type 0 where
  pub refused : List Refused
  pub own : List Warning
  pub refused_are : new.refused.items ≡ old.refused.items ++ refused
  pub is : after ≡ warned ++ own
  pub completes : (rest : List FoundEnum) (worse : List Refused) (more : List Warning) → AreOfEnums shape text rest worse more → AreOfEnums shape text (one ∷ rest) (refused ++ worse) (own ++ more)

-- The faults of a refusal, unless memory ran out.
abbrev pub AreFaultsOf : Refusal → List Fault → Type 0
AreFaultsOf (refusals.Errors faults) others = others ≡ faults
AreFaultsOf refusals.Memory others = ⊥

-- One more refusal was appended, with the faults of a part that begins at an offset, and the clues
-- about them.
pub record AddsRefusal (offset : ℕ) (refusal : Refusal) (clues : Clues) (old new : List Refused) : Type 0 where
  pub bad : Refused
  pub is_offset : bad.offset ≡ offset
  pub faults : AreFaultsOf refusal bad.errors
  pub known : sizes_of bad.clues ≡ sizes_of clues
  pub are : new ≡ old ++ bad ∷ []

-- The text of the remaining tokens of an enum, and after LF the generated code of this code value,
-- with these texts around its function and with attributes, laid out.
pub record IsPrintedWith (shape : Shape) (around : AroundValue) (code : CodeValue) (left : TokenList) (shown : List ℕ) : Type 0 where
  pub written : List ℕ
  pub lexer : List ℕ
  pub laid : List ℕ
  pub occur : IsShown shape around code lexer
  pub by_name : Bool
  pub is_written : IsGuarded left written
  pub is_laid_out : IsLaidOut (under by_name left lexer) laid
  pub is : shown ≡ written ++ 10 ∷ laid

-- The expansion of an enum whose lexer has this code, with these texts around its function.
pub record IsExpansionBy (shape : Shape) (around : AroundValue) (code : CodeValue) (source shown : List ℕ) : Type 0 where
  pub left : TokenList
  pub stripped : IsStripped source left
  pub prints : IsPrintedWith shape around code left shown
