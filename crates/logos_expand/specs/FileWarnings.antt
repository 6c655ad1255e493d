-- The warnings of a file whose lexers have no faults.
use Rattle.std.specs.Prelude.{◌≡◌, ◌++◌, ◌&&◌, not, ℕ, Bool, true, false, All, List, [], ◌∷◌, map, Option}
use Rattle.logos_causes.specs.Warned.{AreOfLexer}
use Rattle.logos_code.specs.Code.{CodeValue}
use Rattle.logos_codegen.specs.Given.{IsGiven}
use Rattle.logos_enum.specs.Values.{Slice}
use Rattle.logos_expand.specs.Expanding.{text_at}
use Rattle.logos_file_warnings.specs.Added.{AreMissing, has_lexer, moved}
use Rattle.logos_graph.specs.View.{GraphValue}
use Rattle.logos_report.specs.declared.file_report.Refused.{Refused}
use Rattle.logos_report.specs.declared.warnings.Warning.{Warning}
use Rattle.logos_rust_file.specs.Files.{AreEnumsOf}
use Rattle.logos_rust_file.specs.declared.finder.FoundEnum.{FoundEnum}
use Rattle.logos_tables.specs.Shapes.{config_of}
use Rattle.logos_tables.specs.declared.shape.Shape.{Shape}
use Rattle.logos_token.specs.Spelling.{Spells}
use Rattle.logos_token.specs.Tokens.{TokenList}
use Rattle.logos_warnings.specs.Shown.{AreOfText, IsPassedOver}
use Rattle.logos_warnings.specs.declared.origin.Origin.TheVariants.{File}

-- The warnings about an enum with this text, whose lexer has this graph.
pub record AreOfGraph (source : List ℕ) (graph : GraphValue) (warnings : List Warning) : Type 0 where
  pub tokens : TokenList
  pub spelled : Spells source tokens
  pub are : AreOfLexer tokens graph File warnings

-- The warnings about an enum with this text, and about its lexer, which has no faults.
pub record AreOfAccepted (shape : Shape) (source : List ℕ) (warnings : List Warning) : Type 0 where
  pub graph : GraphValue
  pub code : CodeValue
  pub name : Slice
  pub export : Option (List ℕ)
  pub given : IsGiven source (config_of shape) graph code name export
  pub of_graph : AreOfGraph source graph warnings

-- The warnings for the enums of a text, in order, with spans of the text. Those for the enums that
-- are refused may be any warnings.
pub data AreOfEnums (shape : Shape) (text : List ℕ) : List FoundEnum → List Refused → List Warning → Type 0 where
  no_enum : AreOfEnums shape text [] [] []
  of_other : {one : FoundEnum} {found : List FoundEnum} {refused : List Refused} {own warnings : List Warning} →
      one.derives ≡ false → AreOfText (text_at text one) false File own → AreOfEnums shape text found refused warnings → AreOfEnums shape text (one ∷ found) refused (map (moved one.span.from) own ++ warnings)
  of_lexer : {one : FoundEnum} {found : List FoundEnum} {refused : List Refused} {own warnings : List Warning} →
      one.derives ≡ true → AreOfAccepted shape (text_at text one) own → AreOfEnums shape text found refused warnings → AreOfEnums shape text (one ∷ found) refused (map (moved one.span.from) own ++ warnings)
  of_refused : {one : FoundEnum} {found : List FoundEnum} {bad : Refused} {refused : List Refused} {warnings : List Warning} →
      (own : List Warning) → one.derives ≡ true → AreOfEnums shape text found refused warnings → AreOfEnums shape text (one ∷ found) (bad ∷ refused) (own ++ warnings)

-- The warnings for the enums of a text were added.
pub record AddsOfEnums (shape : Shape) (text : List ℕ) (found : List FoundEnum) (refused : List Refused) (old new : List Warning) : Type 0 where
  pub own : List Warning
  pub are : AreOfEnums shape text found refused own
  pub is : new ≡ old ++ own

-- The warnings of a file none of whose enums is refused: those for its enums, those about ignored
-- entries of `derive`, and perhaps that none of its enums derives `Logos`.
pub record AreFileWarnings (shape : Shape) (is_requested : Bool) (text : List ℕ) (warnings : List Warning) : Type 0 where
  pub found : List FoundEnum
  pub enums : AreEnumsOf text found
  pub own : List Warning
  pub of_enums : AreOfEnums shape text found [] own
  pub passed : List Warning
  pub are_passed : All IsPassedOver passed
  pub missing : List Warning
  pub are_missing : AreMissing (is_requested && not (has_lexer found)) missing
  pub are : warnings ≡ own ++ (map (moved 0) passed ++ missing)
