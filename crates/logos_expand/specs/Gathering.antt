-- The results of the enums of a file, one after another, and the text about their faults.
use Rattle.std.specs.Prelude.{◌≡◌, ◌≢◌, ◌⊎◌, ◌++◌, ◌^◌, ◌+◌, ◌-◌, ℕ, Bool, IsTrue, List, [], ◌∷◌, true, false, min, string_bytes}
use Rattle.logos_host.specs.declared.message_format.MessageFormat.{MessageFormat}
use Rattle.logos_host.specs.declared.message_format.MessageFormat.TheVariants.{Human, Json}
use Rattle.logos_tables.specs.declared.shape.Shape.{Shape}
use Rattle.logos_causes.specs.Sets.{HasSets}
use Rattle.logos_codegen.specs.Source.{IsRefused}
use Rattle.logos_expand.specs.declared.expansion.Gathered.{Gathered}
use Rattle.logos_report.specs.declared.file_report.Refused.{Refused}
use Rattle.logos_expand.specs.Expanding.{IsExpansion, IsUnreadable, text_at}
use Rattle.logos_rust_file.specs.declared.finder.FoundEnum.{FoundEnum}
use Rattle.logos_rust_file.specs.declared.replacement.Replacement.{Replacement}
use Rattle.logos_rust_file.specs.Files.{AreEnumsOf}
use Rattle.logos_host.specs.declared.failure.Failure.{Failure}
use Rattle.logos_host.specs.declared.failure.Failure.TheVariants as failures
use Rattle.logos_host.specs.Failures.{status_of}
use Rattle.logos_report.specs.Parts.{refused_texts}
use Rattle.logos_report.specs.Locations.{SourceValue}
use Rattle.logos_report.specs.Faults.{summary_line}
use Rattle.logos_report.specs.Reports.{InReport}
use Rattle.logos_report.specs.Warnings.{warnings_texts}
use Rattle.logos_report.specs.Sets.{errors_after, first_faults, sizes_of}
use Rattle.logos_report.specs.declared.warnings.Warning.{Warning}
use Rattle.logos_expand.specs.FileWarnings.{AreFileWarnings}
use Rattle.logos_file_warnings.specs.Warned.{ShowsDenial}
use Rattle.logos_messages.specs.Messages.{AreRefusedMessages}
use Rattle.logos_messages.specs.Warnings.{AreWarnings}

-- Each enum that derives `Logos` has a replacement or faults, in order, and no other enum does. For
-- one with faults, each set of ambiguous leaves has a clue.
pub data Gathers (shape : Shape) (text : List ℕ) : List FoundEnum → List Replacement → List Refused → Type 0 where
  ended : Gathers shape text [] [] []
  stays : {one : FoundEnum} {rest : List FoundEnum} {parts : List Replacement} {refused : List Refused} →
      one.derives ≡ false → Gathers shape text rest parts refused → Gathers shape text (one ∷ rest) parts refused
  yields : {one : FoundEnum} {part : Replacement} {rest : List FoundEnum} {parts : List Replacement} {refused : List Refused} →
      one.derives ≡ true → part.span ≡ one.span → IsExpansion shape (text_at text one) (string_bytes part.text) → Gathers shape text rest parts refused →
      Gathers shape text (one ∷ rest) (part ∷ parts) refused
  refuses : {one : FoundEnum} {bad : Refused} {rest : List FoundEnum} {parts : List Replacement} {refused : List Refused} →
      one.derives ≡ true → bad.offset ≡ one.span.from → IsRefused (text_at text one) bad.errors → HasSets (text_at text one) (sizes_of bad.clues) →
      Gathers shape text rest parts refused →
      Gathers shape text (one ∷ rest) parts (bad ∷ refused)

-- All these enums were gathered.
abbrev pub GathersAll : Shape → List ℕ → List FoundEnum → Gathered → Type 0
GathersAll shape text found gathered = Gathers shape text found gathered.parts.items gathered.refused.items

-- The refusals of a file: the one of a file that cannot be read into tokens, or those of all lexers
-- with faults, of which there is at least one.
pub data AreRefused (shape : Shape) (text : List ℕ) (refused : List Refused) : Type 0 where
  whole : {bad : Refused} → refused ≡ bad ∷ [] → bad.offset ≡ 0 → IsUnreadable text bad.errors → AreRefused shape text refused
  lexers : {found : List FoundEnum} {parts : List Replacement} → AreEnumsOf text found → Gathers shape text found parts refused → refused ≢ [] → AreRefused shape text refused

-- The number of errors of a part of a file: of the reports of its faults that are errors.
abbrev pub errors_of : Refused → ℕ
errors_of part = errors_after (first_faults (sizes_of part.clues)) part.errors

-- The number of errors of these parts of a file.
abbrev pub errors_in : List Refused → ℕ
errors_in [] = 0
errors_in (part ∷ parts) = errors_of part + errors_in parts

-- The texts of some warnings of a file, those of the faults of these parts of it, and the line with
-- the number of errors, saturating at the greatest number.
abbrev pub report_texts : Bool → SourceValue → List Warning → List Refused → List (List ℕ)
report_texts is_colored source warnings refused = warnings_texts is_colored source 0 warnings ++ (refused_texts is_colored source refused ++ summary_line is_colored (min (errors_in refused) (2 ^ 64 - 1)) ∷ [])

-- The lines of JSON of some warnings, and after them those of all faults.
abbrev pub AreReportLines : SourceValue → List Refused → List ℕ → Type 0
AreReportLines source refused text =
    (warnings : List Warning) × (front lines : List ℕ) × (text ≡ front ++ lines) × AreWarnings source 0 warnings front × AreRefusedMessages source refused lines

-- The text about faults, in order, after some warnings: a report, with or without colors, or lines
-- of JSON. A report has no further lines of faults, warnings or locations.
abbrev pub ShowsRefused : MessageFormat → SourceValue → List Refused → List ℕ → Type 0
ShowsRefused Human source refused shown = (is_colored : Bool) × (warnings : List Warning) × InReport is_colored (report_texts is_colored source warnings refused) shown
ShowsRefused Json source refused shown = AreReportLines source refused shown

-- This text shows all faults of a file, in order.
pub record ShowsFaults (format : MessageFormat) (shape : Shape) (source : SourceValue) (shown : List ℕ) : Type 0 where
  pub refused : List Refused
  pub are : AreRefused shape source.text refused
  pub occur : ShowsRefused format source refused shown

-- The request was refused for a reason, or a file or memory failed.
abbrev pub FailsBy : (Failure → Type 0) → Failure → Type 0
FailsBy Reason failure = (status_of failure ≡ 3) ⊎ ((status_of failure ≡ 1) × Reason failure)

-- The text of a refusal satisfies `Shown`.
abbrev pub IsRefusedFor : (List ℕ → Type 0) → Failure → Type 0
IsRefusedFor Shown (failures.Refused text) = Shown (string_bytes text)
IsRefusedFor Shown failure = ⊥

-- A file is refused for its faults, or for its warnings, which are denied and of which there is at
-- least one; the text shows them.
abbrev pub IsCause : MessageFormat → Bool → Shape → SourceValue → List ℕ → Type 0
IsCause format denies shape source shown = ShowsFaults format shape source shown ⊎ (IsTrue denies × ShowsDenial (AreFileWarnings shape true source.text) format source shown)

-- A file is refused for its faults or its denied warnings, or memory ran out.
abbrev pub FailsFor : MessageFormat → Bool → Shape → SourceValue → Failure → Type 0
FailsFor format denies shape source = FailsBy (IsRefusedFor (IsCause format denies shape source))
