-- The flags in `ignore(..)`.
use Rattle.std.specs.Prelude.{Bool, true, [], ◌++◌, codes, if◌then◌else◌}
use Rattle.std.specs.Str.{bytes_eq}
use Rattle.logos_token.specs.Faults.{Fault}
use Rattle.logos_token.specs.declared.error.fault_code.FaultCode.TheVariants.{IgnoreAscii, IgnoreUnknown, IgnoreEmpty, IgnoreToken}
use Rattle.logos_token.specs.Tokens.{Token, TokenList, identifier, none, also, span_of}
use Rattle.logos_token.specs.Punctuation.{is_alone}
use Rattle.logos_token.specs.Printing.{printed}
use Rattle.logos_token.specs.EscapedTexts.{escaped}
use Rattle.logos_attribute.specs.Slices.{Slice}
use Rattle.logos_attribute.specs.Pieces.{comma}
use Rattle.logos_attribute.specs.Reports.{Report, with_faults, without_faults, fault, fault_about, only}

abbrev pub ignore_unknown : Slice → Fault
ignore_unknown flag = fault_about IgnoreUnknown (codes "Unknown flag: ") flag (codes "\n\nExpected one of: case")

abbrev pub ignore_ascii : Slice → Fault
ignore_ascii flag = fault IgnoreAscii (codes "The flag \"ascii_case\" is no longer supported") flag.span

-- The fault of a flag other than `case`.
abbrev pub other_flag : Slice → Fault
other_flag flag =
    if bytes_eq flag.text (codes "ascii_case") then ignore_ascii flag else ignore_unknown flag

abbrev pub ignore_empty : Slice → Fault
ignore_empty name = fault IgnoreEmpty (codes "Invalid ignore flag\n\nExpected one of: case") name.span

abbrev pub ignore_token : Token → Fault
ignore_token token = fault IgnoreToken ((codes "Unexpected token: \"" ++ escaped (printed (also token none))) ++ codes "\"") (span_of token)

abbrev mutual
  -- The report of the flags in `ignore(..)`, up to the first fault. `name` is the word `ignore`,
  -- `ignore_case` is whether the flag `case` was set before, and `found` is whether a flag was
  -- read.
  pub flags_report : Slice → (found ignore_case : Bool) → TokenList → Report Bool
  flags_report name found ignore_case none = with_faults ignore_case (if found then [] else only (ignore_empty name))
  flags_report name found ignore_case (also (identifier text span) rest) =
      if bytes_eq text (codes "case") then after_flag name rest
      else with_faults ignore_case (only (other_flag (record { text = text; span = span })))
  flags_report name found ignore_case (also token rest) = with_faults ignore_case (only (ignore_empty name))

  -- The report after `case`: a lone comma, or nothing.
  pub after_flag : Slice → TokenList → Report Bool
  after_flag name none = without_faults true
  after_flag name (also token rest) = if is_alone comma token then flags_report name true true rest else with_faults true (only (ignore_token token))
