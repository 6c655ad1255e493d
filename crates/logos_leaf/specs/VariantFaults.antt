-- The faults of variants and of the attributes on them, each with its message and its span.
use Rattle.std.specs.Prelude.{ℕ, ◌==◌, List, [], ◌++◌, codes, if◌then◌else◌}
use Rattle.std.specs.Fmt.{decimal}
use Rattle.logos_lexeme.specs.declared.lexeme.Span.{Span}
use Rattle.logos_token.specs.declared.error.fault_code.FaultCode.TheVariants.{VariantFields, NamedFields, ErrorVariant, TokenForm, RegexForm}
use Rattle.logos_token.specs.Faults.{Fault}
use Rattle.logos_attribute.specs.Reports.{fault, only}

-- The message for a variant with this number of fields.
abbrev pub fields_text : ℕ → List ℕ
fields_text count = codes "Logos currently only supports variants with one field, found " ++ decimal count

-- The fault of a variant with `count` fields in the parentheses with this span.
abbrev pub variant_fields : ℕ → Span → Fault
variant_fields count span = fault VariantFields (fields_text count) span

-- The faults of a variant, given the number of its fields. A variant with one field has none.
abbrev pub count_faults : ℕ → Span → List Fault
count_faults count span = if count == 1 then [] else only (variant_fields count span)

abbrev pub named_fields : Span → Fault
named_fields span = fault NamedFields (codes "Logos doesn't support named fields yet.") span

abbrev pub error_variant : Span → Fault
error_variant span = fault ErrorVariant (codes "Since 0.13 Logos no longer requires the #[error] variant.\n\nFor help with migration see release notes: https://github.com/maciejhirsz/logos/releases") span

abbrev pub token_form : Span → Fault
token_form span = fault TokenForm (codes "Expected #[token(...)]") span

abbrev pub regex_form : Span → Fault
regex_form span = fault RegexForm (codes "Expected #[regex(...)]") span
