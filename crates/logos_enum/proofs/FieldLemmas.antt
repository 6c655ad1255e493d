-- Fields, and their groups.
use Rattle.std.proofs.Common.{◌≡◌, inl, inr, true, false, Some, None, Err}
use Rattle.logos_token.specs.Tokens.{TokenList, append}
use Rattle.logos_type_reader.specs.declared.reader.TypeFault.{TypeFault}
use Rattle.logos_type_reader.specs.declared.reader.TypeFault.TheVariants as faults
use Rattle.logos_type_reader.specs.ReadingViews.{IfFault}
use Rattle.logos_type_reader.specs.Table.{unsupported, mismatch, too_deep}
use Rattle.logos_type_reader.specs.TypeExprs.{NoTypeExpr}
use Rattle.logos_enum.specs.declared.error.ReadError.{ReadError}
use Rattle.logos_enum.specs.declared.extents.End.TheVariants.{OfField}
use Rattle.logos_enum.specs.Extents.{after_extent}
use Rattle.logos_enum.specs.Groups.{Opened, parenthesis_in, brace_in}
use Rattle.logos_enum.specs.Rules.{Occurs}
use Rattle.logos_enum.specs.Enum.{error_is, FieldType, fields, Holding, variants, Body}
use Rattle.logos_enum.specs.Enum.FieldType.{fails}
use Rattle.logos_enum.specs.Enum.Holding.{in_tuple, with_names}
use Rattle.logos_enum.specs.Enum.Body.{braced}

-- the error of a type that does not occur there
pub type-fails : (run front : TokenList) (fault : TypeFault) (error : ReadError) →
    IfFault (NoTypeExpr run) fault → run ≡ append front (after_extent OfField run) → error_is front fault error → Occurs (λ e. FieldType run (Err e)) error
type-fails run front (faults.Unsupported span) error h x e = rw e (inr (fails (unsupported span) front h x))
type-fails run front (faults.Mismatch span) error h x e = rw e (inr (fails (mismatch span) front h x))
type-fails run front faults.LimitNesting error h x e = rw e (inr (fails too_deep front h x))
type-fails run front faults.Memory error h x e = inl e

-- a fault inside a group is a fault of the construct that contains it
pub tuple-fails : (run : TokenList) (opened : Opened) (error : ReadError) → parenthesis_in run ≡ Some opened →
    Occurs (λ e. fields false opened.inside (Err e)) error → Occurs (λ e. Holding run (Err e)) error
tuple-fails run opened error e (inl m) = inl m
tuple-fails run opened error e (inr h) = inr (in_tuple opened (Err error) e h)

pub names-fail : (run : TokenList) (opened : Opened) (error : ReadError) → parenthesis_in run ≡ None → brace_in run ≡ Some opened →
    Occurs (λ e. fields true opened.inside (Err e)) error → Occurs (λ e. Holding run (Err e)) error
names-fail run opened error n e (inl m) = inl m
names-fail run opened error n e (inr h) = inr (with_names opened (Err error) n e h)

pub body-fails : (run : TokenList) (opened : Opened) (error : ReadError) → brace_in run ≡ Some opened →
    Occurs (λ e. variants opened.inside (Err e)) error → Occurs (λ e. Body run (Err e)) error
body-fails run opened error e (inl m) = inl m
body-fails run opened error e (inr h) = inr (braced opened (Err error) e h)
