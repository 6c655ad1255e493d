-- Variants with fields in a parenthesis, and the types that are given in a parser.
use Rattle.std.proofs.Common.{◌≡◌, ◌∙◌, ℕ, List, [], ◌∷◌, ◌++◌, length, map, ap, refl, sym}
use Rattle.std.proofs.lemmas.List.{length-map}
use denote.Ref.{Bor}
use Rattle.logos_lexeme.specs.declared.lexeme.Span.{Span}
use Rattle.logos_token.specs.Faults.{Fault}
use Rattle.logos_token.specs.declared.token.Ident.{Ident}
use Rattle.logos_type_params.specs.Substitution.{ParamValue, param_value, Params}
use Rattle.logos_type_params.specs.TypeParams.{given_of}
use Rattle.logos_type_params.specs.WrittenTypes.{params_with}
use Rattle.logos_type_params.specs.declared.substitution.TypeParam.{TypeParam}
use Rattle.logos_enum.specs.EnumValues.{field_value, in_parenthesis}
use Rattle.logos_enum.specs.declared.fields.Field.{Field}
use Rattle.logos_pattern.specs.Leaf.{KindValue}
use Rattle.logos_definition.specs.Options.{OptionsView}
use Rattle.logos_definition.specs.ParserViews.{parser_view}
use Rattle.logos_definition.specs.declared.parser.Parser.{Parser}
use Rattle.logos_leaf.specs.Sources.{param_of}
use Rattle.logos_leaf.specs.VariantFaults.{count_faults}
use Rattle.logos_leaf.specs.Variants.{HoldsType, KindIs, with_first}

-- the fields of a parenthesis are counted, and the first one's type is taken
pub kind_of_first : (params : Params) (name : Ident) (span : Span) (old mid new : List Fault) (fields : List Field) (first : Field) (others : List Field)
    (kind : KindValue) → fields ≡ first ∷ others → mid ≡ old ++ count_faults (length fields) span →
    HoldsType params name (field_value first) mid new kind → KindIs params name old new (in_parenthesis span (map field_value fields)) kind
kind_of_first params name span old mid new fields first others kind e m h =
    let counted : length fields ≡ length (map field_value (first ∷ others)) = sym (length-map fields field_value) ∙ ap (λ fs. length (map field_value fs)) e in
    rw e (with_first (m ∙ ap (λ k. old ++ count_faults k span) counted) h)

pub param_values : (entries : List (Bor (List ℕ) × TypeParam)) → map param_of (map given_of entries) ≡ map param_value entries
param_values [] = refl
param_values (x ∷ xs) = ap (λ values. param_value x ∷ values) (param_values xs)

-- parsers with equal views yield equal types
pub same_params : (p q : Parser) (held : List (List ℕ)) → parser_view p ≡ parser_view q → params_with p.types held ≡ params_with q.types held
same_params p q held e =
    let same : map param_of (map given_of p.types.types.entries.items) ≡ map param_of (map given_of q.types.types.entries.items) = ap (λ (v : OptionsView). map param_of v.types.types) e in
    ap (λ (types : List ParamValue). record { types = types; held = held }) (sym (param_values p.types.types.entries.items) ∙ (same ∙ param_values q.types.types.entries.items))
