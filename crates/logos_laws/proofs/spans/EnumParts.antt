-- The attributes of an enum and of its variants are runs of its tokens.
use Rattle.std.proofs.Common.{◌≡◌, ◌==◌, List, Option, Some, None, Ok, Err, subst}
use Rattle.logos_lexeme.specs.declared.lexeme.Span.{Span}
use Rattle.logos_lexeme.specs.declared.lexeme.Delimiter.TheVariants.{Parenthesis, Bracket, Brace}
use Rattle.logos_token.specs.Tokens.{TokenList, identifier, punctuation, literal, doc, group, none, also}
use Rattle.logos_token.specs.PrintedAgain.{IsRunOf}
use Rattle.logos_token.proofs.reading.SpanLemmas.{Each}
use Rattle.logos_enum.specs.Attributes.{Attributes}
use Rattle.logos_enum.specs.Attributes.Attributes.{occur, broken}
use Rattle.logos_enum.specs.AttributeValues.{SplitAttribute, bracketed, attribute_in}
use Rattle.logos_enum.specs.Enum.{Holding, from_comma, value_in, discriminant_in, variant_of, variant, within, where_in, Body, end_in, enum_of, item, Reads}
use Rattle.logos_enum.specs.Enum.Reads.{reads}
use Rattle.logos_enum.specs.Enum.Holding.{in_tuple, with_names, nothing}
use Rattle.logos_enum.specs.Enum.Body.{braced, lacking}
use Rattle.logos_enum.specs.EnumValues.{VariantValue, EnumValue}
use Rattle.logos_enum.specs.Generics.{name_in}
use Rattle.logos_enum.specs.Groups.{Opened, parenthesis_in, bracket_in, brace_in}
use Rattle.logos_enum.specs.Marks.{comma, equals, is_none}
use Rattle.logos_enum.specs.Rules.{Outcome, mismatch}
use Rattle.logos_laws.proofs.spans.TokenParts.{Part, part_back, part_front, part_inside, part_rest, part_rests, part_self}
use Rattle.logos_laws.proofs.spans.RuleParts.{Anything, Yields, Keeps, part_if, yields_if, keeps_by, keeps_given, keeps_then, keeps_listed}
use Rattle.logos_laws.proofs.spans.GenericParts.{name_yields, generics_keep}
use Rattle.logos_laws.proofs.spans.HeadParts.{IfRun, announced_part, where_yields}

-- the attributes are a run of the whole, too
attributes_keep : (tokens : TokenList) → Keeps (Part tokens) (Part tokens) Attributes
attributes_keep tokens run outcome r (occur {attributes} {rest} h e) =
    let p = subst (Part tokens) e r in (part_front attributes rest p, part_back attributes rest p)
attributes_keep tokens run outcome r (broken h) = tt

-- ---- Groups, variants and the whole.

-- the tokens inside a group, and the tokens after it, are runs of the whole
abbrev IfOpened : TokenList → Option Opened → Type 0
IfOpened tokens None = Unit {0}
IfOpened tokens (Some opened) = IsRunOf opened.inside tokens × IsRunOf opened.rest tokens

parenthesis_part : (tokens run : TokenList) → IsRunOf run tokens → IfOpened tokens (parenthesis_in run)
parenthesis_part tokens none r = tt
parenthesis_part tokens (also (identifier text span) rest) r = tt
parenthesis_part tokens (also (punctuation character spacing span) rest) r = tt
parenthesis_part tokens (also (literal text span) rest) r = tt
parenthesis_part tokens (also (doc text span) rest) r = tt
parenthesis_part tokens (also (group Parenthesis span inside) rest) r = (part_inside Parenthesis span inside rest r, part_rest _ rest r)
parenthesis_part tokens (also (group Bracket span inside) rest) r = tt
parenthesis_part tokens (also (group Brace span inside) rest) r = tt

bracket_part : (tokens run : TokenList) → IsRunOf run tokens → IfOpened tokens (bracket_in run)
bracket_part tokens none r = tt
bracket_part tokens (also (identifier text span) rest) r = tt
bracket_part tokens (also (punctuation character spacing span) rest) r = tt
bracket_part tokens (also (literal text span) rest) r = tt
bracket_part tokens (also (doc text span) rest) r = tt
bracket_part tokens (also (group Parenthesis span inside) rest) r = tt
bracket_part tokens (also (group Bracket span inside) rest) r = (part_inside Bracket span inside rest r, part_rest _ rest r)
bracket_part tokens (also (group Brace span inside) rest) r = tt

brace_part : (tokens run : TokenList) → IsRunOf run tokens → IfOpened tokens (brace_in run)
brace_part tokens none r = tt
brace_part tokens (also (identifier text span) rest) r = tt
brace_part tokens (also (punctuation character spacing span) rest) r = tt
brace_part tokens (also (literal text span) rest) r = tt
brace_part tokens (also (doc text span) rest) r = tt
brace_part tokens (also (group Parenthesis span inside) rest) r = tt
brace_part tokens (also (group Bracket span inside) rest) r = tt
brace_part tokens (also (group Brace span inside) rest) r = (part_inside Brace span inside rest r, part_rest _ rest r)

within_yields : {A B : Type 0} (tokens : TokenList) (make : A → B) (rest : TokenList) (outcome : Outcome A) → IsRunOf rest tokens → Yields (Part tokens) Anything (within make rest outcome)
within_yields tokens make rest (Ok read) r = (tt, r)
within_yields tokens make rest (Err error) r = tt

holding_keeps : (tokens : TokenList) → Keeps (Part tokens) Anything Holding
holding_keeps tokens run outcome r (in_tuple opened inner e h) =
    let o : IfOpened tokens (Some opened) = subst (IfOpened tokens) e (parenthesis_part tokens run r) in within_yields tokens _ opened.rest inner o.1
holding_keeps tokens run outcome r (with_names opened inner n e h) =
    let o : IfOpened tokens (Some opened) = subst (IfOpened tokens) e (brace_part tokens run r) in within_yields tokens _ opened.rest inner o.1
holding_keeps tokens run outcome r (nothing n e) = (tt, r)

from_comma_part : (tokens run : TokenList) → IsRunOf run tokens → IsRunOf (from_comma run) tokens
from_comma_part tokens none r = r
from_comma_part tokens (also (identifier text span) rest) r = from_comma_part tokens rest (part_rest _ rest r)
from_comma_part tokens (also (punctuation character spacing span) rest) r =
    part_if (Part tokens) (character == comma) (also (punctuation character spacing span) rest) (from_comma rest) r (from_comma_part tokens rest (part_rest _ rest r))
from_comma_part tokens (also (literal text span) rest) r = from_comma_part tokens rest (part_rest _ rest r)
from_comma_part tokens (also (doc text span) rest) r = from_comma_part tokens rest (part_rest _ rest r)
from_comma_part tokens (also (group delimiter span inside) rest) r = from_comma_part tokens rest (part_rest _ rest r)

value_yields : (tokens run : TokenList) → IsRunOf run tokens → Yields (Part tokens) Anything (value_in run)
value_yields tokens none r = tt
value_yields tokens (also (identifier text span) rest) r = (tt, from_comma_part tokens rest (part_rest _ rest r))
value_yields tokens (also (punctuation character spacing span) rest) r =
    yields_if (Part tokens) Anything (character == comma) (mismatch (also (punctuation character spacing span) rest)) (Ok (tt, from_comma rest)) tt (tt, from_comma_part tokens rest (part_rest _ rest r))
value_yields tokens (also (literal text span) rest) r = (tt, from_comma_part tokens rest (part_rest _ rest r))
value_yields tokens (also (doc text span) rest) r = (tt, from_comma_part tokens rest (part_rest _ rest r))
value_yields tokens (also (group delimiter span inside) rest) r = (tt, from_comma_part tokens rest (part_rest _ rest r))

discriminant_yields : (tokens run : TokenList) → IsRunOf run tokens → Yields (Part tokens) Anything (discriminant_in run)
discriminant_yields tokens none r = (tt, r)
discriminant_yields tokens (also (identifier text span) rest) r = (tt, r)
discriminant_yields tokens (also (punctuation character spacing span) rest) r =
    yields_if (Part tokens) Anything (character == equals) (value_in rest) (Ok (tt, also (punctuation character spacing span) rest)) (value_yields tokens rest (part_rest _ rest r)) (tt, r)
discriminant_yields tokens (also (literal text span) rest) r = (tt, r)
discriminant_yields tokens (also (doc text span) rest) r = (tt, r)
discriminant_yields tokens (also (group delimiter span inside) rest) r = (tt, r)

-- the attributes of a variant are a run of the whole
abbrev pub VariantParts : TokenList → VariantValue → Type 0
VariantParts tokens variant = IsRunOf variant.attributes tokens

variant_keeps : (tokens : TokenList) → Keeps (Part tokens) (VariantParts tokens) variant
variant_keeps tokens =
    keeps_then (Part tokens) (Part tokens) (VariantParts tokens) _ _ (attributes_keep tokens) (λ attributes p.
    keeps_then (Part tokens) Anything (VariantParts tokens) _ _ (keeps_by (Part tokens) Anything name_in (name_yields (Part tokens) (part_rests tokens))) (λ name _.
    keeps_then (Part tokens) Anything (VariantParts tokens) _ _ (holding_keeps tokens) (λ held _.
    keeps_then (Part tokens) Anything (VariantParts tokens) _ _ (keeps_by (Part tokens) Anything discriminant_in (discriminant_yields tokens)) (λ _ _.
    keeps_given (Part tokens) (VariantParts tokens) (variant_of attributes name held) p))))

body_within : (tokens rest : TokenList) (outcome : Outcome (List VariantValue)) → Yields (Part tokens) (Each (VariantParts tokens)) outcome → IsRunOf rest tokens →
    Yields (Part tokens) (Each (VariantParts tokens)) (within (λ (list : List VariantValue). list) rest outcome)
body_within tokens rest (Ok read) g r = (g.0, r)
body_within tokens rest (Err error) g r = tt

body_keeps : (tokens : TokenList) → Keeps (Part tokens) (Each (VariantParts tokens)) Body
body_keeps tokens run outcome r (braced opened inner e h) =
    let o : IfOpened tokens (Some opened) = subst (IfOpened tokens) e (brace_part tokens run r) in
    body_within tokens opened.rest inner (keeps_listed (Part tokens) (part_rests tokens) (VariantParts tokens) is_none variant (variant_keeps tokens) opened.inside inner o.0 h) o.1
body_keeps tokens run outcome r (lacking e) = tt

end_yields : (tokens run : TokenList) → IsRunOf run tokens → Yields (Part tokens) Anything (end_in run)
end_yields tokens none r = (tt, r)
end_yields tokens (also token rest) r = tt

-- the attributes of an enum and of its variants are runs of the whole
abbrev pub EnumParts : TokenList → EnumValue → Type 0
EnumParts tokens enum = IsRunOf enum.attributes tokens × Each (VariantParts tokens) enum.variants

item_keeps : (tokens attributes : TokenList) → IsRunOf attributes tokens → Keeps (Part tokens) (EnumParts tokens) (item attributes)
item_keeps tokens attributes p =
    keeps_then (Part tokens) Anything (EnumParts tokens) _ _ (keeps_by (Part tokens) Anything name_in (name_yields (Part tokens) (part_rests tokens))) (λ name _.
    keeps_then (Part tokens) Anything (EnumParts tokens) _ _ (generics_keep (Part tokens) (part_rests tokens)) (λ parameters _.
    keeps_then (Part tokens) Anything (EnumParts tokens) _ _ (keeps_by (Part tokens) Anything where_in (where_yields (Part tokens) (part_rests tokens))) (λ _ _.
    keeps_then (Part tokens) (Each (VariantParts tokens)) (EnumParts tokens) _ _ (body_keeps tokens) (λ list v.
    keeps_then (Part tokens) Anything (EnumParts tokens) _ _ (keeps_by (Part tokens) Anything end_in (end_yields tokens)) (λ _ _.
    keeps_given (Part tokens) (EnumParts tokens) (enum_of attributes name parameters list) (p, v))))))

pub enum_parts : (tokens : TokenList) (enum : EnumValue) → Reads tokens (Ok enum) → EnumParts tokens enum
enum_parts tokens enum (reads {attributes} {rest} front h) =
    let a = attributes_keep tokens tokens (Ok (attributes, front.middle)) (part_self tokens) front.occur in
    (item_keeps tokens attributes a.0 rest (Ok (enum, none)) (announced_part (Part tokens) (part_rests tokens) front.middle rest a.1 front.announced) h).0

-- ---- The attributes of a run.

-- the tokens inside an attribute, and the tokens after it, are runs of the whole
abbrev pub IfSplit : TokenList → Option SplitAttribute → Type 0
IfSplit tokens None = Unit {0}
IfSplit tokens (Some split) = IfRun (Part tokens) split.attribute.inside × IsRunOf split.rest tokens

bracketed_part : (tokens : TokenList) (mark : Span) (opened : Option Opened) → IfOpened tokens opened → IfSplit tokens (bracketed mark opened)
bracketed_part tokens mark None o = tt
bracketed_part tokens mark (Some opened) o = o

attribute_part : (tokens run : TokenList) → IsRunOf run tokens → IfSplit tokens (attribute_in run)
attribute_part tokens none r = tt
attribute_part tokens (also (identifier text span) rest) r = tt
attribute_part tokens (also (punctuation character spacing span) rest) r = bracketed_part tokens span (bracket_in rest) (bracket_part tokens rest (part_rest _ rest r))
attribute_part tokens (also (literal text span) rest) r = tt
attribute_part tokens (also (doc text span) rest) r = (tt, part_rest _ rest r)
attribute_part tokens (also (group delimiter span inside) rest) r = tt

pub split_part : (tokens run : TokenList) (split : SplitAttribute) → IsRunOf run tokens → attribute_in run ≡ Some split → IfSplit tokens (Some split)
split_part tokens run split r e = subst (IfSplit tokens) e (attribute_part tokens run r)
