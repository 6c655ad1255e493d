-- The declared parameters of an enum, and the types given to them.
pub use Rattle.logos_type_params.specs.NameLists.{Named, named_of, is_declared}
use Rattle.std.specs.Prelude.{◌≡◌, ℕ, List, [], ◌∷◌, ◌++◌, map, Bool, true, false, if◌then◌else◌, Option, Some, None, codes}
use Rattle.std.specs.Str.{bytes_eq}
use denote.Ref.{Bor}
use Rattle.logos_lexeme.specs.declared.lexeme.Span.{Span}
use Rattle.logos_token.specs.declared.error.fault_code.FaultCode.{FaultCode}
use Rattle.logos_token.specs.declared.error.fault_code.FaultCode.TheVariants.{ManyLifetimes, NotTypeParameter, TypeTwice, Previous, TypeSyntax, LimitTypeNesting}
use Rattle.logos_token.specs.declared.error.detail.Detail.{Detail}
use Rattle.logos_token.specs.declared.error.detail.Detail.TheVariants.{Plain}
use Rattle.logos_token.specs.Tokens.{Token, TokenList, none, also, run_span}
use Rattle.logos_token.specs.Faults.{Fault}
use Rattle.logos_type.specs.Parts.{Tree, sign, name, whole, still, Trees, none as no_part, also as and_part, tree_of}
use Rattle.logos_type_reader.specs.Table.{Fault as Mismatch, unsupported, mismatch, too_deep}
use Rattle.logos_type_reader.specs.TypeExprs.{IsTypeExpr, NoTypeExpr}
use Rattle.logos_type_params.specs.declared.substitution.TypeParam.{TypeParam}
use Rattle.logos_type_params.specs.declared.type_params.TypeParams.{TypeParams}
use Rattle.logos_type_params.specs.Substitution.{set_sign}

-- A type with its span, and the name to which it is given.
pub record Given : Type 0 where
  pub name : Named
  pub type : Tree
  pub at : Span

-- The type given to a name, as a value.
abbrev pub given_of : Bor (List ℕ) × TypeParam → Given
given_of entry = record { name = record { text = entry.0.now; at = entry.1.at }; type = tree_of entry.1.part; at = entry.1.span }

-- The declared names in order, the types, at most one for each name, and whether a lifetime is
-- declared.
pub record Value : Type 0 where
  pub names : List Named
  pub types : List Given
  pub lifetime : Bool

-- The declared names, and the types given to them, as a value.
abbrev pub value_of : TypeParams → Value
value_of params = record { names = map named_of params.names.list.items; types = map given_of params.types.entries.items; lifetime = params.lifetime }

abbrev mutual
  -- A type with the lifetimes of references, and of the angle arguments of paths that are types,
  -- set to `'s`.
  pub with_lifetimes : Tree → Tree
  with_lifetimes (sign s) = sign (set_sign s)
  with_lifetimes (name text) = name text
  with_lifetimes (whole parts) = whole (all_with_lifetimes parts)
  with_lifetimes (still parts) = still parts

  pub all_with_lifetimes : Trees → Trees
  all_with_lifetimes no_part = no_part
  all_with_lifetimes (and_part part parts) = and_part (with_lifetimes part) (all_with_lifetimes parts)

-- A part with its lifetime set if it is a token. A type is unchanged.
abbrev pub own_lifetime : Tree → Tree
own_lifetime (sign s) = sign (set_sign s)
own_lifetime (name text) = name text
own_lifetime (whole parts) = whole parts
own_lifetime (still parts) = still parts

-- The parts, each with its lifetime set if it is a token.
abbrev pub own_lifetimes : Trees → Trees
own_lifetimes no_part = no_part
own_lifetimes (and_part part parts) = and_part (own_lifetime part) (own_lifetimes parts)

-- A type with its own lifetimes set to `'s`: the lifetime of a reference, or those of the angle
-- arguments of a path. The types inside it keep their lifetimes.
abbrev pub with_lifetime : Tree → Tree
with_lifetime (sign s) = sign (set_sign s)
with_lifetime (name text) = name text
with_lifetime (whole parts) = whole (own_lifetimes parts)
with_lifetime (still parts) = still parts

-- A fault with a code, a message, a span and a detail, and without a second span.
abbrev pub fault_with : FaultCode → List ℕ → Span → Detail → Fault
fault_with code message span detail = record { code = code; message = message; span = span; also = None; detail = detail }

-- A fault with a code, a message and a span, and without a second span.
abbrev pub fault : FaultCode → List ℕ → Span → Fault
fault code message span = fault_with code message span Plain

-- A fault of a name, whose message has the name between two texts.
abbrev pub about : FaultCode → List ℕ → Named → List ℕ → Fault
about code before named after = fault code ((before ++ named.text) ++ after) named.at

-- A fault of a name, with a detail.
abbrev pub about_with : FaultCode → List ℕ → Named → List ℕ → Detail → Fault
about_with code before named after detail = fault_with code ((before ++ named.text) ++ after) named.at detail

-- The fault of a second lifetime.
abbrev pub many_lifetimes : Span → Fault
many_lifetimes span = fault ManyLifetimes (codes "Logos types can only have one lifetime") span

abbrev pub not_type_parameter : Named → Fault
not_type_parameter named = about NotTypeParameter [] named (codes " is not a declared type parameter")

abbrev pub type_twice : Named → Fault
type_twice named = about TypeTwice [] named (codes " can only have one type assigned to it")

-- The fault that points to an earlier definition.
abbrev pub previous : Span → Fault
previous span = fault Previous (codes "Previously assigned here") span

abbrev pub type_syntax : Span → Fault
type_syntax at = fault TypeSyntax (codes "not a type") at

-- The message of a fault of too many nested types.
abbrev pub type_nesting_text : List ℕ
type_nesting_text = codes "limit LimitTypeNesting passed"

-- The fault that too many types are nested.
abbrev pub limit_type_nesting : Span → Fault
limit_type_nesting at = fault LimitTypeNesting type_nesting_text at

-- The fault for the reason why a value is not a type.
abbrev pub value_fault : Mismatch → Span → Fault
value_fault (unsupported span) at = type_syntax at
value_fault (mismatch span) at = type_syntax at
value_fault too_deep at = limit_type_nesting at

-- The whole run is a type, or it is not a type and a fault is reported at this span.
pub data ReadsValue (run : TokenList) (at : Span) (old new : List Fault) : Option Tree → Type 0 where
  is_type : {tree : Tree} → IsTypeExpr run tree none → new ≡ old → ReadsValue run at old new (Some tree)
  continues : {tree : Tree} {token : Token} {rest : TokenList} → IsTypeExpr run tree (also token rest) →
      new ≡ old ++ type_syntax at ∷ [] → ReadsValue run at old new None
  no_type : {why : Mismatch} → NoTypeExpr run why → new ≡ old ++ (value_fault why at) ∷ [] → ReadsValue run at old new None

-- The span of the type given to a name.
abbrev pub former : List Given → List ℕ → Option Span
former [] text = None
former (g ∷ types) text = if bytes_eq g.name.text text then Some g.at else former types text

-- The types with one more: it replaces the type of its name, or comes after all others.
abbrev pub given_more : Given → List Given → List Given
given_more type [] = type ∷ []
given_more type (g ∷ types) = if bytes_eq type.name.text g.name.text then type ∷ types else g ∷ given_more type types

-- The faults of a second type for a name, if the name already has a type.
abbrev pub given_faults : Option Span → Named → List Fault
given_faults None named = []
given_faults (Some span) named = type_twice named ∷ previous span ∷ []

-- The result of assigning a value to a name: the value is not a type, or the name is not declared,
-- or the name has this type afterwards.
pub data IsSet (old : Value) (named : Named) (run : TokenList) (before : List Fault) (new : Value) (after : List Fault) : Type 0 where
  no_value : ReadsValue run (run_span run) before after None → new ≡ old → IsSet old named run before new after
  undeclared : {tree : Tree} → ReadsValue run (run_span run) before before (Some tree) → is_declared old.names named.text ≡ false → new ≡ old → after ≡ before ++ not_type_parameter named ∷ [] → IsSet old named run before new after
  is_given : {tree : Tree} → ReadsValue run (run_span run) before before (Some tree) → is_declared old.names named.text ≡ true → new.names ≡ old.names → new.lifetime ≡ old.lifetime →
      new.types ≡ given_more (record { name = named; type = with_lifetimes tree; at = run_span run }) old.types →
      after ≡ before ++ given_faults (former old.types named.text) named → IsSet old named run before new after
