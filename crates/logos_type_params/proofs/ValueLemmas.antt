-- Values that continue after a type, and types with their lifetimes set.
use Rattle.std.proofs.Common.{◌≡◌, List, [], ◌∷◌, ◌++◌, Some, None, true, false, Result, Ok, Err, OnOk, OnErr, refl, sym, ap, ◌∙◌, map, Vec, Global}
use Rattle.logos_token.specs.Tokens.{TokenList, none, also, run_span}
use Rattle.logos_token.specs.Faults.{Fault}
use Rattle.logos_type.specs.Parts.{Tree, whole, trees, tree_of, also as also_part}
use Rattle.logos_type.specs.declared.type_expr.TypePart.{TypePart}
use Rattle.logos_type.specs.declared.type_expr.TypePart.TheVariants.{Whole}
use Rattle.logos_type.proofs.PartTrees.{tree-Whole}
use Rattle.logos_type_reader.specs.TypeExprs.{IsTypeExpr}
use Rattle.logos_type_params.specs.TypeParams.{Value, Named, type_syntax, with_lifetimes, all_with_lifetimes, own_lifetime, own_lifetimes, not_type_parameter, is_declared, former, given_more, given_faults, ReadsValue, is_type, continues, IsSet, undeclared, is_given}
use Rattle.logos_lexeme.specs.declared.lexeme.Span.{Span}

pub more_left : {old new : List Fault} {tree : Tree} {at : Span} (run rest : TokenList) → (rest ≡ none → ⊥) → IsTypeExpr run tree rest →
    new ≡ old ++ type_syntax at ∷ [] → ReadsValue run at old new None
more_left run none some is e = absurd (some refl)
more_left run (also token rest) some is e = continues is e

all_lifetimes : (parts : List TypePart) → all_with_lifetimes (trees (map tree_of parts)) ≡ trees (map (λ part. with_lifetimes (tree_of part)) parts)
all_lifetimes [] = refl
all_lifetimes (part ∷ parts) = ap (also_part (with_lifetimes (tree_of part))) (all_lifetimes parts)

-- a type whose parts have their lifetimes set
pub whole_with_lifetimes : (part : TypePart) (parts after : Vec TypePart Global) → part ≡ Whole parts →
    map tree_of after.items ≡ map (λ part. with_lifetimes (tree_of part)) parts.items → tree_of (Whole after) ≡ with_lifetimes (tree_of part)
whole_with_lifetimes part parts after is each =
    tree-Whole after ∙ ap (λ (l : List Tree). whole (trees l)) each ∙ sym (ap whole (all_lifetimes parts.items)) ∙ sym (ap with_lifetimes (tree-Whole parts)) ∙ sym (ap (λ (p : TypePart). with_lifetimes (tree_of p)) is)

all_own : (parts : List TypePart) → own_lifetimes (trees (map tree_of parts)) ≡ trees (map (λ part. own_lifetime (tree_of part)) parts)
all_own [] = refl
all_own (part ∷ parts) = ap (also_part (own_lifetime (tree_of part))) (all_own parts)

-- a type whose tokens have their lifetimes set
pub whole_with_own : (parts : List TypePart) (after : Vec TypePart Global) → map tree_of after.items ≡ map (λ part. own_lifetime (tree_of part)) parts → tree_of (Whole after) ≡ whole (own_lifetimes (trees (map tree_of parts)))
whole_with_own parts after each = tree-Whole after ∙ ap (λ (l : List Tree). whole (trees l)) each ∙ sym (ap whole (all_own parts))

-- a reading without a fault adds no fault
read_same : {run : TokenList} {at : Span} {old new : List Fault} {tree : Tree} → ReadsValue run at old new (Some tree) → new ≡ old
read_same (is_type t e) = e

-- a type for a name that is not declared
pub set_undeclared : (old : Value) (named : Named) (run : TokenList) (before mid after : List Fault) (tree : Tree) → ReadsValue run (run_span run) before mid (Some tree) →
    is_declared old.names named.text ≡ false → after ≡ mid ++ not_type_parameter named ∷ [] → IsSet old named run before old after
set_undeclared old named run before mid after tree r d e = let s = read_same r in undeclared (rw s at r) d refl (rw s at e)

-- a type for a name that is declared
pub set_given : (old new : Value) (named : Named) (run : TokenList) (before mid after : List Fault) (tree part : Tree) (span : Span) → ReadsValue run (run_span run) before mid (Some tree) →
    is_declared old.names named.text ≡ true → part ≡ with_lifetimes tree → span ≡ run_span run → new.names ≡ old.names → new.lifetime ≡ old.lifetime →
    new.types ≡ given_more (record { name = named; type = part; at = span }) old.types →
    after ≡ mid ++ given_faults (former old.types named.text) named → IsSet old named run before new after
set_given old new named run before mid after tree part span r d p q n l t f = let s = read_same r in is_given (rw s at r) d n l (rw (p, q) at t) (rw s at f)

-- a property that holds also holds on an error
pub on_err_if : {T E P : Type 0} (r : Result T E) → P → OnErr r P
on_err_if (Ok x) p = tt
on_err_if (Err e) p = p

-- a consequence of two facts about a success
pub on_ok_two : {T E P Q R : Type 0} (r : Result T E) → (P → Q → R) → OnOk r P → OnOk r Q → OnOk r R
on_ok_two (Ok x) f p q = f p q
on_ok_two (Err e) f p q = tt
