-- The tokens after an extent.
use Rattle.std.proofs.Common.{◌≡◌, ℕ, Bool, true, false, refl, ap}
use Rattle.logos_lexeme.specs.declared.lexeme.Span.{Span}
use Rattle.logos_lexeme.specs.declared.lexeme.Spacing.{Spacing}
use Rattle.logos_token.specs.Tokens.{Token, TokenList, identifier, punctuation, literal, doc, group, none, also, rest_of, IsRestOf}
use Rattle.logos_token.proofs.reading.CountLemmas.{IsRestOf-self, IsRestOf-rest}
use Rattle.logos_enum.specs.declared.extents.End.{End}
use Rattle.logos_enum.specs.declared.extents.End.TheVariants.{OfParameters}
use Rattle.logos_enum.specs.Extents.{begins_arrow, depth_after, is_end, after_from, after_generics}
use Rattle.logos_enum.specs.Marks.{less, begins_with}
use Rattle.logos_enum.proofs.RuleLemmas.{IsRestOf-join}

-- the rest after one token, and after more
pub past : (token : Token) (run rest : TokenList) → IsRestOf run rest → IsRestOf (also token run) rest
past token run rest r = record { front = also token r.front; is = ap (also token) r.is }

extent_step : (end : End) (arrow : Bool) (depth character : ℕ) (spacing : Spacing) (span : Span) (rest : TokenList) → ((a : Bool) (d : ℕ) → IsRestOf rest (after_from end a d rest)) →
    (is : Bool) → is_end end arrow depth character ≡ is → IsRestOf (also (punctuation character spacing span) rest) (after_from end arrow depth (also (punctuation character spacing span) rest))
extent_step end arrow depth character spacing span rest r true e = rw e (IsRestOf-self _)
extent_step end arrow depth character spacing span rest r false e = rw e (past (punctuation character spacing span) rest _ (r (begins_arrow character spacing) (depth_after arrow depth character)))

pub extent_rest : (end : End) (arrow : Bool) (depth : ℕ) (run : TokenList) → IsRestOf run (after_from end arrow depth run)
extent_rest end arrow depth none = IsRestOf-self none
extent_rest end arrow depth (also (identifier text span) rest) = past _ rest _ (extent_rest end false depth rest)
extent_rest end arrow depth (also (literal text span) rest) = past _ rest _ (extent_rest end false depth rest)
extent_rest end arrow depth (also (doc text span) rest) = past _ rest _ (extent_rest end false depth rest)
extent_rest end arrow depth (also (group delimiter span inside) rest) = past _ rest _ (extent_rest end false depth rest)
extent_rest end arrow depth (also (punctuation character spacing span) rest) =
    extent_step end arrow depth character spacing span rest (λ a d. extent_rest end a d rest) (is_end end arrow depth character) refl

pub generics_rest : (run : TokenList) → IsRestOf run (after_generics run)
generics_rest run = go (begins_with less run) refl
  where
    go : (is : Bool) → begins_with less run ≡ is → IsRestOf run (after_generics run)
    go true e = rw e (IsRestOf-join _ _ _ (IsRestOf-rest run run (IsRestOf-self run)) (extent_rest OfParameters false 0 (rest_of run)))
    go false e = rw e (IsRestOf-self run)
