-- The properties of a remaining token that stripping depends on: not its spacing, its span or its
-- contents.
use Rattle.std.proofs.Common.{◌≡◌, Bool, true, false, List, [], ◌∷◌, Option, Some, None, refl, sym, ◌∙◌, ap}
use Rattle.logos_lexeme.specs.declared.lexeme.Spacing.TheVariants.{Alone}
use Rattle.logos_token.specs.Tokens.{Token, identifier, punctuation, literal, doc, group, TokenList, none}
use Rattle.logos_token.specs.PrintedAgain.{no_span, bare_token}
use Rattle.logos_strip.specs.declared.spots.Scope.{Scope}
use Rattle.logos_strip.specs.declared.spots.Scope.TheVariants.{Enum, Attribute, Derives, Variants, Fields}
use Rattle.logos_strip.specs.declared.spots.TokenSpot.{TokenSpot}
use Rattle.logos_strip.specs.declared.spots.TokenSpot.TheVariants.{Open, Hash, Gone, Named, Within}
use Rattle.logos_strip.specs.Helpers.{is_comma}
use Rattle.logos_strip.specs.Spots.{scope_inside, after_part, after_start, after_hash, after_attributed, after_in_enum, after_in_attribute, spot_after}
use Rattle.logos_strip.specs.Stripping.{alone, in_front, thinned}

abbrev pub shape : Token → Token
shape (identifier text span) = identifier text no_span
shape (punctuation character spacing span) = punctuation character Alone no_span
shape (literal text span) = literal text no_span
shape (doc text span) = doc text no_span
shape (group delimiter span inside) = group delimiter no_span none

-- a token in front of others is as it was, or alone
pub front_either : (P : Token → Type 0) (pieces : List (Option Token)) (token : Token) → P token → P (alone token) → P (in_front pieces token)
front_either P [] token same other = same
front_either P (None ∷ pieces) token same other = other
front_either P (Some next ∷ pieces) token same other = same

shape-alone : (token : Token) → shape (alone token) ≡ shape token
shape-alone (identifier text span) = refl
shape-alone (punctuation character spacing span) = refl
shape-alone (literal text span) = refl
shape-alone (doc text span) = refl
shape-alone (group delimiter span inside) = refl

shape-thinned : (scope : Option Scope) (token : Token) → shape (thinned scope token) ≡ shape token
shape-thinned None token = refl
shape-thinned (Some scope) (identifier text span) = refl
shape-thinned (Some scope) (punctuation character spacing span) = refl
shape-thinned (Some scope) (literal text span) = refl
shape-thinned (Some scope) (doc text span) = refl
shape-thinned (Some scope) (group delimiter span inside) = refl

-- the rest of a token has its shape
pub shape-front : (pieces : List (Option Token)) (scope : Option Scope) (token : Token) → shape (in_front pieces (thinned scope token)) ≡ shape token
shape-front pieces scope token =
    let is = shape-thinned scope token in
    front_either (λ t. shape t ≡ shape token) pieces (thinned scope token) is (shape-alone (thinned scope token) ∙ is)

pub is_comma-shape : (token : Token) → is_comma (shape token) ≡ is_comma token
is_comma-shape (identifier text span) = refl
is_comma-shape (punctuation character spacing span) = refl
is_comma-shape (literal text span) = refl
is_comma-shape (doc text span) = refl
is_comma-shape (group delimiter span inside) = refl

part-shape : (other : TokenSpot) (token : Token) → after_part other (shape token) ≡ after_part other token
part-shape other (identifier text span) = refl
part-shape other (punctuation character spacing span) = refl
part-shape other (literal text span) = refl
part-shape other (doc text span) = refl
part-shape other (group delimiter span inside) = refl

start-shape : (other : TokenSpot) (token : Token) → after_start other (shape token) ≡ after_start other token
start-shape other (identifier text span) = refl
start-shape other (punctuation character spacing span) = refl
start-shape other (literal text span) = refl
start-shape other (doc text span) = refl
start-shape other (group delimiter span inside) = refl

hash-shape : (token : Token) → after_hash (shape token) ≡ after_hash token
hash-shape (identifier text span) = refl
hash-shape (punctuation character spacing span) = refl
hash-shape (literal text span) = refl
hash-shape (doc text span) = refl
hash-shape (group delimiter span inside) = refl

attributed-shape : (first spot : TokenSpot) (gone : Bool) (token : Token) → after_attributed first spot gone (shape token) ≡ after_attributed first spot gone token
attributed-shape first Open true token = refl
attributed-shape first Open false token = start-shape first token
attributed-shape first Hash gone token = hash-shape token
attributed-shape first Gone gone token = refl
attributed-shape first Named gone token = part-shape Within token
attributed-shape first Within gone token = part-shape Within token

enum-shape : (spot : TokenSpot) (gone : Bool) (token : Token) → after_in_enum spot gone (shape token) ≡ after_in_enum spot gone token
enum-shape Open gone token = attributed-shape Within Open gone token
enum-shape Hash gone token = attributed-shape Within Hash gone token
enum-shape Gone gone token = attributed-shape Within Gone gone token
enum-shape Named gone token = attributed-shape Within Named gone token
enum-shape Within gone token = refl

attribute-shape : (spot : TokenSpot) (token : Token) → after_in_attribute spot (shape token) ≡ after_in_attribute spot token
attribute-shape Open (identifier text span) = refl
attribute-shape Open (punctuation character spacing span) = refl
attribute-shape Open (literal text span) = refl
attribute-shape Open (doc text span) = refl
attribute-shape Open (group delimiter span inside) = refl
attribute-shape Hash token = refl
attribute-shape Gone token = refl
attribute-shape Named token = refl
attribute-shape Within token = refl

after-shape : (scope : Scope) (spot : TokenSpot) (gone : Bool) (token : Token) → spot_after scope spot gone (shape token) ≡ spot_after scope spot gone token
after-shape Enum spot gone token = enum-shape spot gone token
after-shape Attribute spot gone token = attribute-shape spot token
after-shape Derives spot true token = part-shape Gone token
after-shape Derives spot false token = part-shape Within token
after-shape Variants spot gone token = attributed-shape Named spot gone token
after-shape Fields spot gone token = attributed-shape Within spot gone token

-- after the rest of a token the spot is the same
pub after-front : (scope : Scope) (spot : TokenSpot) (gone : Bool) (pieces : List (Option Token)) (inner : Option Scope) (token : Token) →
    spot_after scope spot gone (in_front pieces (thinned inner token)) ≡ spot_after scope spot gone token
after-front scope spot gone pieces inner token =
    let t = in_front pieces (thinned inner token) in
    sym (after-shape scope spot gone t) ∙ ap (spot_after scope spot gone) (shape-front pieces inner token) ∙ after-shape scope spot gone token

scope-shape : (scope : Scope) (spot : TokenSpot) (token : Token) (rest : TokenList) → scope_inside scope spot (shape token) rest ≡ scope_inside scope spot token rest
scope-shape scope spot (identifier text span) rest = refl
scope-shape scope spot (punctuation character spacing span) rest = refl
scope-shape scope spot (literal text span) rest = refl
scope-shape scope spot (doc text span) rest = refl
scope-shape scope spot (group delimiter span inside) rest = refl

-- in the rest of a token the scope is the same
pub scope-front : (scope : Scope) (spot : TokenSpot) (pieces : List (Option Token)) (inner : Option Scope) (token : Token) (rest : TokenList) →
    scope_inside scope spot (in_front pieces (thinned inner token)) rest ≡ scope_inside scope spot token rest
scope-front scope spot pieces inner token rest =
    let t = in_front pieces (thinned inner token) in
    sym (scope-shape scope spot t rest) ∙ ap (λ u. scope_inside scope spot u rest) (shape-front pieces inner token) ∙ scope-shape scope spot token rest

shape-bare : (token : Token) → shape (bare_token token) ≡ shape token
shape-bare (identifier text span) = refl
shape-bare (punctuation character spacing span) = refl
shape-bare (literal text span) = refl
shape-bare (doc text span) = refl
shape-bare (group delimiter span inside) = refl

-- after a token without its span the spot is the same
pub after-bare : (scope : Scope) (spot : TokenSpot) (gone : Bool) (token : Token) → spot_after scope spot gone (bare_token token) ≡ spot_after scope spot gone token
after-bare scope spot gone token = sym (after-shape scope spot gone (bare_token token)) ∙ ap (spot_after scope spot gone) (shape-bare token) ∙ after-shape scope spot gone token

pub is_comma-bare : (token : Token) → is_comma (bare_token token) ≡ is_comma token
is_comma-bare token = sym (is_comma-shape (bare_token token)) ∙ ap is_comma (shape-bare token) ∙ is_comma-shape token
