-- Nothing more is removed from the remaining tokens.
use Rattle.std.proofs.Common.{◌≡◌, ◌==◌, ◌&&◌, not, Bool, true, false, ℕ, List, [], ◌∷◌, Option, Some, None, codes, refl, sym, ◌∙◌, ap, subst, if◌then◌else◌}
use Rattle.std.proofs.lemmas.Bool.{false≢true, true≢false, eqb-true}
use Rattle.std.specs.Str.{bytes_eq}
use Rattle.logos_lexeme.specs.declared.lexeme.Spacing.{Spacing}
use Rattle.logos_lexeme.specs.declared.lexeme.Spacing.TheVariants.{Alone}
use Rattle.logos_lexeme.specs.declared.lexeme.Span.{Span}
use Rattle.logos_lexeme.specs.declared.lexeme.Delimiter.{Delimiter}
use Rattle.logos_lexeme.specs.declared.lexeme.Delimiter.TheVariants.{Parenthesis, Bracket, Brace}
use Rattle.logos_token.specs.Tokens.{Token, identifier, punctuation, literal, doc, group, TokenList, none, also}
use Rattle.logos_enum.specs.Marks.{comma, colon, hash, begins_with, is_none}
use Rattle.logos_strip.specs.declared.spots.Scope.{Scope}
use Rattle.logos_strip.specs.declared.spots.Scope.TheVariants.{Enum, Attribute, Derives, Variants, Fields}
use Rattle.logos_strip.specs.declared.spots.TokenSpot.{TokenSpot}
use Rattle.logos_strip.specs.declared.spots.TokenSpot.TheVariants.{Open, Hash, Gone, Named, Within}
use Rattle.logos_strip.specs.Helpers.{is_comma, is_helper_name, is_helper_path, holds_helper, begins_helper, is_macro_entry}
use Rattle.logos_strip.specs.Spots.{goes, after_part, after_start, after_hash, after_attributed, after_in_enum, after_in_attribute, spot_after, scope_of, scope_inside}
use Rattle.logos_strip.specs.Stripping.{alone, in_front, left, thinned, sorted, stripped}
use Rattle.logos_strip.proofs.once.ShapeLemmas.{shape, front_either, shape-front, after-front, scope-front}
use Rattle.logos_strip.proofs.once.EntryLemmas.{SameEntry, ended, parted, further, entry_same}

-- all tokens stay
abbrev pub kept : TokenList → List (Option Token)
kept none = []
kept (also token rest) = Some token ∷ kept rest

left-kept : (run : TokenList) → left (kept run) ≡ run
left-kept none = refl
left-kept (also token none) = refl
left-kept (also token (also next rest)) = ap (also token) (left-kept (also next rest))

-- the spot at which the removed tokens end
abbrev settled : TokenSpot → TokenSpot
settled Gone = Open
settled spot = spot

-- no spot of an attribute's brackets is among the removed tokens
abbrev IsReached : Scope → TokenSpot → Type 0
IsReached Attribute Gone = ⊥
IsReached scope spot = Unit {0}

reached-start : (scope : Scope) → IsReached scope Open
reached-start Enum = tt
reached-start Attribute = tt
reached-start Derives = tt
reached-start Variants = tt
reached-start Fields = tt

if_spot : (P : TokenSpot → Type 0) (found : Bool) (one other : TokenSpot) → P one → P other → P (if found then one else other)
if_spot P true one other a b = a
if_spot P false one other a b = b

reached-path : (spot : TokenSpot) (token : Token) → IsReached Attribute (spot_after Attribute spot false token)
reached-path Open (identifier text span) = if_spot (IsReached Attribute) (bytes_eq text (codes "derive")) Named Within tt tt
reached-path Open (punctuation character spacing span) = tt
reached-path Open (literal text span) = tt
reached-path Open (doc text span) = tt
reached-path Open (group delimiter span inside) = tt
reached-path Hash token = tt
reached-path Gone token = tt
reached-path Named token = tt
reached-path Within token = tt

reached-after : (scope : Scope) (spot : TokenSpot) (gone : Bool) (token : Token) → IsReached scope (spot_after scope spot gone token)
reached-after Enum spot gone token = tt
reached-after Attribute spot gone token = reached-path spot token
reached-after Derives spot gone token = tt
reached-after Variants spot gone token = tt
reached-after Fields spot gone token = tt

-- a token that stays is followed by no spot among the removed tokens

if_settled : (found : Bool) (one other : TokenSpot) → settled one ≡ one → settled other ≡ other → settled (if found then one else other) ≡ (if found then one else other)
if_settled found one other a b = if_spot (λ p. settled p ≡ p) found one other a b

settled-start : (other : TokenSpot) → settled other ≡ other → (token : Token) → settled (after_start other token) ≡ after_start other token
settled-start other e (identifier text span) = e
settled-start other e (punctuation character spacing span) = if_settled (character == hash) Hash other refl e
settled-start other e (literal text span) = e
settled-start other e (doc text span) = refl
settled-start other e (group delimiter span inside) = e

settled-hash : (token : Token) → settled (after_hash token) ≡ after_hash token
settled-hash (identifier text span) = refl
settled-hash (punctuation character spacing span) = refl
settled-hash (literal text span) = refl
settled-hash (doc text span) = refl
settled-hash (group delimiter span inside) = refl

settled-attributed : (first spot : TokenSpot) → settled first ≡ first → (token : Token) → settled (after_attributed first spot false token) ≡ after_attributed first spot false token
settled-attributed first Open e token = settled-start first e token
settled-attributed first Hash e token = settled-hash token
settled-attributed first Gone e token = refl
settled-attributed first Named e token = if_settled (is_comma token) Open Within refl refl
settled-attributed first Within e token = if_settled (is_comma token) Open Within refl refl

settled-enum : (spot : TokenSpot) (token : Token) → settled (after_in_enum spot false token) ≡ after_in_enum spot false token
settled-enum Open token = settled-attributed Within Open refl token
settled-enum Hash token = settled-attributed Within Hash refl token
settled-enum Gone token = settled-attributed Within Gone refl token
settled-enum Named token = settled-attributed Within Named refl token
settled-enum Within token = refl

settled-path : (spot : TokenSpot) (token : Token) → settled (after_in_attribute spot token) ≡ after_in_attribute spot token
settled-path Open (identifier text span) = if_settled (bytes_eq text (codes "derive")) Named Within refl refl
settled-path Open (punctuation character spacing span) = refl
settled-path Open (literal text span) = refl
settled-path Open (doc text span) = refl
settled-path Open (group delimiter span inside) = refl
settled-path Hash token = refl
settled-path Gone token = refl
settled-path Named token = refl
settled-path Within token = refl

settled-after : (scope : Scope) (spot : TokenSpot) (token : Token) → settled (spot_after scope spot false token) ≡ spot_after scope spot false token
settled-after Enum spot token = settled-enum spot token
settled-after Attribute spot token = settled-path spot token
settled-after Derives spot token = if_settled (is_comma token) Open Within refl refl
settled-after Variants spot token = settled-attributed Named spot refl token
settled-after Fields spot token = settled-attributed Within spot refl token

-- removed tokens are where an attribute or an entry can begin, and so are the tokens after them
abbrev GoesOpen : Scope → TokenSpot → Token → Type 0
GoesOpen scope spot token = (settled spot ≡ Open) × (settled (spot_after scope spot true token) ≡ Open)

gone-entry : (token : Token) → settled (spot_after Derives Gone true token) ≡ Open
gone-entry token = if_spot (λ p. settled p ≡ Open) (is_comma token) Open Gone refl refl

goes-open : (scope : Scope) (spot : TokenSpot) (token : Token) (run : TokenList) → IsReached scope spot → goes scope spot run ≡ true → GoesOpen scope spot token
goes-open Enum Open token run reached e = (refl, refl)
goes-open Attribute Open token run reached e = absurd (false≢true e)
goes-open Derives Open token run reached e = (refl, gone-entry token)
goes-open Variants Open token run reached e = (refl, refl)
goes-open Fields Open token run reached e = (refl, refl)
goes-open Enum Gone token run reached e = (refl, refl)
goes-open Attribute Gone token run reached e = absurd reached
goes-open Derives Gone token run reached e = (refl, gone-entry token)
goes-open Variants Gone token run reached e = (refl, refl)
goes-open Fields Gone token run reached e = (refl, refl)
goes-open scope Hash token run reached e = absurd (false≢true e)
goes-open scope Named token run reached e = absurd (false≢true e)
goes-open scope Within token run reached e = absurd (false≢true e)

-- the brackets of an attribute keep its path

no_scope : (spot : TokenSpot) (token : Token) (rest : TokenList) → scope_inside Derives spot token rest ≡ None
no_scope spot (identifier text span) rest = refl
no_scope spot (punctuation character spacing span) rest = refl
no_scope spot (literal text span) rest = refl
no_scope spot (doc text span) rest = refl
no_scope spot (group delimiter span inside) rest = refl

abbrev BeginsSame : TokenList → TokenList → Type 0
BeginsSame one other = begins_with colon one ≡ begins_with colon other

first-colon : (pieces : List (Option Token)) (inner : Option Scope) (token : Token) (rest more : TokenList) → begins_with colon (also (in_front pieces (thinned inner token)) more) ≡ begins_with colon (also token rest)
first-colon pieces inner token rest more =
    let shown : (t : Token) → begins_with colon (also t more) ≡ begins_with colon (also (shape t) none) = λ t. colon-shape t more in
    shown (in_front pieces (thinned inner token)) ∙ ap (λ t. begins_with colon (also t none)) (shape-front pieces inner token) ∙ sym (colon-shape token rest)
  where
    colon-shape : (token : Token) (rest : TokenList) → begins_with colon (also token rest) ≡ begins_with colon (also (shape token) none)
    colon-shape (identifier text span) rest = refl
    colon-shape (punctuation character spacing span) rest = refl
    colon-shape (literal text span) rest = refl
    colon-shape (doc text span) rest = refl
    colon-shape (group delimiter span inside) rest = refl

attribute-goes : (spot : TokenSpot) (run : TokenList) → IsReached Attribute spot → goes Attribute spot run ≡ false
attribute-goes Open run reached = refl
attribute-goes Hash run reached = refl
attribute-goes Gone run reached = absurd reached
attribute-goes Named run reached = refl
attribute-goes Within run reached = refl

colon-left : (spot : TokenSpot) (rest : TokenList) → IsReached Attribute spot → BeginsSame (left (sorted Attribute spot rest)) rest
colon-left spot none reached = refl
colon-left spot (also token rest) reached = rw (attribute-goes spot (also token rest) reached) (first-colon _ _ token rest _)

path-left : (inside : TokenList) → is_helper_path (left (sorted Attribute Open inside)) ≡ is_helper_path inside
path-left none = refl
path-left (also (identifier text span) rest) =
    let next = spot_after Attribute Open false (identifier text span) in
    let more = left (sorted Attribute next rest) in
    let is : is_helper_path (also (identifier text span) more) ≡ is_helper_path (also (identifier text span) rest) =
    ap (λ b. is_helper_name text && not b) (colon-left next rest (reached-path Open (identifier text span))) in
    front_either (λ t. is_helper_path (also t more) ≡ is_helper_path (also (identifier text span) rest)) (sorted Attribute next rest) (identifier text span) is is
path-left (also (punctuation character spacing span) rest) = front_either (λ t. is_helper_path (also t (left (sorted Attribute Within rest))) ≡ false) (sorted Attribute Within rest) (punctuation character spacing span) refl refl
path-left (also (literal text span) rest) = front_either (λ t. is_helper_path (also t (left (sorted Attribute Within rest))) ≡ false) (sorted Attribute Within rest) (literal text span) refl refl
path-left (also (doc text span) rest) = front_either (λ t. is_helper_path (also t (left (sorted Attribute Within rest))) ≡ false) (sorted Attribute Within rest) (doc text span) refl refl
path-left (also (group delimiter span inside) rest) = front_either (λ t. is_helper_path (also t (left (sorted Attribute Within rest))) ≡ false) (sorted Attribute Within rest) (group delimiter span inside) refl refl

-- after the `#` of an attribute that stays, the tokens in brackets are unchanged

brackets-left : (scope : Scope) (last : Bool) (span : Span) (inside rest more : TokenList) →
    holds_helper (also (thinned (scope_of scope Hash Bracket last) (group Bracket span inside)) more) ≡ holds_helper (also (group Bracket span inside) rest)
brackets-left Enum last span inside rest more = path-left inside
brackets-left Attribute last span inside rest more = refl
brackets-left Derives last span inside rest more = refl
brackets-left Variants last span inside rest more = refl
brackets-left Fields last span inside rest more = refl

-- a token that is not a group, or a group with another delimiter
abbrev IsOther : Token → Type 0
IsOther (group Bracket span inside) = ⊥
IsOther token = Unit {0}

other-first : (token : Token) (rest : TokenList) → IsOther token → holds_helper (also token rest) ≡ false
other-first (identifier text span) rest o = refl
other-first (punctuation character spacing span) rest o = refl
other-first (literal text span) rest o = refl
other-first (doc text span) rest o = refl
other-first (group Parenthesis span inside) rest o = refl
other-first (group Bracket span inside) rest o = absurd o
other-first (group Brace span inside) rest o = refl

other-thinned : (inner : Option Scope) (token : Token) → IsOther token → IsOther (thinned inner token)
other-thinned None token o = o
other-thinned (Some scope) (identifier text span) o = tt
other-thinned (Some scope) (punctuation character spacing span) o = tt
other-thinned (Some scope) (literal text span) o = tt
other-thinned (Some scope) (doc text span) o = tt
other-thinned (Some scope) (group Parenthesis span inside) o = tt
other-thinned (Some scope) (group Bracket span inside) o = o
other-thinned (Some scope) (group Brace span inside) o = tt

other-alone : (token : Token) → IsOther token → IsOther (alone token)
other-alone (identifier text span) o = o
other-alone (punctuation character spacing span) o = tt
other-alone (literal text span) o = o
other-alone (doc text span) o = o
other-alone (group delimiter span inside) o = o

other-left : (pieces : List (Option Token)) (inner : Option Scope) (token : Token) (rest more : TokenList) → IsOther token →
    holds_helper (also (in_front pieces (thinned inner token)) more) ≡ holds_helper (also token rest)
other-left pieces inner token rest more o =
    let t = other-thinned inner token o in
    other-first (in_front pieces (thinned inner token)) more (front_either IsOther pieces (thinned inner token) t (other-alone (thinned inner token) t)) ∙ sym (other-first token rest o)

alone-group : (inner : Option Scope) (delimiter : Delimiter) (span : Span) (inside : TokenList) → alone (thinned inner (group delimiter span inside)) ≡ thinned inner (group delimiter span inside)
alone-group None delimiter span inside = refl
alone-group (Some scope) delimiter span inside = refl

holds-left : (scope : Scope) (rest : TokenList) → holds_helper (left (sorted scope Hash rest)) ≡ holds_helper rest
holds-left scope none = refl
holds-left scope (also (group Bracket span inside) rest) =
    let inner = scope_of scope Hash Bracket (is_none rest) in
    let next = sorted scope (spot_after scope Hash false (group Bracket span inside)) rest in
    let is = brackets-left scope (is_none rest) span inside rest (left next) in
    front_either (λ t. holds_helper (also t (left next)) ≡ holds_helper (also (group Bracket span inside) rest)) next (thinned inner (group Bracket span inside)) is
    (ap (λ t. holds_helper (also t (left next))) (alone-group inner Bracket span inside) ∙ is)
holds-left scope (also token rest) =
    let next = sorted scope (spot_after scope Hash false token) rest in
    other-left next (scope_inside scope Hash token rest) token rest (left next) tt

-- no helper attribute begins with a token that stays

mark-shape : (token : Token) (rest : TokenList) → begins_helper (also (shape token) rest) ≡ begins_helper (also token rest)
mark-shape (identifier text span) rest = refl
mark-shape (punctuation character spacing span) rest = refl
mark-shape (literal text span) rest = refl
mark-shape (doc text span) rest = refl
mark-shape (group delimiter span inside) rest = refl

mark-left : (scope : Scope) (first : TokenSpot) (token : Token) (rest : TokenList) → begins_helper (also token rest) ≡ false → begins_helper (also token (left (sorted scope (after_start first token) rest))) ≡ false
mark-left scope first (identifier text span) rest h = refl
mark-left scope first (punctuation character spacing span) rest h = go (character == hash) refl
  where
    go : (b : Bool) → (character == hash) ≡ b → begins_helper (also (punctuation character spacing span) (left (sorted scope (after_start first (punctuation character spacing span)) rest))) ≡ false
    go true e = let f : holds_helper rest ≡ false = rw e at h in rw e (holds-left scope rest ∙ f)
    go false e = rw e refl
mark-left scope first (literal text span) rest h = refl
mark-left scope first (doc text span) rest h = refl
mark-left scope first (group delimiter span inside) rest h = refl

helper-left : (scope : Scope) (first : TokenSpot) (pieces : List (Option Token)) (inner : Option Scope) (token : Token) (rest : TokenList) → begins_helper (also token rest) ≡ false →
    begins_helper (also (in_front pieces (thinned inner token)) (left (sorted scope (after_start first token) rest))) ≡ false
helper-left scope first pieces inner token rest h =
    let t = in_front pieces (thinned inner token) in
    let more = left (sorted scope (after_start first token) rest) in
    sym (mark-shape t more) ∙ ap (λ u. begins_helper (also u more)) (shape-front pieces inner token) ∙ mark-shape token more ∙ mark-left scope first token rest h

-- an entry that stays is the same

comma-entry : (character : ℕ) (spacing : Spacing) (span : Span) (rest : TokenList) (pieces : List (Option Token)) → character ≡ comma →
    SameEntry (also (punctuation character spacing span) rest) (left (Some (punctuation character spacing span) ∷ pieces))
comma-entry character spacing span rest pieces e =
    let more = left pieces in
    let P : ℕ → Type 0 = λ c. SameEntry (also (punctuation c spacing span) rest) (left (Some (punctuation c spacing span) ∷ pieces)) in
    subst P (sym e) (front_either (λ t. SameEntry (also (punctuation comma spacing span) rest) (also t more)) pieces (punctuation comma spacing span) (parted span spacing spacing rest more) (parted span spacing Alone rest more))

parted-entry : (token : Token) (rest : TokenList) (pieces : List (Option Token)) → is_comma token ≡ true → SameEntry (also token rest) (left (Some token ∷ pieces))
parted-entry (identifier text span) rest pieces e = absurd (false≢true e)
parted-entry (punctuation character spacing span) rest pieces e = comma-entry character spacing span rest pieces (eqb-true character comma e)
parted-entry (literal text span) rest pieces e = absurd (false≢true e)
parted-entry (doc text span) rest pieces e = absurd (false≢true e)
parted-entry (group delimiter span inside) rest pieces e = absurd (false≢true e)

within-front : (rest : TokenList) (token : Token) → in_front (sorted Derives Within rest) token ≡ token
within-front none token = refl
within-front (also next rest) token = refl

one-entry : (token : Token) (rest : TokenList) → SameEntry rest (left (sorted Derives Within rest)) → SameEntry (also token rest) (left (Some token ∷ sorted Derives (after_part Within token) rest))
one-entry token rest ih = go (is_comma token) refl
  where
    go : (b : Bool) → is_comma token ≡ b → SameEntry (also token rest) (left (Some token ∷ sorted Derives (after_part Within token) rest))
    go true e = parted-entry token rest (sorted Derives (after_part Within token) rest) e
    go false e =
        let more = left (sorted Derives Within rest) in
        let P : TokenSpot → Type 0 = λ p. SameEntry (also token rest) (left (Some token ∷ sorted Derives p rest)) in
        let spot : Within ≡ after_part Within token = ap (λ b. if b then Open else Within) (sym e) in
        subst P spot (subst (λ t. SameEntry (also token rest) (also t more)) (sym (within-front rest token)) (further token e ih))

entry-left : (rest : TokenList) → SameEntry rest (left (sorted Derives Within rest))
entry-left none = ended
entry-left (also token rest) = rw (no_scope Within token rest) (one-entry token rest (entry-left rest))

-- The rest of a token that stays, and of those after it.
module _ (scope : Scope) (spot : TokenSpot) (token : Token) (rest : TokenList) where
  abbrev Next : TokenSpot
  Next = spot_after scope spot false token

  abbrev first_left : Token
  first_left = in_front (sorted scope Next rest) (thinned (scope_inside scope spot token rest) token)

  abbrev rest_left : TokenList
  rest_left = left (sorted scope Next rest)

-- it stays again
goes-left : (scope : Scope) (spot : TokenSpot) (token : Token) (rest : TokenList) → goes scope spot (also token rest) ≡ false → goes scope spot (also (first_left scope spot token rest) (rest_left scope spot token rest)) ≡ false
goes-left Enum Open token rest h = helper-left Enum Within (sorted Enum (spot_after Enum Open false token) rest) (scope_inside Enum Open token rest) token rest h
goes-left Attribute Open token rest h = refl
goes-left Derives Open token rest h =
    let is : is_macro_entry (left (Some token ∷ sorted Derives (after_part Within token) rest)) ≡ false = sym (entry_same _ _ (one-entry token rest (entry-left rest))) ∙ h in
    rw (no_scope Open token rest) is
goes-left Variants Open token rest h = helper-left Variants Named (sorted Variants (spot_after Variants Open false token) rest) (scope_inside Variants Open token rest) token rest h
goes-left Fields Open token rest h = helper-left Fields Within (sorted Fields (spot_after Fields Open false token) rest) (scope_inside Fields Open token rest) token rest h
goes-left scope Hash token rest h = refl
goes-left scope Gone token rest h = absurd (true≢false h)
goes-left scope Named token rest h = refl
goes-left scope Within token rest h = refl

-- of the same scope
none-left : (rest : TokenList) → is_none (left (sorted Enum Within rest)) ≡ is_none rest
none-left none = refl
none-left (also token rest) = refl

scope-rest : (scope : Scope) (spot : TokenSpot) (delimiter : Delimiter) (span : Span) (inside rest : TokenList) →
    scope_of scope spot delimiter (is_none (rest_left scope spot (group delimiter span inside) rest)) ≡ scope_of scope spot delimiter (is_none rest)
scope-rest Enum Open delimiter span inside rest = refl
scope-rest Enum Hash Parenthesis span inside rest = refl
scope-rest Enum Hash Bracket span inside rest = refl
scope-rest Enum Hash Brace span inside rest = refl
scope-rest Enum Gone delimiter span inside rest = refl
scope-rest Enum Named delimiter span inside rest = refl
scope-rest Enum Within delimiter span inside rest = ap (scope_of Enum Within delimiter) (none-left rest)
scope-rest Attribute Open delimiter span inside rest = refl
scope-rest Attribute Hash delimiter span inside rest = refl
scope-rest Attribute Gone delimiter span inside rest = refl
scope-rest Attribute Named Parenthesis span inside rest = refl
scope-rest Attribute Named Bracket span inside rest = refl
scope-rest Attribute Named Brace span inside rest = refl
scope-rest Attribute Within delimiter span inside rest = refl
scope-rest Derives spot delimiter span inside rest = refl
scope-rest Variants Open delimiter span inside rest = refl
scope-rest Variants Hash delimiter span inside rest = refl
scope-rest Variants Gone delimiter span inside rest = refl
scope-rest Variants Named delimiter span inside rest = refl
scope-rest Variants Within delimiter span inside rest = refl
scope-rest Fields spot delimiter span inside rest = refl

scope-again : (scope : Scope) (spot : TokenSpot) (token : Token) (rest : TokenList) → scope_inside scope spot token (rest_left scope spot token rest) ≡ scope_inside scope spot token rest
scope-again scope spot (identifier text span) rest = refl
scope-again scope spot (punctuation character spacing span) rest = refl
scope-again scope spot (literal text span) rest = refl
scope-again scope spot (doc text span) rest = refl
scope-again scope spot (group delimiter span inside) rest = scope-rest scope spot delimiter span inside rest

scope-left : (scope : Scope) (spot : TokenSpot) (token : Token) (rest : TokenList) → scope_inside scope spot (first_left scope spot token rest) (rest_left scope spot token rest) ≡ scope_inside scope spot token rest
scope-left scope spot token rest =
    scope-front scope spot (sorted scope (spot_after scope spot false token) rest) (scope_inside scope spot token rest) token (rest_left scope spot token rest) ∙ scope-again scope spot token rest

-- and its contents stay
abbrev InsideOnce : Token → Type 0
InsideOnce (group delimiter span inside) = (inner : Scope) → sorted inner Open (left (sorted inner Open inside)) ≡ kept (left (sorted inner Open inside))
InsideOnce token = Unit {0}

abbrev IsThinned : Scope → Token → Type 0
IsThinned scope token = thinned (Some scope) token ≡ token

thinned-again : (scope : Scope) (token : Token) → InsideOnce token → (IsThinned scope (thinned (Some scope) token)) × (IsThinned scope (alone (thinned (Some scope) token)))
thinned-again scope (identifier text span) ih = (refl, refl)
thinned-again scope (punctuation character spacing span) ih = (refl, refl)
thinned-again scope (literal text span) ih = (refl, refl)
thinned-again scope (doc text span) ih = (refl, refl)
thinned-again scope (group delimiter span inside) ih =
    let is : left (sorted scope Open (left (sorted scope Open inside))) ≡ left (sorted scope Open inside) = ap left (ih scope) ∙ left-kept (left (sorted scope Open inside)) in
    (ap (group delimiter span) is, ap (group delimiter span) is)

thinned-front : (pieces : List (Option Token)) (inner : Option Scope) (token : Token) → InsideOnce token → thinned inner (in_front pieces (thinned inner token)) ≡ in_front pieces (thinned inner token)
thinned-front pieces None token ih = refl
thinned-front pieces (Some scope) token ih = let both = thinned-again scope token ih in front_either (IsThinned scope) pieces (thinned (Some scope) token) both.0 both.1

-- Twice is once.

abbrev Once : Scope → TokenSpot → TokenList → Type 0
Once scope spot run = sorted scope (settled spot) (left (sorted scope spot run)) ≡ kept (left (sorted scope spot run))

stays : (scope : Scope) (spot : TokenSpot) (token : Token) (rest : TokenList) → goes scope spot (also token rest) ≡ false → InsideOnce token → Once scope (spot_after scope spot false token) rest →
    sorted scope spot (also (first_left scope spot token rest) (rest_left scope spot token rest)) ≡ Some (first_left scope spot token rest) ∷ kept (rest_left scope spot token rest)
stays scope spot token rest h inside ih =
    let first = first_left scope spot token rest in
    let more = rest_left scope spot token rest in
    let next = spot_after scope spot false token in
    let pieces = sorted scope next rest in
    let inner = scope_inside scope spot token rest in
    let again : thinned (scope_inside scope spot first more) first ≡ first = ap (λ o. thinned o first) (scope-left scope spot token rest) ∙ thinned-front pieces inner token inside in
    let after : spot_after scope spot false first ≡ next = after-front scope spot false pieces inner token in
    let there : settled next ≡ next = settled-after scope spot token in
    let others : sorted scope (spot_after scope spot false first) more ≡ kept more = ap (λ p. sorted scope p more) (after ∙ sym there) ∙ ih in
    rw (goes-left scope spot token rest h) (ap (λ t. Some t ∷ sorted scope (spot_after scope spot false first) more) again ∙ ap (λ ps. Some first ∷ ps) others)

stays-spot : (scope : Scope) (spot : TokenSpot) (run : TokenList) → goes scope spot run ≡ false → settled spot ≡ spot
stays-spot scope Open run h = refl
stays-spot scope Hash run h = refl
stays-spot scope Gone run h = absurd (true≢false h)
stays-spot scope Named run h = refl
stays-spot scope Within run h = refl

step : (scope : Scope) (spot : TokenSpot) (token : Token) (rest : TokenList) → IsReached scope spot → InsideOnce token → ((next : TokenSpot) → IsReached scope next → Once scope next rest) → Once scope spot (also token rest)
step scope spot token rest reached inside ih = go (goes scope spot (also token rest)) refl
  where
    go : (b : Bool) → goes scope spot (also token rest) ≡ b → Once scope spot (also token rest)
    go true e =
        let next = spot_after scope spot true token in
        let more = left (sorted scope next rest) in
        let open_spots = goes-open scope spot token (also token rest) reached e in
        let is : sorted scope (settled spot) more ≡ kept more = ap (λ p. sorted scope p more) (open_spots.0 ∙ sym open_spots.1) ∙ ih next (reached-after scope spot true token) in
        rw e is
    go false e =
        let is : sorted scope (settled spot) (also (first_left scope spot token rest) (rest_left scope spot token rest)) ≡ Some (first_left scope spot token rest) ∷ kept (rest_left scope spot token rest) =
        ap (λ p. sorted scope p (also (first_left scope spot token rest) (rest_left scope spot token rest))) (stays-spot scope spot (also token rest) e)
        ∙ stays scope spot token rest e inside (ih (spot_after scope spot false token) (reached-after scope spot false token)) in
        rw e is

once : (scope : Scope) (spot : TokenSpot) (run : TokenList) → IsReached scope spot → Once scope spot run
once scope spot none reached = refl
once scope spot (also (identifier text span) rest) reached = step scope spot (identifier text span) rest reached tt (λ next r. once scope next rest r)
once scope spot (also (punctuation character spacing span) rest) reached = step scope spot (punctuation character spacing span) rest reached tt (λ next r. once scope next rest r)
once scope spot (also (literal text span) rest) reached = step scope spot (literal text span) rest reached tt (λ next r. once scope next rest r)
once scope spot (also (doc text span) rest) reached = step scope spot (doc text span) rest reached tt (λ next r. once scope next rest r)
once scope spot (also (group delimiter span inside) rest) reached =
    step scope spot (group delimiter span inside) rest reached (λ inner. once inner Open inside (reached-start inner)) (λ next r. once scope next rest r)

-- nothing more goes from the rest of an enum
pub stripped-once : (tokens : TokenList) → stripped (stripped tokens) ≡ stripped tokens
stripped-once tokens = ap left (once Enum Open tokens tt) ∙ left-kept (stripped tokens)
