-- The lexemes of the remaining tokens are those of the whole, where some are left out, and commas
-- before these are alone.
use Rattle.std.proofs.Common.{◌≡◌, ◌==◌, ℕ, not, Bool, true, false, List, [], ◌∷◌, ◌++◌, Option, Some, None, refl, sym, ◌∙◌, subst, append_assoc, if◌then◌else◌}
use Rattle.std.proofs.lemmas.Bool.{false≢true, true≢false, eqb-true}
use Rattle.logos_lexeme.specs.declared.lexeme.Span.{Span}
use Rattle.logos_lexeme.specs.declared.lexeme.Spacing.{Spacing}
use Rattle.logos_lexeme.specs.declared.lexeme.Spacing.TheVariants.{Alone, Joint}
use Rattle.logos_lexeme.specs.declared.lexeme.Delimiter.{Delimiter}
use Rattle.logos_token.specs.Tokens.{Token, identifier, punctuation, literal, doc, group, TokenList, none, also}
use Rattle.logos_token.specs.Spelling.{Lexeme, leaf, opens, closes, token_lexemes, lexemes}
use Rattle.logos_enum.specs.Marks.{comma, hash}
use Rattle.logos_strip.specs.declared.spots.Scope.{Scope}
use Rattle.logos_strip.specs.declared.spots.Scope.TheVariants.{Enum, Attribute, Derives, Variants, Fields}
use Rattle.logos_strip.specs.declared.spots.TokenSpot.{TokenSpot}
use Rattle.logos_strip.specs.declared.spots.TokenSpot.TheVariants.{Open, Hash, Gone, Named, Within}
use Rattle.logos_strip.specs.Spots.{goes, after_attributed, after_in_enum, after_in_attribute, spot_after, scope_inside}
use Rattle.logos_strip.specs.Stripping.{alone, in_front, left, thinned, sorted}
use Rattle.logos_strip.proofs.once.ShapeLemmas.{front_either}

-- whether a lexeme is joint punctuation
abbrev pub is_joint : Lexeme → Bool
is_joint (leaf (punctuation character Joint span)) = true
is_joint lexeme = false

-- of the first lexemes the second ones are left; and whether the first of all stays, if there is
-- one
pub data Thins : Bool → List Lexeme → List Lexeme → Type 0 where
  ended : Thins true [] []
  drops : (stays : Bool) (lexeme : Lexeme) {ls ms : List Lexeme} → Thins stays ls ms → Thins false (lexeme ∷ ls) ms
  keeps : (stays : Bool) (lexeme : Lexeme) {ls ms : List Lexeme} → (is_joint lexeme ≡ true → stays ≡ true) → Thins stays ls ms → Thins true (lexeme ∷ ls) (lexeme ∷ ms)
  loosens : (stays : Bool) (spacing : Spacing) (span : Span) {ls ms : List Lexeme} → Thins stays ls ms → Thins true (leaf (punctuation comma spacing span) ∷ ls) (leaf (punctuation comma Alone span) ∷ ms)

keep-one : (stays : Bool) (lexeme : Lexeme) (ls ms : List Lexeme) → is_joint lexeme ≡ false → Thins stays ls ms → Thins true (lexeme ∷ ls) (lexeme ∷ ms)
keep-one stays lexeme ls ms e t = keeps stays lexeme (λ f. absurd (false≢true (sym e ∙ f))) t

keep-all : (front ls ms : List Lexeme) → Thins true ls ms → Thins true (front ++ ls) (front ++ ms)
keep-all [] ls ms t = t
keep-all (l ∷ front) ls ms t = keeps true l (λ e. refl) (keep-all front ls ms t)

thins-append : {stays : Bool} {ls ms : List Lexeme} → Thins stays ls ms → (more others : List Lexeme) → Thins true more others → Thins stays (ls ++ more) (ms ++ others)
thins-append ended more others u = u
thins-append (drops stays lexeme t) more others u = drops stays lexeme (thins-append t more others u)
thins-append (keeps stays lexeme e t) more others u = keeps stays lexeme e (thins-append t more others u)
thins-append (loosens stays spacing span t) more others u = loosens stays spacing span (thins-append t more others u)

record Dropped (ls ms : List Lexeme) : Type 0 where
  stays : Bool
  thins : Thins stays ls ms

drop-all : (front ls ms : List Lexeme) → Dropped ls ms → Dropped (front ++ ls) ms
drop-all [] ls ms d = d
drop-all (l ∷ front) ls ms d = let r = drop-all front ls ms d in record { stays = false; thins = drops r.stays l r.thins }

drop-token : (stays : Bool) (token : Token) (ls ms : List Lexeme) → Thins stays ls ms → Thins false (token_lexemes token ++ ls) ms
drop-token stays (identifier text span) ls ms t = drops stays _ t
drop-token stays (punctuation character spacing span) ls ms t = drops stays _ t
drop-token stays (literal text span) ls ms t = drops stays _ t
drop-token stays (doc text span) ls ms t = drops stays _ t
drop-token stays (group delimiter span inside) ls ms t =
    let r = drop-all (lexemes inside ++ closes delimiter span.to ∷ []) ls ms (record { stays = stays; thins = t }) in
    drops r.stays (opens delimiter span.from) r.thins

-- whether the first token of a run stays
abbrev pub first_stays : Scope → TokenSpot → TokenList → Bool
first_stays scope spot none = true
first_stays scope spot (also token rest) = not (goes scope spot (also token rest))

-- only a comma is before the removed tokens

if_goes : (scope : Scope) (rest : TokenList) (found : Bool) (other : TokenSpot) → goes scope other rest ≡ false → goes scope (if found then Open else other) rest ≡ true → found ≡ true
if_goes scope rest true other e f = refl
if_goes scope rest false other e f = absurd (false≢true (sym e ∙ f))

mark-goes : (scope : Scope) (rest : TokenList) (found : Bool) (other : TokenSpot) → goes scope other rest ≡ false → goes scope (if found then Hash else other) rest ≡ true → ⊥
mark-goes scope rest true other e f = false≢true f
mark-goes scope rest false other e f = false≢true (sym e ∙ f)

module _ (character : ℕ) (spacing : Spacing) (span : Span) (rest : TokenList) where
  abbrev Mark : Token
  Mark = punctuation character spacing span

  attributed-goes : (scope : Scope) (first spot : TokenSpot) → goes scope first rest ≡ false → goes scope spot (also Mark rest) ≡ false → goes scope (after_attributed first spot false Mark) rest ≡ true → (character == comma) ≡ true
  attributed-goes scope first Open e stays f = absurd (mark-goes scope rest (character == hash) first e f)
  attributed-goes scope first Hash e stays f = absurd (false≢true f)
  attributed-goes scope first Gone e stays f = absurd (true≢false stays)
  attributed-goes scope first Named e stays f = if_goes scope rest (character == comma) Within refl f
  attributed-goes scope first Within e stays f = if_goes scope rest (character == comma) Within refl f

  enum-goes : (spot : TokenSpot) → goes Enum spot (also Mark rest) ≡ false → goes Enum (after_in_enum spot false Mark) rest ≡ true → (character == comma) ≡ true
  enum-goes Open stays f = attributed-goes Enum Within Open refl stays f
  enum-goes Hash stays f = attributed-goes Enum Within Hash refl stays f
  enum-goes Gone stays f = absurd (true≢false stays)
  enum-goes Named stays f = attributed-goes Enum Within Named refl stays f
  enum-goes Within stays f = absurd (false≢true f)

  path-goes : (spot : TokenSpot) → goes Attribute (after_in_attribute spot Mark) rest ≡ true → (character == comma) ≡ true
  path-goes Open f = absurd (false≢true f)
  path-goes Hash f = absurd (false≢true f)
  path-goes Gone f = absurd (false≢true f)
  path-goes Named f = absurd (false≢true f)
  path-goes Within f = absurd (false≢true f)

  comma-goes : (scope : Scope) (spot : TokenSpot) → goes scope spot (also Mark rest) ≡ false → goes scope (spot_after scope spot false Mark) rest ≡ true → (character == comma) ≡ true
  comma-goes Enum spot stays f = enum-goes spot stays f
  comma-goes Attribute spot stays f = path-goes spot f
  comma-goes Derives spot stays f = if_goes Derives rest (character == comma) Within refl f
  comma-goes Variants spot stays f = attributed-goes Variants Named spot refl stays f
  comma-goes Fields spot stays f = attributed-goes Fields Within spot refl stays f

-- one token that stays

loosen : (stays : Bool) (character : ℕ) (spacing : Spacing) (span : Span) (ls ms : List Lexeme) → character ≡ comma → Thins stays ls ms →
    Thins true (leaf (punctuation character spacing span) ∷ ls) (leaf (punctuation character Alone span) ∷ ms)
loosen stays character spacing span ls ms e t =
    let P : ℕ → Type 0 = λ c. Thins true (leaf (punctuation c spacing span) ∷ ls) (leaf (punctuation c Alone span) ∷ ms) in
    subst P (sym e) (loosens stays spacing span t)

abbrev ThinsRun : Scope → TokenSpot → TokenList → Type 0
ThinsRun scope spot run = Thins (first_stays scope spot run) (lexemes run) (lexemes (left (sorted scope spot run)))

abbrev ThinsInside : Token → Type 0
ThinsInside (group delimiter span inside) = (scope : Scope) → ThinsRun scope Open inside
ThinsInside token = Unit {0}

thins-leaf : (pieces : List (Option Token)) (inner : Option Scope) (token : Token) (ls ms : List Lexeme) → token_lexemes token ≡ leaf token ∷ [] → is_joint (leaf token) ≡ false → thinned inner token ≡ token → alone token ≡ token → (stays : Bool) → Thins stays ls ms →
    Thins true (token_lexemes token ++ ls) (token_lexemes (in_front pieces (thinned inner token)) ++ ms)
thins-leaf pieces inner token ls ms one joint same other stays t =
    let kept : Thins true (token_lexemes token ++ ls) (token_lexemes token ++ ms) = subst (λ front. Thins true (front ++ ls) (front ++ ms)) (sym one) (keep-one stays (leaf token) ls ms joint t) in
    let P : Token → Type 0 = λ u. Thins true (token_lexemes token ++ ls) (token_lexemes u ++ ms) in
    subst (λ u. P (in_front pieces u)) (sym same) (front_either P pieces token kept (subst P (sym other) kept))

-- punctuation in front of others, after which the spot is this one
mark-front : (scope : Scope) (next : TokenSpot) (character : ℕ) (spacing : Spacing) (span : Span) (rest : TokenList) → (goes scope next rest ≡ true → (character == comma) ≡ true) → ThinsRun scope next rest →
    Thins true (leaf (punctuation character spacing span) ∷ lexemes rest) (token_lexemes (in_front (sorted scope next rest) (punctuation character spacing span)) ++ lexemes (left (sorted scope next rest)))
mark-front scope next character spacing span none only t = keeps true _ (λ e. refl) t
mark-front scope next character spacing span (also token more) only t = go (goes scope next (also token more)) refl
  where
    go : (b : Bool) → goes scope next (also token more) ≡ b →
        Thins true (leaf (punctuation character spacing span) ∷ lexemes (also token more))
        (token_lexemes (in_front (sorted scope next (also token more)) (punctuation character spacing span)) ++ lexemes (left (sorted scope next (also token more))))
    go true e =
        let after = left (sorted scope (spot_after scope next true token) more) in
        let u : Thins false (lexemes (also token more)) (lexemes after) = rw e at t in
        let w : Thins true (leaf (punctuation character spacing span) ∷ lexemes (also token more)) (leaf (punctuation character Alone span) ∷ lexemes after) =
        loosen false character spacing span _ _ (eqb-true character comma (only e)) u in
        rw e w
    go false e =
        let first = in_front (sorted scope (spot_after scope next false token) more) (thinned (scope_inside scope next token more) token) in
        let after = also first (left (sorted scope (spot_after scope next false token) more)) in
        let u : Thins true (lexemes (also token more)) (lexemes after) = rw e at t in
        let w : Thins true (leaf (punctuation character spacing span) ∷ lexemes (also token more)) (leaf (punctuation character spacing span) ∷ lexemes after) = keeps true _ (λ f. refl) u in
        rw e w

group-front : (pieces : List (Option Token)) (delimiter : Delimiter) (span : Span) (inside : TokenList) → in_front pieces (group delimiter span inside) ≡ group delimiter span inside
group-front pieces delimiter span inside = front_either (λ t. t ≡ group delimiter span inside) pieces (group delimiter span inside) refl refl

-- a group with the rest in it
thins-group : (stays inner_stays : Bool) (delimiter : Delimiter) (span : Span) (inside kept : TokenList) (ls ms : List Lexeme) → Thins inner_stays (lexemes inside) (lexemes kept) → Thins stays ls ms →
    Thins true (token_lexemes (group delimiter span inside) ++ ls) (token_lexemes (group delimiter span kept) ++ ms)
thins-group stays inner_stays delimiter span inside kept ls ms t u =
    let close : Thins true (closes delimiter span.to ∷ ls) (closes delimiter span.to ∷ ms) = keep-one stays (closes delimiter span.to) ls ms refl u in
    let both = thins-append t (closes delimiter span.to ∷ ls) (closes delimiter span.to ∷ ms) close in
    let one = sym (append_assoc (lexemes inside) (closes delimiter span.to ∷ []) ls) in
    let other = sym (append_assoc (lexemes kept) (closes delimiter span.to ∷ []) ms) in
    keep-one inner_stays (opens delimiter span.from) _ _ refl (subst (λ xs. Thins inner_stays xs ((lexemes kept ++ closes delimiter span.to ∷ []) ++ ms)) one (subst (λ ys. Thins inner_stays (lexemes inside ++ (closes delimiter span.to ∷ ls)) ys) other both))

keep-group : (stays : Bool) (delimiter : Delimiter) (span : Span) (inside : TokenList) (ls ms : List Lexeme) → Thins stays ls ms → Thins true (token_lexemes (group delimiter span inside) ++ ls) (token_lexemes (group delimiter span inside) ++ ms)
keep-group stays delimiter span inside ls ms u =
    let close : Thins true (closes delimiter span.to ∷ ls) (closes delimiter span.to ∷ ms) = keep-one stays (closes delimiter span.to) ls ms refl u in
    let both = keep-all (opens delimiter span.from ∷ lexemes inside) _ _ close in
    let one = sym (append_assoc (lexemes inside) (closes delimiter span.to ∷ []) ls) in
    let other = sym (append_assoc (lexemes inside) (closes delimiter span.to ∷ []) ms) in
    subst (λ xs. Thins true (opens delimiter span.from ∷ xs) (opens delimiter span.from ∷ ((lexemes inside ++ closes delimiter span.to ∷ []) ++ ms))) one
    (subst (λ ys. Thins true (opens delimiter span.from ∷ (lexemes inside ++ (closes delimiter span.to ∷ ls))) (opens delimiter span.from ∷ ys)) other both)

group-left : (stays : Bool) (pieces : List (Option Token)) (inner : Option Scope) (delimiter : Delimiter) (span : Span) (inside : TokenList) (ls ms : List Lexeme) → ThinsInside (group delimiter span inside) → Thins stays ls ms →
    Thins true (token_lexemes (group delimiter span inside) ++ ls) (token_lexemes (in_front pieces (thinned inner (group delimiter span inside))) ++ ms)
group-left stays pieces None delimiter span inside ls ms ih t = rw (group-front pieces delimiter span inside) (keep-group stays delimiter span inside ls ms t)
group-left stays pieces (Some scope) delimiter span inside ls ms ih t =
    let kept = left (sorted scope Open inside) in
    rw (group-front pieces delimiter span kept) (thins-group stays (first_stays scope Open inside) delimiter span inside kept ls ms (ih scope) t)

-- one token that stays, with the rest after it
keep-token : (scope : Scope) (spot : TokenSpot) (token : Token) (rest : TokenList) → goes scope spot (also token rest) ≡ false → ThinsInside token → ThinsRun scope (spot_after scope spot false token) rest →
    Thins true (token_lexemes token ++ lexemes rest)
    (token_lexemes (in_front (sorted scope (spot_after scope spot false token) rest) (thinned (scope_inside scope spot token rest) token)) ++ lexemes (left (sorted scope (spot_after scope spot false token) rest)))
keep-token scope spot (identifier text span) rest stays ih t = thins-leaf _ (scope_inside scope spot (identifier text span) rest) (identifier text span) _ _ refl refl refl refl _ t
keep-token scope spot (punctuation character spacing span) rest stays ih t = mark-front scope (spot_after scope spot false (punctuation character spacing span)) character spacing span rest (comma-goes character spacing span rest scope spot stays) t
keep-token scope spot (literal text span) rest stays ih t = thins-leaf _ (scope_inside scope spot (literal text span) rest) (literal text span) _ _ refl refl refl refl _ t
keep-token scope spot (doc text span) rest stays ih t = thins-leaf _ (scope_inside scope spot (doc text span) rest) (doc text span) _ _ refl refl refl refl _ t
keep-token scope spot (group delimiter span inside) rest stays ih t = group-left _ _ (scope_inside scope spot (group delimiter span inside) rest) delimiter span inside _ _ ih t

step : (scope : Scope) (spot : TokenSpot) (token : Token) (rest : TokenList) → ThinsInside token → ((next : TokenSpot) → ThinsRun scope next rest) → ThinsRun scope spot (also token rest)
step scope spot token rest inside ih = go (goes scope spot (also token rest)) refl
  where
    go : (b : Bool) → goes scope spot (also token rest) ≡ b → ThinsRun scope spot (also token rest)
    go true e = let t = drop-token (first_stays scope (spot_after scope spot true token) rest) token (lexemes rest) _ (ih (spot_after scope spot true token)) in rw e t
    go false e = let t = keep-token scope spot token rest e inside (ih (spot_after scope spot false token)) in rw e t

-- the rest of a run is thinned
pub thins-run : (scope : Scope) (spot : TokenSpot) (run : TokenList) → ThinsRun scope spot run
thins-run scope spot none = ended
thins-run scope spot (also (identifier text span) rest) = step scope spot (identifier text span) rest tt (λ next. thins-run scope next rest)
thins-run scope spot (also (punctuation character spacing span) rest) = step scope spot (punctuation character spacing span) rest tt (λ next. thins-run scope next rest)
thins-run scope spot (also (literal text span) rest) = step scope spot (literal text span) rest tt (λ next. thins-run scope next rest)
thins-run scope spot (also (doc text span) rest) = step scope spot (doc text span) rest tt (λ next. thins-run scope next rest)
thins-run scope spot (also (group delimiter span inside) rest) = step scope spot (group delimiter span inside) rest (λ inner. thins-run inner Open inside) (λ next. thins-run scope next rest)
