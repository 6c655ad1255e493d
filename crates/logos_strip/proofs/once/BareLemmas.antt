-- The removed tokens do not depend on spans.
use Rattle.std.proofs.Common.{◌≡◌, ◌==◌, ◌&&◌, ◌||◌, not, Bool, true, false, List, [], ◌∷◌, map, option_map, Option, Some, None, codes, ℕ, refl, sym, ◌∙◌, ap, if◌then◌else◌}
use Rattle.std.specs.Str.{bytes_eq}
use Rattle.logos_lexeme.specs.declared.lexeme.Delimiter.TheVariants.{Parenthesis, Bracket, Brace}
use Rattle.logos_token.specs.Tokens.{Token, identifier, punctuation, literal, doc, group, TokenList, none, also}
use Rattle.logos_token.specs.PrintedAgain.{no_span, bare_token, bare}
use Rattle.logos_enum.specs.Marks.{colon, hash, begins_with, is_none}
use Rattle.logos_token.specs.First.{is_path_mark, after_word, after_colon, after_path_mark}
use Rattle.logos_strip.specs.declared.spots.Scope.{Scope}
use Rattle.logos_strip.specs.declared.spots.Scope.TheVariants.{Enum, Attribute, Derives, Variants, Fields}
use Rattle.logos_strip.specs.declared.spots.TokenSpot.{TokenSpot}
use Rattle.logos_strip.specs.declared.spots.TokenSpot.TheVariants.{Open, Hash, Gone, Named, Within}
use Rattle.logos_strip.specs.Helpers.{is_helper_name, is_helper_path, holds_helper, begins_helper, holds_after, ends_entry, is_macro_name, is_macro_segment, is_macro_path, is_global_path, is_macro_entry}
use Rattle.logos_strip.specs.Spots.{begins_gone, goes, spot_after, scope_of, scope_inside}
use Rattle.logos_strip.specs.Stripping.{alone, in_front, left, thinned, sorted, stripped}
use Rattle.logos_strip.proofs.once.ShapeLemmas.{after-bare, is_comma-bare}
use Rattle.logos_strip.proofs.once.OnceLemmas.{stripped-once}

-- the tests of runs

if_bare : (found : Bool) (run : TokenList) → (if found then Some (bare run) else None) ≡ option_map bare (if found then Some run else None)
if_bare true run = refl
if_bare false run = refl

word-bare : (word : List ℕ) (run : TokenList) → after_word word (bare run) ≡ option_map bare (after_word word run)
word-bare word none = refl
word-bare word (also (identifier text span) rest) = if_bare (bytes_eq text word) rest
word-bare word (also (punctuation character spacing span) rest) = refl
word-bare word (also (literal text span) rest) = refl
word-bare word (also (doc text span) rest) = refl
word-bare word (also (group delimiter span inside) rest) = refl

colon-bare : (run : TokenList) → after_colon (bare run) ≡ option_map bare (after_colon run)
colon-bare none = refl
colon-bare (also (identifier text span) rest) = refl
colon-bare (also (punctuation character spacing span) rest) = if_bare (character == colon) rest
colon-bare (also (literal text span) rest) = refl
colon-bare (also (doc text span) rest) = refl
colon-bare (also (group delimiter span inside) rest) = refl

mark-bare : (found : Bool) (run : TokenList) → (if found then after_colon (bare run) else None) ≡ option_map bare (if found then after_colon run else None)
mark-bare true run = colon-bare run
mark-bare false run = refl

colons-bare : (run : TokenList) → after_path_mark (bare run) ≡ option_map bare (after_path_mark run)
colons-bare none = refl
colons-bare (also (identifier text span) rest) = refl
colons-bare (also (punctuation character spacing span) rest) = mark-bare (is_path_mark character spacing) rest
colons-bare (also (literal text span) rest) = refl
colons-bare (also (doc text span) rest) = refl
colons-bare (also (group delimiter span inside) rest) = refl

holds-bare : (test : TokenList → Bool) → ((run : TokenList) → test (bare run) ≡ test run) → (found : Option TokenList) → holds_after test (option_map bare found) ≡ holds_after test found
holds-bare test same None = refl
holds-bare test same (Some run) = same run

ends-bare : (run : TokenList) → ends_entry (bare run) ≡ ends_entry run
ends-bare none = refl
ends-bare (also token rest) = is_comma-bare token

name-bare : (run : TokenList) → is_macro_name (bare run) ≡ is_macro_name run
name-bare run = ap (holds_after ends_entry) (word-bare (codes "Logos") run) ∙ holds-bare ends_entry ends-bare (after_word (codes "Logos") run)

segment-bare : (run : TokenList) → is_macro_segment (bare run) ≡ is_macro_segment run
segment-bare run = ap (holds_after is_macro_name) (colons-bare run) ∙ holds-bare is_macro_name name-bare (after_path_mark run)

path-bare : (run : TokenList) → is_macro_path (bare run) ≡ is_macro_path run
path-bare run = ap (holds_after is_macro_segment) (word-bare (codes "logos") run) ∙ holds-bare is_macro_segment segment-bare (after_word (codes "logos") run)

global-bare : (run : TokenList) → is_global_path (bare run) ≡ is_global_path run
global-bare run = ap (holds_after is_macro_path) (colons-bare run) ∙ holds-bare is_macro_path path-bare (after_path_mark run)

entry-bare : (run : TokenList) → is_macro_entry (bare run) ≡ is_macro_entry run
entry-bare run =
    ap (λ t. t || (is_macro_path (bare run) || is_global_path (bare run))) (name-bare run)
    ∙ ap (λ t. is_macro_name run || (t || is_global_path (bare run))) (path-bare run)
    ∙ ap (λ t. is_macro_name run || (is_macro_path run || t)) (global-bare run)

begins-bare : (run : TokenList) → begins_with colon (bare run) ≡ begins_with colon run
begins-bare none = refl
begins-bare (also (identifier text span) rest) = refl
begins-bare (also (punctuation character spacing span) rest) = refl
begins-bare (also (literal text span) rest) = refl
begins-bare (also (doc text span) rest) = refl
begins-bare (also (group delimiter span inside) rest) = refl

helper_path-bare : (run : TokenList) → is_helper_path (bare run) ≡ is_helper_path run
helper_path-bare none = refl
helper_path-bare (also (identifier text span) rest) = ap (λ t. is_helper_name text && not t) (begins-bare rest)
helper_path-bare (also (punctuation character spacing span) rest) = refl
helper_path-bare (also (literal text span) rest) = refl
helper_path-bare (also (doc text span) rest) = refl
helper_path-bare (also (group delimiter span inside) rest) = refl

brackets-bare : (run : TokenList) → holds_helper (bare run) ≡ holds_helper run
brackets-bare none = refl
brackets-bare (also (identifier text span) rest) = refl
brackets-bare (also (punctuation character spacing span) rest) = refl
brackets-bare (also (literal text span) rest) = refl
brackets-bare (also (doc text span) rest) = refl
brackets-bare (also (group Parenthesis span inside) rest) = refl
brackets-bare (also (group Bracket span inside) rest) = helper_path-bare inside
brackets-bare (also (group Brace span inside) rest) = refl

helper-bare : (run : TokenList) → begins_helper (bare run) ≡ begins_helper run
helper-bare none = refl
helper-bare (also (identifier text span) rest) = refl
helper-bare (also (punctuation character spacing span) rest) = ap (λ t. (character == hash) && t) (brackets-bare rest)
helper-bare (also (literal text span) rest) = refl
helper-bare (also (doc text span) rest) = refl
helper-bare (also (group delimiter span inside) rest) = refl

gone-bare : (scope : Scope) (run : TokenList) → begins_gone scope (bare run) ≡ begins_gone scope run
gone-bare Enum run = helper-bare run
gone-bare Attribute run = refl
gone-bare Derives run = entry-bare run
gone-bare Variants run = helper-bare run
gone-bare Fields run = helper-bare run

goes-bare : (scope : Scope) (spot : TokenSpot) (run : TokenList) → goes scope spot (bare run) ≡ goes scope spot run
goes-bare scope Open run = gone-bare scope run
goes-bare scope Hash run = refl
goes-bare scope Gone run = refl
goes-bare scope Named run = refl
goes-bare scope Within run = refl

none-bare : (run : TokenList) → is_none (bare run) ≡ is_none run
none-bare none = refl
none-bare (also token rest) = refl

scope-bare : (scope : Scope) (spot : TokenSpot) (token : Token) (rest : TokenList) → scope_inside scope spot (bare_token token) (bare rest) ≡ scope_inside scope spot token rest
scope-bare scope spot (identifier text span) rest = refl
scope-bare scope spot (punctuation character spacing span) rest = refl
scope-bare scope spot (literal text span) rest = refl
scope-bare scope spot (doc text span) rest = refl
scope-bare scope spot (group delimiter span inside) rest = ap (scope_of scope spot delimiter) (none-bare rest)

-- the rest

abbrev bare_pieces : List (Option Token) → List (Option Token)
bare_pieces pieces = map (option_map bare_token) pieces

alone-bare : (token : Token) → alone (bare_token token) ≡ bare_token (alone token)
alone-bare (identifier text span) = refl
alone-bare (punctuation character spacing span) = refl
alone-bare (literal text span) = refl
alone-bare (doc text span) = refl
alone-bare (group delimiter span inside) = refl

front-bare : (pieces : List (Option Token)) (token : Token) → in_front (bare_pieces pieces) (bare_token token) ≡ bare_token (in_front pieces token)
front-bare [] token = refl
front-bare (None ∷ pieces) token = alone-bare token
front-bare (Some next ∷ pieces) token = refl

left-bare : (pieces : List (Option Token)) → left (bare_pieces pieces) ≡ bare (left pieces)
left-bare [] = refl
left-bare (None ∷ pieces) = left-bare pieces
left-bare (Some token ∷ pieces) = ap (λ t. also t (left (bare_pieces pieces))) (front-bare pieces token) ∙ ap (also (bare_token (in_front pieces token))) (left-bare pieces)

abbrev SortedBare : Scope → TokenSpot → TokenList → Type 0
SortedBare scope spot run = sorted scope spot (bare run) ≡ bare_pieces (sorted scope spot run)

abbrev InsideBare : Token → Type 0
InsideBare (group delimiter span inside) = (scope : Scope) → SortedBare scope Open inside
InsideBare token = Unit {0}

thinned-bare : (inner : Option Scope) (token : Token) → InsideBare token → thinned inner (bare_token token) ≡ bare_token (thinned inner token)
thinned-bare None token ih = refl
thinned-bare (Some scope) (identifier text span) ih = refl
thinned-bare (Some scope) (punctuation character spacing span) ih = refl
thinned-bare (Some scope) (literal text span) ih = refl
thinned-bare (Some scope) (doc text span) ih = refl
thinned-bare (Some scope) (group delimiter span inside) ih = ap (group delimiter no_span) (ap left (ih scope) ∙ left-bare (sorted scope Open inside))

piece-bare : (gone : Bool) (inner other : Option Scope) (token : Token) → inner ≡ other → InsideBare token →
    (if gone then None else Some (thinned inner (bare_token token))) ≡ option_map bare_token (if gone then None else Some (thinned other token))
piece-bare true inner other token e ih = refl
piece-bare false inner other token e ih = ap (λ t. Some t) (ap (λ o. thinned o (bare_token token)) e ∙ thinned-bare other token ih)

step : (scope : Scope) (spot : TokenSpot) (token : Token) (rest : TokenList) → InsideBare token → ((next : TokenSpot) → SortedBare scope next rest) → SortedBare scope spot (also token rest)
step scope spot token rest inside ih =
    let gone = goes scope spot (also token rest) in
    let first = piece-bare gone (scope_inside scope spot (bare_token token) (bare rest)) (scope_inside scope spot token rest) token (scope-bare scope spot token rest) inside in
    let next = spot_after scope spot gone token in
    let after : sorted scope (spot_after scope spot gone (bare_token token)) (bare rest) ≡ bare_pieces (sorted scope next rest) = ap (λ p. sorted scope p (bare rest)) (after-bare scope spot gone token) ∙ ih next in
    let piece : Bool → Option Token = λ b. if b then None else Some (thinned (scope_inside scope spot (bare_token token) (bare rest)) (bare_token token)) in
    ap (λ b. piece b ∷ sorted scope (spot_after scope spot b (bare_token token)) (bare rest)) (goes-bare scope spot (also token rest))
    ∙ ap (λ p. p ∷ sorted scope (spot_after scope spot gone (bare_token token)) (bare rest)) first
    ∙ ap (λ ps. option_map bare_token (if gone then None else Some (thinned (scope_inside scope spot token rest) token)) ∷ ps) after

sorted-bare : (scope : Scope) (spot : TokenSpot) (run : TokenList) → SortedBare scope spot run
sorted-bare scope spot none = refl
sorted-bare scope spot (also (identifier text span) rest) = step scope spot (identifier text span) rest tt (λ next. sorted-bare scope next rest)
sorted-bare scope spot (also (punctuation character spacing span) rest) = step scope spot (punctuation character spacing span) rest tt (λ next. sorted-bare scope next rest)
sorted-bare scope spot (also (literal text span) rest) = step scope spot (literal text span) rest tt (λ next. sorted-bare scope next rest)
sorted-bare scope spot (also (doc text span) rest) = step scope spot (doc text span) rest tt (λ next. sorted-bare scope next rest)
sorted-bare scope spot (also (group delimiter span inside) rest) = step scope spot (group delimiter span inside) rest (λ inner. sorted-bare inner Open inside) (λ next. sorted-bare scope next rest)

stripped-bare : (tokens : TokenList) → stripped (bare tokens) ≡ bare (stripped tokens)
stripped-bare tokens = ap left (sorted-bare Enum Open tokens) ∙ left-bare (sorted Enum Open tokens)

-- nothing more goes from tokens that are those of the rest, spans aside
pub bare-once : (tokens again : TokenList) → bare again ≡ bare (stripped tokens) → bare (stripped again) ≡ bare again
bare-once tokens again e =
    sym (stripped-bare again) ∙ ap stripped e ∙ stripped-bare (stripped tokens) ∙ ap bare (stripped-once tokens) ∙ sym e
