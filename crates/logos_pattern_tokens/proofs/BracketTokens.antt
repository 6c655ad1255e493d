-- Tokens inside brackets: tokens that are read are written there, and tokens that are written are
-- read.
use Rattle.std.proofs.Common.{◌≡◌, ◌≢◌, ℕ, zero, suc, ◌+◌, ◌≤◌, Bool, true, false, not, ◌&&◌, ◌||◌, cond, eqb, leb, [], ◌∷◌, ◌++◌, drop, replicate, Option, Some, None, option_map, unwrap_or, refl, sym, ap, subst, ◌∙◌, arith, append_assoc, leb-true, le-leb, ne_eqb}
use Rattle.std.proofs.lemmas.Bool.{eqb-true, eqb-false, cond-false}
use Rattle.unicode.specs.declared.sets.Set.{Set}
use Rattle.logos_pattern_tokens.specs.declared.token.Atom.{Atom}
use Rattle.logos_pattern_tokens.specs.declared.token.Atom.TheVariants as atoms
use Rattle.logos_hir.specs.declared.property.AsciiKind.{AsciiKind}
use Rattle.logos_hir.specs.declared.property.PerlKind.{PerlKind}
use Rattle.logos_pattern_tokens.specs.declared.bracket.token.Symbol.{Symbol}
use Rattle.logos_pattern_tokens.specs.declared.bracket.token.Symbol.TheVariants.{Character, Byte}
use Rattle.logos_pattern_tokens.specs.declared.bracket.token.BracketItem.{BracketItem}
use Rattle.logos_pattern_tokens.specs.declared.bracket.token.BracketItem.TheVariants as items
use Rattle.logos_hir.specs.declared.sets.operands.SetOperator.{SetOperator}
use Rattle.logos_hir.specs.declared.sets.operands.SetOperator.TheVariants.{Intersection, Difference, SymmetricDifference}
use Rattle.logos_pattern_tokens.specs.declared.bracket.token.Lead.{Lead}
use Rattle.logos_pattern_tokens.specs.declared.bracket.token.Lead.TheVariants.{Dashes, Bracket as LoneBracket}
use Rattle.logos_pattern_tokens.specs.declared.bracket.token.BracketToken.{BracketToken}
use Rattle.logos_pattern_tokens.specs.declared.bracket.token.BracketToken.TheVariants as tokens
use Rattle.logos_hir.specs.Property.{ascii_named}
use Rattle.logos_pattern_tokens.specs.Token.{Text, ◌>>=◌, cut_at}
use Rattle.logos_pattern_tokens.specs.Escapes.{begins, escape_at}
use Rattle.logos_pattern_tokens.specs.Spelling.{NotBegins, Lacks, Escapes}
use Rattle.logos_pattern_tokens.specs.bracket.Spelling.{code_of, Symbols, plain, escaped, escaped_byte, operator_letter, begins_operator, begins_item, begins_range, class_text, IsClass, NoClass, Leads, dashes, one_bracket, Opens, positive, negative, BracketTakes, closes, operator, class, opens, one, range, perl, property as property_item}
use Rattle.logos_pattern_tokens.specs.bracket.Reader.{symbol_of, last_at, range_token, range_at, lone_at, escape_item, item_at, dashes_from, lead_at, open_at, class_end, name_end, colon_at, class_at, inner_at, operator_of, bracket_token_at}
use Rattle.logos_pattern_tokens.proofs.Picks.{IsTaken, pick, pick_is, bind_taken, map_taken, apart, cut_found, cut_there}
use Rattle.logos_pattern_tokens.proofs.EscapeLemmas.{escape_taken, escape_is}

-- ---- openings

dashes_read : (n : ℕ) (t : Text) → (k : ℕ) × (t ≡ replicate k 45 ++ (dashes_from n t).1) × ((dashes_from n t).0 ≡ n + k) × NotBegins 45 (dashes_from n t).1
dashes_read n [] = (0, refl, omega arith, tt)
dashes_read n (c ∷ rest) = from (eqb c 45) refl (dashes_read (n + 1) rest)
  where
    from : (b : Bool) → eqb c 45 ≡ b → ((k : ℕ) × (rest ≡ replicate k 45 ++ (dashes_from (n + 1) rest).1) × ((dashes_from (n + 1) rest).0 ≡ (n + 1) + k) × NotBegins 45 (dashes_from (n + 1) rest).1) →
        let r : ℕ × Text = cond b (dashes_from (n + 1) rest) (n, c ∷ rest) in
        (k : ℕ) × (c ∷ rest ≡ replicate k 45 ++ r.1) × (r.0 ≡ n + k) × NotBegins 45 r.1
    from true e h = (suc h.0, ap (λ k. k ∷ rest) (eqb-true c 45 e) ∙ ap (λ (x : Text). 45 ∷ x) h.1, omega (arith, h.2), h.3)
    from false e h = (0, refl, omega arith, eqb-false c 45 e)

dashes_are : (n k : ℕ) (rest : Text) → NotBegins 45 rest → dashes_from n (replicate k 45 ++ rest) ≡ (n + k, rest)
dashes_are n zero [] h = ap (λ (m : ℕ). (m, [])) (let e : n ≡ n + 0 = omega arith in e)
dashes_are n zero (c ∷ rest) h = let e : eqb c 45 ≡ false = ne_eqb c 45 h in rw e (ap (λ (m : ℕ). (m, c ∷ rest)) (let f : n ≡ n + 0 = omega arith in f))
dashes_are n (suc k) rest h = dashes_are (n + 1) k rest h ∙ ap (λ (m : ℕ). (m, rest)) (let f : (n + 1) + k ≡ n + suc k = omega arith in f)

lead_taken : (t : Text) → Leads (lead_at t).0 t (lead_at t).1
unfolding lead_at
lead_taken [] = dashes 0 [] tt (λ e. tt)
lead_taken (c ∷ rest) = from (eqb c 93) refl (dashes_read 0 (c ∷ rest))
  where
    from : (b : Bool) → eqb c 93 ≡ b → ((k : ℕ) × (c ∷ rest ≡ replicate k 45 ++ (dashes_from 0 (c ∷ rest)).1) × ((dashes_from 0 (c ∷ rest)).0 ≡ 0 + k) × NotBegins 45 (dashes_from 0 (c ∷ rest)).1) →
        let r : Lead × Text = cond b (LoneBracket, rest) (Dashes (dashes_from 0 (c ∷ rest)).0, (dashes_from 0 (c ∷ rest)).1) in Leads r.0 (c ∷ rest) r.1
    from true e h = subst (λ k. Leads LoneBracket (k ∷ rest) rest) (sym (eqb-true c 93 e)) (one_bracket rest)
    from false e h =
        let d = dashes_from 0 (c ∷ rest) in
        let count : h.0 ≡ d.0 = omega (arith, h.2) in
        subst (λ (x : Text). Leads (Dashes d.0) x d.1) (ap (λ (m : ℕ). replicate m 45 ++ d.1) (sym count) ∙ sym h.1)
        (dashes d.0 d.1 h.3 (λ none. let same : c ∷ rest ≡ d.1 = h.1 ∙ ap (λ (m : ℕ). replicate m 45 ++ d.1) (count ∙ none) in subst (NotBegins 93) same (eqb-false c 93 e)))

bracket_lead : (tail : Text) → lead_at (93 ∷ tail) ≡ (LoneBracket, tail)
unfolding lead_at
bracket_lead tail = refl

other_lead : (c : ℕ) (tail : Text) → c ≢ 93 → lead_at (c ∷ tail) ≡ (Dashes (dashes_from 0 (c ∷ tail)).0, (dashes_from 0 (c ∷ tail)).1)
unfolding lead_at
other_lead c tail ne = let e : eqb c 93 ≡ false = ne_eqb c 93 ne in rw e refl

no_lead : lead_at [] ≡ (Dashes 0, [])
unfolding lead_at
no_lead = refl

counted_lead : (n : ℕ) (d : ℕ × Text) (tail : Text) → d ≡ (n, tail) → ◌≡◌ {A = Lead × Text} (Dashes d.0, d.1) (Dashes n, tail)
counted_lead n d tail e = ap (λ (x : ℕ × Text). (Dashes x.0, x.1)) e

zero_plus : (n : ℕ) (tail : Text) → ◌≡◌ {A = ℕ × Text} (0 + n, tail) (n, tail)
zero_plus n tail = ap (λ (m : ℕ). (m, tail)) (let e : 0 + n ≡ n = omega arith in e)

dash_lead : (n : ℕ) (tail : Text) → NotBegins 45 tail → (n ≡ 0 → NotBegins 93 tail) → lead_at (replicate n 45 ++ tail) ≡ (Dashes n, tail)
dash_lead zero [] h k = no_lead
dash_lead zero (c ∷ tail) h k = other_lead c tail (k refl) ∙ counted_lead 0 (dashes_from 0 (c ∷ tail)) (c ∷ tail) (dashes_are 0 0 (c ∷ tail) h)
dash_lead (suc n) tail h k =
    other_lead 45 (replicate n 45 ++ tail) (λ e. absurd (omega (arith, e))) ∙ counted_lead (suc n) (dashes_from 0 (replicate (suc n) 45 ++ tail)) tail (dashes_are 0 (suc n) tail h ∙ zero_plus (suc n) tail)

lead_is : (lead : Lead) (text rest : Text) → Leads lead text rest → lead_at text ≡ (lead, rest)
lead_is lead text rest (one_bracket tail) = bracket_lead tail
lead_is lead text rest (dashes n tail no_dash no_bracket) = dash_lead n tail no_dash no_bracket

begins_front : (d : ℕ) (t : Text) → begins d t ≡ true → (rest : Text) × (t ≡ d ∷ rest)
begins_front d [] e = absurd cc
begins_front d (c ∷ t) e = (t, ap (λ k. k ∷ t) (eqb-true c d e))

begins_not : (d : ℕ) (t : Text) → begins d t ≡ false → NotBegins d t
begins_not d [] e = tt
begins_not d (c ∷ t) e = eqb-false c d e

not_begins : (d : ℕ) (t : Text) → NotBegins d t → begins d t ≡ false
not_begins d [] h = refl
not_begins d (c ∷ t) h = ne_eqb c d h

pub open_taken : (t : Text) → Opens (open_at t).0 (open_at t).1 t (open_at t).2
unfolding open_at
open_taken t = from (begins 94 t) refl
  where
    from : (b : Bool) → begins 94 t ≡ b →
        let r : Bool × Lead × Text = cond b (true, (lead_at (drop 1 t)).0, (lead_at (drop 1 t)).1) (false, (lead_at t).0, (lead_at t).1) in Opens r.0 r.1 t r.2
    from true e =
        let f = begins_front 94 t e in
        subst (λ x. Opens true (lead_at (drop 1 x)).0 x (lead_at (drop 1 x)).1) (sym f.1) (negative (lead_at f.0).0 f.0 (lead_at f.0).1 (lead_taken f.0))
    from false e = positive (lead_at t).0 t (lead_at t).1 (begins_not 94 t e) (lead_taken t)

plain_open : (t : Text) → NotBegins 94 t → open_at t ≡ (false, (lead_at t).0, (lead_at t).1)
unfolding open_at
plain_open t h = rw (not_begins 94 t h) refl

turned_open : (t : Text) → open_at (94 ∷ t) ≡ (true, (lead_at t).0, (lead_at t).1)
unfolding open_at
turned_open t = refl

pub open_is : (negated : Bool) (lead : Lead) (text rest : Text) → Opens negated lead text rest → open_at text ≡ (negated, lead, rest)
open_is negated lead text rest (positive l t r none k) = plain_open t none ∙ ap (λ (x : Lead × Text). (false, x.0, x.1)) (lead_is l t r k)
open_is negated lead text rest (negative l t r k) = turned_open t ∙ ap (λ (x : Lead × Text). (true, x.0, x.1)) (lead_is l t r k)

-- ---- items: each value that is read is written there

abbrev Item_at : BracketToken → Text → Text → Type 0
Item_at = BracketTakes

-- a symbol that an escape is
symbol_taken : (a : Atom) (s : Symbol) (text rest : Text) → symbol_of a ≡ Some s → Escapes a text rest → Symbols s (92 ∷ text) rest
symbol_taken (atoms.Character c) s text rest e h = let same : Character c ≡ s = cc in subst (λ x. Symbols x (92 ∷ text) rest) same (escaped c text rest h)
symbol_taken (atoms.Byte b) s text rest e h = let same : Byte b ≡ s = cc in subst (λ x. Symbols x (92 ∷ text) rest) same (escaped_byte b text rest h)
symbol_taken atoms.Dot s text rest e h = absurd cc
symbol_taken atoms.Caret s text rest e h = absurd cc
symbol_taken atoms.Dollar s text rest e h = absurd cc
symbol_taken atoms.TextStart s text rest e h = absurd cc
symbol_taken atoms.TextEnd s text rest e h = absurd cc
symbol_taken (atoms.Boundary n) s text rest e h = absurd cc
symbol_taken (atoms.Perl k n) s text rest e h = absurd cc
symbol_taken (atoms.Property k n) s text rest e h = absurd cc

bound_escape : {K : Type 0} (P : K → Text → Text → Type 0) (t u : Text) (f : Atom × Text → Option (K × Text)) → ((a : Atom) (rest : Text) → Escapes a t rest → IsTaken P u (f (a, rest))) → IsTaken P u (escape_at t >>= f)
bound_escape P t u f h = from (escape_at t) (escape_taken t)
  where
    from : (o : Option (Atom × Text)) → IsTaken Escapes t o → IsTaken P u (o >>= f)
    from None e = tt
    from (Some x) e = h x.0 x.1 e

last_taken : (t : Text) → IsTaken Symbols t (last_at t)
unfolding last_at
last_taken [] = tt
last_taken (c ∷ rest) =
    pick Symbols (c ∷ rest) (eqb c 92) (escape_at rest >>= (λ x. option_map (λ s. (s, x.1)) (symbol_of x.0))) (Some (Character c, rest))
    (λ e. subst (λ k. IsTaken Symbols (k ∷ rest) (escape_at rest >>= (λ x. option_map (λ s. (s, x.1)) (symbol_of x.0)))) (sym (eqb-true c 92 e))
    (bound_escape Symbols rest (92 ∷ rest) (λ x. option_map (λ s. (s, x.1)) (symbol_of x.0)) (λ a after h. map_taken Symbols (92 ∷ rest) (symbol_of a) (λ s. (s, after)) (λ s is. symbol_taken a s rest after is h))))
    (λ e. plain c rest (eqb-false c 92 e))

-- a symbol at the front of an item
ranged_taken : (a : Symbol) (text rest : Text) → begins_item text ≡ true → Symbols a text rest → IsTaken BracketTakes text (range_at a rest)
unfolding range_at range_token
ranged_taken a text rest item s = pick BracketTakes text (begins_range rest) (last_at (drop 1 rest) >>= range_token a) (Some (tokens.Item (items.One a), rest)) (λ e. in_range rest e s) (λ e. one a text rest item s e)
  where
    ends : (after : Text) → begins_range (45 ∷ after) ≡ true → Symbols a text (45 ∷ after) → (o : Option (Symbol × Text)) → IsTaken Symbols after o → IsTaken BracketTakes text (o >>= range_token a)
    ends after e k None h = tt
    ends after e k (Some x) h = pick BracketTakes text (leb (code_of a) (code_of x.0)) (Some (tokens.Item (items.Range a x.0), x.1)) None (λ le. range a x.0 text after x.1 item k e h (leb-true _ _ le)) (λ _. tt)

    in_range : (rest : Text) → begins_range rest ≡ true → Symbols a text rest → IsTaken BracketTakes text (last_at (drop 1 rest) >>= range_token a)
    in_range [] e k = absurd cc
    in_range (c ∷ []) e k = absurd cc
    in_range (c ∷ d ∷ tail) e k =
        let dash : c ≡ 45 = eqb-true c 45 (first_true (eqb c 45) (not (eqb d 93 || eqb d 45)) e) in
        ends (d ∷ tail) (subst (λ x. begins_range (x ∷ d ∷ tail) ≡ true) dash e) (subst (λ x. Symbols a text (x ∷ d ∷ tail)) dash k) (last_at (d ∷ tail)) (last_taken (d ∷ tail))
      where
        first_true : (x y : Bool) → (x && y) ≡ true → x ≡ true
        first_true true y h = refl
        first_true false y h = absurd cc

lone_taken : (item : BracketItem) (text rest : Text) → (begins_range rest ≡ false → BracketTakes (tokens.Item item) text rest) → IsTaken BracketTakes text (lone_at item rest)
unfolding lone_at
lone_taken item text rest h = pick BracketTakes text (begins_range rest) None (Some (tokens.Item item, rest)) (λ _. tt) h

-- an item does not begin with a backslash that is an operator or a bracket
begins_escape : (t : Text) → begins_item (92 ∷ t) ≡ true
begins_escape [] = refl
begins_escape (c ∷ t) = from (eqb 92 c)
  where
    from : (b : Bool) → not (b && false) ≡ true
    from true = refl
    from false = refl

escaped_item_taken : (a : Atom) (text rest : Text) → Escapes a text rest → IsTaken BracketTakes (92 ∷ text) (escape_item a rest)
unfolding escape_item
escaped_item_taken (atoms.Character c) text rest h = ranged_taken (Character c) (92 ∷ text) rest (begins_escape text) (escaped c text rest h)
escaped_item_taken (atoms.Byte b) text rest h = ranged_taken (Byte b) (92 ∷ text) rest (begins_escape text) (escaped_byte b text rest h)
escaped_item_taken atoms.Dot text rest h = tt
escaped_item_taken atoms.Caret text rest h = tt
escaped_item_taken atoms.Dollar text rest h = tt
escaped_item_taken atoms.TextStart text rest h = tt
escaped_item_taken atoms.TextEnd text rest h = tt
escaped_item_taken (atoms.Boundary n) text rest h = tt
escaped_item_taken (atoms.Perl k n) text rest h = lone_taken (items.Perl k n) (92 ∷ text) rest (λ e. perl k n text rest h e)
escaped_item_taken (atoms.Property k n) text rest h = lone_taken (items.Property k n) (92 ∷ text) rest (λ e. property_item k n text rest h e)

item_taken : (t : Text) → begins_item t ≡ true → IsTaken BracketTakes t (item_at t)
unfolding item_at
item_taken [] e = tt
item_taken (c ∷ rest) item =
    pick BracketTakes (c ∷ rest) (eqb c 92) (escape_at rest >>= (λ x. escape_item x.0 x.1)) (range_at (Character c) rest)
    (λ e. subst (λ k. IsTaken BracketTakes (k ∷ rest) (escape_at rest >>= (λ x. escape_item x.0 x.1))) (sym (eqb-true c 92 e))
    (bound_escape BracketTakes rest (92 ∷ rest) (λ x. escape_item x.0 x.1) (λ a after h. escaped_item_taken a rest after h)))
    (λ e. ranged_taken (Character c) (c ∷ rest) rest item (plain c rest (eqb-false c 92 e)))

-- ---- classes of ASCII characters

-- the name of a class is not empty, and does not begin with `^`
name_front : (t : Text) (kind : AsciiKind) → ascii_named t ≡ Some kind → (tail : Text) → (c : ℕ) × (rest : Text) × (t ++ tail ≡ c ∷ rest) × (eqb c 94 ≡ false)
name_front [] kind e tail = absurd cc
name_front (c ∷ t) kind e tail = (c, t ++ tail, refl, apart (λ k. ascii_named (k ∷ t)) c 94 kind e refl)

-- the text after a bracket makes it the front of a class
record ClassAt (token : BracketToken) (text rest : Text) : Type 0 where
  name : Text
  kind : AsciiKind
  negated : Bool
  is_class : IsClass name kind
  is_token : token ≡ tokens.Item (items.Ascii kind negated)
  is_text : text ≡ class_text name negated ++ rest

class_end_taken : (negated : Bool) (name rest : Text) → Lacks 58 name → IsTaken ClassAt (58 ∷ cond negated (94 ∷ []) [] ++ name ++ 58 ∷ rest) (class_end negated name rest)
unfolding class_end
class_end_taken negated name [] lacks = tt
class_end_taken negated name (c ∷ rest) lacks =
    pick ClassAt _ (eqb c 93) (option_map (λ kind. (tokens.Item (items.Ascii kind negated), rest)) (ascii_named name)) None
    (λ e. map_taken ClassAt _ (ascii_named name) (λ kind. (tokens.Item (items.Ascii kind negated), rest)) (λ kind is.
    record { name = name; kind = kind; negated = negated; is_class = (lacks, is); is_token = refl; is_text = ap (λ (x : Text). 58 ∷ x) (sym (joined_end negated name rest c e)) }))
    (λ _. tt)
  where
    joined_end : (negated : Bool) (name rest : Text) (c : ℕ) → eqb c 93 ≡ true → (cond negated (94 ∷ []) [] ++ name ++ 58 ∷ 93 ∷ []) ++ rest ≡ cond negated (94 ∷ []) [] ++ name ++ 58 ∷ c ∷ rest
    joined_end negated name rest c e =
        append_assoc (cond negated (94 ∷ []) [] ++ name) (58 ∷ 93 ∷ []) rest ∙ ap (λ k. (cond negated (94 ∷ []) [] ++ name) ++ 58 ∷ k ∷ rest) (sym (eqb-true c 93 e))

name_end_taken : (negated : Bool) (t : Text) → IsTaken ClassAt (58 ∷ cond negated (94 ∷ []) [] ++ t) (name_end negated t)
unfolding name_end
name_end_taken negated t =
    bind_taken ClassAt _ (cut_at 58 t) (λ x. class_end negated x.0 x.1) _ (cut_found 58 t) (λ x h.
    subst (λ (y : Text). IsTaken ClassAt (58 ∷ y) (class_end negated x.0 x.1)) (append_assoc (cond negated (94 ∷ []) []) x.0 (58 ∷ x.1) ∙ ap (λ (y : Text). cond negated (94 ∷ []) [] ++ y) (sym h.1)) (class_end_taken negated x.0 x.1 h.0))

class_taken : (t : Text) → IsTaken ClassAt t (class_at t)
unfolding class_at colon_at
class_taken [] = tt
class_taken (c ∷ []) = pick_is ClassAt c 58 (λ x. x ∷ []) None None tt tt
class_taken (c ∷ d ∷ rest) =
    pick_is ClassAt c 58 (λ x. x ∷ d ∷ rest) (cond (eqb d 94) (name_end true rest) (name_end false (d ∷ rest))) None
    (pick_is ClassAt d 94 (λ x. 58 ∷ x ∷ rest) (name_end true rest) (name_end false (d ∷ rest)) (name_end_taken true rest) (name_end_taken false (d ∷ rest)))
    tt

-- a class is read as one
name_end_is : (negated : Bool) (name rest : Text) (kind : AsciiKind) → IsClass name kind → name_end negated (name ++ 58 ∷ 93 ∷ rest) ≡ Some (tokens.Item (items.Ascii kind negated), rest)
unfolding name_end class_end
name_end_is negated name rest kind is = rw (cut_there 58 name (93 ∷ rest) is.0, is.1) refl

colon_front : (t : Text) → class_at (58 ∷ t) ≡ colon_at t
unfolding class_at
colon_front t = refl

colon_not : (t : Text) → colon_at (94 ∷ t) ≡ name_end true t
unfolding colon_at
colon_not t = refl

colon_else : (t : Text) (c : ℕ) (rest : Text) → t ≡ c ∷ rest → eqb c 94 ≡ false → colon_at t ≡ name_end false t
unfolding colon_at
colon_else t c rest e other = rw e (cond-false (eqb c 94) (name_end true rest) (name_end false (c ∷ rest)) other)

pub class_is : (name : Text) (kind : AsciiKind) (negated : Bool) (rest : Text) → IsClass name kind → class_at (class_text name negated ++ rest) ≡ Some (tokens.Item (items.Ascii kind negated), rest)
class_is name kind true rest is =
    ap (λ (x : Text). class_at (58 ∷ 94 ∷ x)) (append_assoc name (58 ∷ 93 ∷ []) rest) ∙ colon_front (94 ∷ name ++ 58 ∷ 93 ∷ rest) ∙ colon_not (name ++ 58 ∷ 93 ∷ rest) ∙ name_end_is true name rest kind is
class_is name kind false rest is =
    let f = name_front name kind is.1 (58 ∷ 93 ∷ rest) in
    ap (λ (x : Text). class_at (58 ∷ x)) (append_assoc name (58 ∷ 93 ∷ []) rest) ∙ colon_front (name ++ 58 ∷ 93 ∷ rest) ∙ colon_else (name ++ 58 ∷ 93 ∷ rest) f.0 f.1 f.2 f.3 ∙ name_end_is false name rest kind is

no_class : (t : Text) → class_at t ≡ None → NoClass t
no_class t none name kind negated rest is e = let h = ap class_at e in let k = class_is name kind negated rest is in absurd cc

class_none : (t : Text) → NoClass t → class_at t ≡ None
class_none t none = from (class_at t) (class_taken t)
  where
    from : (o : Option (BracketToken × Text)) → IsTaken ClassAt t o → o ≡ None
    from None h = refl
    from (Some x) h = absurd (none h.name h.kind h.negated x.1 h.is_class h.is_text)

-- ---- tokens: each value that is read is written there

inner_taken : (t : Text) → BracketTakes (inner_at t).0 (91 ∷ t) (inner_at t).1
unfolding inner_at
inner_taken t = from (class_at t) refl (class_taken t)
  where
    from : (o : Option (BracketToken × Text)) → class_at t ≡ o → IsTaken ClassAt t o →
        let r : BracketToken × Text = unwrap_or o (tokens.Open (open_at t).0 (open_at t).1, (open_at t).2) in BracketTakes r.0 (91 ∷ t) r.1
    from None is h = opens (open_at t).0 (open_at t).1 t (open_at t).2 (no_class t is) (open_taken t)
    from (Some x) is h =
        subst (λ k. BracketTakes k (91 ∷ t) x.1) (sym h.is_token) (subst (λ (y : Text). BracketTakes (tokens.Item (items.Ascii h.kind h.negated)) (91 ∷ y) x.1) (sym h.is_text) (class h.name h.kind h.negated x.1 h.is_class))

-- an operator is its letter twice
operator_taken : (c : ℕ) (rest : Text) → begins_operator c rest ≡ true → BracketTakes (tokens.Operator (operator_of c)) (c ∷ rest) (drop 1 rest)
operator_taken c [] e = absurd cc
operator_taken c (d ∷ rest) e = from (eqb c d) refl e
  where
    letter : (op : SetOperator) → eqb c (operator_letter op) ≡ true → operator_of (operator_letter op) ≡ op → c ≡ d → BracketTakes (tokens.Operator (operator_of c)) (c ∷ d ∷ rest) rest
    letter op e same_op same =
        let is : c ≡ operator_letter op = eqb-true c (operator_letter op) e in
        subst (λ y. BracketTakes (tokens.Operator (operator_of c)) (c ∷ y ∷ rest) rest) same
        (subst (λ y. BracketTakes (tokens.Operator (operator_of y)) (y ∷ y ∷ rest) rest) (sym is)
        (subst (λ o. BracketTakes (tokens.Operator o) (operator_letter op ∷ operator_letter op ∷ rest) rest) (sym same_op) (operator op rest)))

    third : (b : Bool) → eqb c 126 ≡ b → c ≡ d → b ≡ true → BracketTakes (tokens.Operator (operator_of c)) (c ∷ d ∷ rest) rest
    third true is same h = letter SymmetricDifference is refl same
    third false is same h = absurd cc

    second : (b : Bool) → eqb c 45 ≡ b → c ≡ d → (b || eqb c 126) ≡ true → BracketTakes (tokens.Operator (operator_of c)) (c ∷ d ∷ rest) rest
    second true is same h = letter Difference is refl same
    second false is same h = third (eqb c 126) refl same h

    first : (b : Bool) → eqb c 38 ≡ b → c ≡ d → (b || (eqb c 45 || eqb c 126)) ≡ true → BracketTakes (tokens.Operator (operator_of c)) (c ∷ d ∷ rest) rest
    first true is same h = letter Intersection is refl same
    first false is same h = second (eqb c 45) refl same h

    from : (b : Bool) → eqb c d ≡ b → (b && (eqb c 38 || (eqb c 45 || eqb c 126))) ≡ true → BracketTakes (tokens.Operator (operator_of c)) (c ∷ d ∷ rest) rest
    from true is h = first (eqb c 38) refl (eqb-true c d is) h
    from false is h = absurd cc

pub bracket_token_taken : (t : Text) → IsTaken BracketTakes t (bracket_token_at t)
unfolding bracket_token_at
bracket_token_taken [] = tt
bracket_token_taken (c ∷ rest) =
    pick BracketTakes (c ∷ rest) (eqb c 93) (Some (tokens.Close, rest)) _
    (λ e. subst (λ k. BracketTakes tokens.Close (k ∷ rest) rest) (sym (eqb-true c 93 e)) (closes rest))
    (λ a. pick BracketTakes (c ∷ rest) (eqb c 91) (Some (inner_at rest)) _
    (λ e. subst (λ k. BracketTakes (inner_at rest).0 (k ∷ rest) (inner_at rest).1) (sym (eqb-true c 91 e)) (inner_taken rest))
    (λ b. pick BracketTakes (c ∷ rest) (begins_operator c rest) (Some (tokens.Operator (operator_of c), drop 1 rest)) (item_at (c ∷ rest))
    (λ e. operator_taken c rest e)
    (λ d. item_taken (c ∷ rest) (rw (b, a, d) refl))))

-- ---- tokens: each value that is written is read

plain_last : (c : ℕ) (rest : Text) → c ≢ 92 → last_at (c ∷ rest) ≡ Some (Character c, rest)
unfolding last_at
plain_last c rest ne = let e : eqb c 92 ≡ false = ne_eqb c 92 ne in rw e refl

escaped_last : (t : Text) → last_at (92 ∷ t) ≡ (escape_at t >>= (λ x. option_map (λ s. (s, x.1)) (symbol_of x.0)))
unfolding last_at
escaped_last t = refl

symbol_is : (s : Symbol) (text rest : Text) → Symbols s text rest → last_at text ≡ Some (s, rest)
symbol_is s text rest (plain c tail ne) = plain_last c tail ne
symbol_is s text rest (escaped c inner tail e) = escaped_last inner ∙ ap (λ (x : Option (Atom × Text)). x >>= (λ y. option_map (λ r. (r, y.1)) (symbol_of y.0))) (escape_is (atoms.Character c) inner tail e)
symbol_is s text rest (escaped_byte b inner tail e) = escaped_last inner ∙ ap (λ (x : Option (Atom × Text)). x >>= (λ y. option_map (λ r. (r, y.1)) (symbol_of y.0))) (escape_is (atoms.Byte b) inner tail e)

-- an item by its first symbol
plain_item : (c : ℕ) (rest : Text) → c ≢ 92 → item_at (c ∷ rest) ≡ range_at (Character c) rest
unfolding item_at
plain_item c rest ne = let e : eqb c 92 ≡ false = ne_eqb c 92 ne in rw e refl

escaped_front : (t : Text) → item_at (92 ∷ t) ≡ (escape_at t >>= (λ x. escape_item x.0 x.1))
unfolding item_at
escaped_front t = refl

character_item : (c : ℕ) (rest : Text) → escape_item (atoms.Character c) rest ≡ range_at (Character c) rest
unfolding escape_item
character_item c rest = refl

byte_item : (b : ℕ) (rest : Text) → escape_item (atoms.Byte b) rest ≡ range_at (Byte b) rest
unfolding escape_item
byte_item b rest = refl

perl_item : (kind : PerlKind) (negated : Bool) (rest : Text) → escape_item (atoms.Perl kind negated) rest ≡ lone_at (items.Perl kind negated) rest
unfolding escape_item
perl_item kind negated rest = refl

set_item : (set : Set) (negated : Bool) (rest : Text) → escape_item (atoms.Property set negated) rest ≡ lone_at (items.Property set negated) rest
unfolding escape_item
set_item set negated rest = refl

by_escape : (a : Atom) (text rest : Text) → Escapes a text rest → item_at (92 ∷ text) ≡ escape_item a rest
by_escape a text rest e = escaped_front text ∙ ap (λ (x : Option (Atom × Text)). x >>= (λ y. escape_item y.0 y.1)) (escape_is a text rest e)

item_is : (s : Symbol) (text rest : Text) → Symbols s text rest → item_at text ≡ range_at s rest
item_is s text rest (plain c tail ne) = plain_item c tail ne
item_is s text rest (escaped c inner tail e) = by_escape (atoms.Character c) inner tail e ∙ character_item c tail
item_is s text rest (escaped_byte b inner tail e) = by_escape (atoms.Byte b) inner tail e ∙ byte_item b tail

one_is : (s : Symbol) (rest : Text) → begins_range rest ≡ false → range_at s rest ≡ Some (tokens.Item (items.One s), rest)
unfolding range_at
one_is s rest e = rw e refl

range_is : (a b : Symbol) (after rest : Text) → begins_range (45 ∷ after) ≡ true → Symbols b after rest → code_of a ≤ code_of b → range_at a (45 ∷ after) ≡ Some (tokens.Item (items.Range a b), rest)
unfolding range_at range_token
range_is a b after rest e s le =
    let in_order : leb (code_of a) (code_of b) ≡ true = le-leb _ _ le in
    rw (e, symbol_is b after rest s, in_order) refl

lone_is : (item : BracketItem) (rest : Text) → begins_range rest ≡ false → lone_at item rest ≡ Some (tokens.Item item, rest)
unfolding lone_at
lone_is item rest e = rw e refl

-- text that begins an item is read as one
to_item : (t : Text) → begins_item t ≡ true → bracket_token_at t ≡ item_at t
unfolding bracket_token_at
to_item [] e = absurd cc
to_item (c ∷ rest) e = from (eqb c 91) (eqb c 93) (begins_operator c rest) refl refl refl e
  where
    from : (x y z : Bool) → eqb c 91 ≡ x → eqb c 93 ≡ y → begins_operator c rest ≡ z → not (x || (y || z)) ≡ true →
        cond (eqb c 93) (Some (tokens.Close, rest)) (cond (eqb c 91) (Some (inner_at rest)) (cond (begins_operator c rest) (Some (tokens.Operator (operator_of c), drop 1 rest)) (item_at (c ∷ rest)))) ≡ item_at (c ∷ rest)
    from true y z a b d h = absurd cc
    from false true z a b d h = absurd cc
    from false false true a b d h = absurd cc
    from false false false a b d h = rw (b, a, d) refl

operator_is : (op : SetOperator) (rest : Text) → bracket_token_at (operator_letter op ∷ operator_letter op ∷ rest) ≡ Some (tokens.Operator op, rest)
unfolding bracket_token_at
operator_is Intersection rest = refl
operator_is Difference rest = refl
operator_is SymmetricDifference rest = refl

inner_front : (t : Text) → bracket_token_at (91 ∷ t) ≡ Some (inner_at t)
unfolding bracket_token_at
inner_front t = refl

inner_class : (t : Text) (x : BracketToken × Text) → class_at t ≡ Some x → inner_at t ≡ x
unfolding inner_at
inner_class t x e = rw e refl

inner_open : (negated : Bool) (lead : Lead) (t rest : Text) → NoClass t → Opens negated lead t rest → inner_at t ≡ (tokens.Open negated lead, rest)
unfolding inner_at
inner_open negated lead t rest none o = rw (class_none t none) (ap (λ (x : Bool × Lead × Text). (tokens.Open x.0 x.1, x.2)) (open_is negated lead t rest o))

close_is : (rest : Text) → bracket_token_at (93 ∷ rest) ≡ Some (tokens.Close, rest)
unfolding bracket_token_at
close_is rest = refl

pub bracket_token_is : (t : BracketToken) (text rest : Text) → BracketTakes t text rest → bracket_token_at text ≡ Some (t, rest)
bracket_token_is t text rest (closes tail) = close_is tail
bracket_token_is t text rest (operator op tail) = operator_is op tail
bracket_token_is t text rest (class name kind negated tail is) =
    inner_front (class_text name negated ++ tail) ∙ ap Some (inner_class (class_text name negated ++ tail) (tokens.Item (items.Ascii kind negated), tail) (class_is name kind negated tail is))
bracket_token_is t text rest (opens negated lead inner tail none o) = inner_front inner ∙ ap Some (inner_open negated lead inner tail none o)
bracket_token_is t text rest (one s front tail item k e) = to_item front item ∙ item_is s front tail k ∙ one_is s tail e
bracket_token_is t text rest (range a b front after tail item k e l le) = to_item front item ∙ item_is a front (45 ∷ after) k ∙ range_is a b after tail e l le
bracket_token_is t text rest (perl kind negated inner tail k e) = to_item (92 ∷ inner) (begins_escape inner) ∙ by_escape (atoms.Perl kind negated) inner tail k ∙ perl_item kind negated tail ∙ lone_is (items.Perl kind negated) tail e
bracket_token_is t text rest (property_item set negated inner tail k e) = to_item (92 ∷ inner) (begins_escape inner) ∙ by_escape (atoms.Property set negated) inner tail k ∙ set_item set negated tail ∙ lone_is (items.Property set negated) tail e
