-- The rest of a run after its first item.
use Rattle.std.proofs.Common.{◌≡◌, ◌==◌, ◌<◌, ◌≤◌, ℕ, Bool, true, false, List, refl, sym, ap, ◌∙◌, arith, subst, codes}
use Rattle.std.specs.Str.{bytes_eq}
use Rattle.logos_lexeme.specs.declared.lexeme.Span.{Span}
use Rattle.logos_lexeme.specs.declared.lexeme.Spacing.{Spacing}
use Rattle.logos_lexeme.specs.declared.lexeme.Delimiter.TheVariants.{Parenthesis, Bracket, Brace}
use Rattle.logos_token.specs.Tokens.{Token, TokenList, identifier, punctuation, literal, doc, group, none, also, append, count_of, IsRestOf}
use Rattle.logos_token.proofs.reading.CountLemmas.{IsRestOf-self, token_count-positive}
use Rattle.logos_enum.specs.Attributes.{after_parenthesis, after_visibility}
use Rattle.logos_enum.specs.Marks.{hash, is_outer}
use Rattle.logos_enum.proofs.ExtentLemmas.{past, generics_rest}
use Rattle.logos_enum.proofs.RuleLemmas.{IsRestOf-join}
use Rattle.logos_rust_file.specs.Fronts.{KindValue, ends, is_enum, is_module, is_other, after_attributes, after_hash, ends_body, after_body, after_head, braced_in, module_in, kind_at, kind_of}

pub first_rest : (token : Token) (rest : TokenList) → IsRestOf (also token rest) rest
first_rest token rest = record { front = also token none; is = refl }

doc_rest : (text : List ℕ) (span : Span) (rest : TokenList) (outer : Bool) → is_outer text ≡ outer → IsRestOf rest (after_attributes rest) →
    IsRestOf (also (doc text span) rest) (after_attributes (also (doc text span) rest))
doc_rest text span rest true e r = rw e (past (doc text span) rest _ r)
doc_rest text span rest false e r = rw e (IsRestOf-self _)

hash_rest : (character : ℕ) (spacing : Spacing) (span : Span) (rest : TokenList) (is : Bool) → (character == hash) ≡ is →
    IsRestOf (also (punctuation character spacing span) rest) (after_hash (punctuation character spacing span) rest) →
    IsRestOf (also (punctuation character spacing span) rest) (after_attributes (also (punctuation character spacing span) rest))
hash_rest character spacing span rest true e r = rw e r
hash_rest character spacing span rest false e r = rw e (IsRestOf-self _)

mutual
  pub attributes_rest : (run : TokenList) → IsRestOf run (after_attributes run)
  attributes_rest none = IsRestOf-self none
  attributes_rest (also (identifier text span) rest) = IsRestOf-self _
  attributes_rest (also (literal text span) rest) = IsRestOf-self _
  attributes_rest (also (group delimiter span inside) rest) = IsRestOf-self _
  attributes_rest (also (doc text span) rest) = doc_rest text span rest (is_outer text) refl (attributes_rest rest)
  attributes_rest (also (punctuation character spacing span) rest) =
      hash_rest character spacing span rest (character == hash) refl (brackets_rest (punctuation character spacing span) rest)

  brackets_rest : (sign : Token) (rest : TokenList) → IsRestOf (also sign rest) (after_hash sign rest)
  brackets_rest sign none = IsRestOf-self _
  brackets_rest sign (also (identifier text span) rest) = IsRestOf-self _
  brackets_rest sign (also (literal text span) rest) = IsRestOf-self _
  brackets_rest sign (also (doc text span) rest) = IsRestOf-self _
  brackets_rest sign (also (punctuation character spacing span) rest) = IsRestOf-self _
  brackets_rest sign (also (group Parenthesis span inside) rest) = IsRestOf-self _
  brackets_rest sign (also (group Brace span inside) rest) = IsRestOf-self _
  brackets_rest sign (also (group Bracket span inside) rest) = past sign _ _ (past (group Bracket span inside) rest _ (attributes_rest rest))

parenthesis_rest : (run : TokenList) → IsRestOf run (after_parenthesis run)
parenthesis_rest none = IsRestOf-self none
parenthesis_rest (also (identifier text span) rest) = IsRestOf-self _
parenthesis_rest (also (literal text span) rest) = IsRestOf-self _
parenthesis_rest (also (doc text span) rest) = IsRestOf-self _
parenthesis_rest (also (punctuation character spacing span) rest) = IsRestOf-self _
parenthesis_rest (also (group Bracket span inside) rest) = IsRestOf-self _
parenthesis_rest (also (group Brace span inside) rest) = IsRestOf-self _
parenthesis_rest (also (group Parenthesis span inside) rest) = first_rest _ rest

visibility_rest : (run : TokenList) → IsRestOf run (after_visibility run)
visibility_rest none = IsRestOf-self none
visibility_rest (also (literal text span) rest) = IsRestOf-self _
visibility_rest (also (doc text span) rest) = IsRestOf-self _
visibility_rest (also (punctuation character spacing span) rest) = IsRestOf-self _
visibility_rest (also (group delimiter span inside) rest) = IsRestOf-self _
visibility_rest (also (identifier text span) rest) = go (bytes_eq text (codes "pub")) refl
  where
    go : (is : Bool) → bytes_eq text (codes "pub") ≡ is → IsRestOf (also (identifier text span) rest) (after_visibility (also (identifier text span) rest))
    go true e = rw e (past (identifier text span) rest _ (parenthesis_rest rest))
    go false e = rw e (IsRestOf-self _)

body_step : (token : Token) (rest : TokenList) → IsRestOf rest (after_body rest) → (is : Bool) → ends_body token ≡ is → IsRestOf (also token rest) (after_body (also token rest))
body_step token rest r true e = rw e (first_rest token rest)
body_step token rest r false e = rw e (past token rest _ r)

pub body_rest : (run : TokenList) → IsRestOf run (after_body run)
body_rest none = IsRestOf-self none
body_rest (also token rest) = body_step token rest (body_rest rest) (ends_body token) refl

-- the rest after the name and the generic parameters of an enum
head_rest : (run : TokenList) → IsRestOf run (after_head run)
head_rest none = IsRestOf-self none
head_rest (also (identifier text span) rest) = past _ rest _ (generics_rest rest)
head_rest (also (literal text span) rest) = IsRestOf-self _
head_rest (also (doc text span) rest) = IsRestOf-self _
head_rest (also (punctuation character spacing span) rest) = IsRestOf-self _
head_rest (also (group delimiter span inside) rest) = IsRestOf-self _

enum_body_rest : (run : TokenList) → IsRestOf run (after_body (after_head run))
enum_body_rest run = IsRestOf-join _ _ _ (head_rest run) (body_rest (after_head run))

-- the kinds of an item
pub data Shape : TokenList → KindValue → Type 0 where
  nothing : Shape none ends
  an_enum : {text : List ℕ} {span : Span} {more rest : TokenList} → rest ≡ after_body (after_head more) → Shape (also (identifier text span) more) (is_enum rest)
  a_module : {text name : List ℕ} {span at whole : Span} {inside more : TokenList} → Shape (also (identifier text span) (also (identifier name at) (also (group Brace whole inside) more))) (is_module inside more)
  another : {token : Token} {more : TokenList} → Shape (also token more) (is_other more)

braced_shape : (text name : List ℕ) (span at : Span) (run : TokenList) → Shape (also (identifier text span) (also (identifier name at) run)) (braced_in (also (identifier name at) run) run)
braced_shape text name span at none = another
braced_shape text name span at (also (identifier other there) rest) = another
braced_shape text name span at (also (literal other there) rest) = another
braced_shape text name span at (also (doc other there) rest) = another
braced_shape text name span at (also (punctuation character spacing there) rest) = another
braced_shape text name span at (also (group Parenthesis there inside) rest) = another
braced_shape text name span at (also (group Bracket there inside) rest) = another
braced_shape text name span at (also (group Brace there inside) rest) = a_module

module_shape : (text : List ℕ) (span : Span) (run : TokenList) → Shape (also (identifier text span) run) (module_in run)
module_shape text span none = another
module_shape text span (also (identifier name at) rest) = braced_shape text name span at rest
module_shape text span (also (literal other there) rest) = another
module_shape text span (also (doc other there) rest) = another
module_shape text span (also (punctuation character spacing there) rest) = another
module_shape text span (also (group delimiter there inside) rest) = another

shape_at : (run : TokenList) → Shape run (kind_at run)
shape_at none = nothing
shape_at (also (literal text span) rest) = another
shape_at (also (doc text span) rest) = another
shape_at (also (punctuation character spacing span) rest) = another
shape_at (also (group delimiter span inside) rest) = another
shape_at (also (identifier text span) rest) = go (bytes_eq text (codes "enum")) refl (bytes_eq text (codes "mod")) refl
  where
    go : (one : Bool) → bytes_eq text (codes "enum") ≡ one → (other : Bool) → bytes_eq text (codes "mod") ≡ other → Shape (also (identifier text span) rest) (kind_at (also (identifier text span) rest))
    go true e other f = rw e (an_enum refl)
    go false e true f = rw (e, f) (module_shape text span rest)
    go false e false f = rw (e, f) another

-- the rest of a run after the attributes and the visibility of an item has this shape
pub record Item (run : TokenList) (kind : KindValue) : Type 0 where
  pub at : TokenList
  pub front : IsRestOf run at
  pub shape : Shape at kind

pub item_of : (run : TokenList) (kind : KindValue) → kind ≡ kind_of run → Item run kind
item_of run kind e = record {
  at = after_visibility (after_attributes run);
  front = IsRestOf-join _ _ _ (attributes_rest run) (visibility_rest (after_attributes run));
  shape = subst (Shape (after_visibility (after_attributes run))) (sym e) (shape_at (after_visibility (after_attributes run)));
}

-- the tokens of an enum, of which there is one at least
pub record EnumFront (run rest : TokenList) : Type 0 where
  pub token : Token
  pub tail : TokenList
  pub is : run ≡ append (also token tail) rest

append_assoc : (a b c : TokenList) → append (append a b) c ≡ append a (append b c)
append_assoc none b c = refl
append_assoc (also token a) b c = ap (also token) (append_assoc a b c)

begun : (front : TokenList) (token : Token) (back run rest : TokenList) → run ≡ append front (also token (append back rest)) → EnumFront run rest
begun none token back run rest e = record { token = token; tail = back; is = e }
begun (also first front) token back run rest e = record { token = first; tail = append front (also token back); is = e ∙ ap (also first) (sym (append_assoc front (also token back) rest)) }

shaped_front : (run at rest : TokenList) → IsRestOf run at → Shape at (is_enum rest) → EnumFront run rest
shaped_front run _ rest r (an_enum {text} {span} {more} e) =
    let b = enum_body_rest more in
    begun r.front (identifier text span) b.front run rest (r.is ∙ ap (λ m. append r.front (also (identifier text span) m)) (b.is ∙ ap (append b.front) (sym e)))

pub enum_front : (run rest : TokenList) → is_enum rest ≡ kind_of run → EnumFront run rest
enum_front run rest e = let item = item_of run (is_enum rest) e in shaped_front run item.at rest item.front item.shape

-- the tokens after an enum
abbrev pub enum_rest : (run rest : TokenList) → is_enum rest ≡ kind_of run → IsRestOf run rest
enum_rest run rest e = record { front = also (enum_front run rest e).token (enum_front run rest e).tail; is = (enum_front run rest e).is }

-- counts
append_count : (front rest : TokenList) → count_of rest ≤ count_of (append front rest)
append_count none rest = omega arith
append_count (also token front) rest = omega (arith, append_count front rest)

pub rest_count : (run rest : TokenList) → IsRestOf run rest → count_of rest ≤ count_of run
rest_count run rest r = rw r.is (append_count r.front rest)

pub enum_count : (run rest : TokenList) → EnumFront run rest → count_of rest < count_of run
enum_count run rest f = rw f.is (omega (arith, append_count f.tail rest, token_count-positive f.token))

shaped_other : (at rest : TokenList) (n : ℕ) → Shape at (is_other rest) → count_of at ≤ n → count_of rest < n
shaped_other _ rest n (another {token}) l = omega (arith, l, token_count-positive token)

pub other_count : (run rest : TokenList) → is_other rest ≡ kind_of run → count_of rest < count_of run
other_count run rest e = let item = item_of run (is_other rest) e in shaped_other item.at rest (count_of run) item.shape (rest_count run item.at item.front)

shaped_module : (at inside rest : TokenList) (n : ℕ) → Shape at (is_module inside rest) → count_of at ≤ n → (count_of inside < n) × (count_of rest < n)
shaped_module _ inside rest n (a_module) l = (omega (arith, l), omega (arith, l))

pub module_count : (run inside rest : TokenList) → is_module inside rest ≡ kind_of run → (count_of inside < count_of run) × (count_of rest < count_of run)
module_count run inside rest e =
    let item = item_of run (is_module inside rest) e in
    shaped_module item.at inside rest (count_of run) item.shape (rest_count run item.at item.front)
