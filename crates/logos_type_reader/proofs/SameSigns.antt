-- Runs that begin with the same sign, and the results of the tests of the table for them.
use Rattle.std.proofs.Common.{◌≡◌, ℕ, ◌+◌, Bool, true, false, refl, sym, ap, ◌∙◌, arith}
use Rattle.logos_lexeme.specs.declared.lexeme.Span.{Span}
use Rattle.logos_lexeme.specs.declared.lexeme.Spacing.{Spacing}
use Rattle.logos_lexeme.specs.declared.lexeme.Spacing.TheVariants.{Alone, Joint}
use Rattle.logos_lexeme.specs.declared.lexeme.Delimiter.{Delimiter}
use Rattle.logos_lexeme.specs.declared.lexeme.Delimiter.TheVariants.{Parenthesis, Bracket, Brace}
use Rattle.logos_token.specs.Tokens.{Token, TokenList, identifier, punctuation, literal, doc, group, none, also, append, count_of}
use Rattle.logos_type_reader.specs.Table.{begins_colons, begins_mark, begins_arrow, begins_dots, begins_parenthesis, typing, continues}
use Rattle.logos_type_reader.specs.FaultStages.{Front, start, past, within, IsAt, at_start, past_token, in_group, SameSign, no_sign, same_name, same_mark, same_joint, same_literal, same_doc, same_group, front_of, EndsWith}
use Rattle.logos_type_reader.proofs.TableSteps.{one_token}

-- of each run that begins with the same sign
abbrev pub ForSame : TokenList → (TokenList → Type 0) → Type 0
ForSame none F = F none
ForSame (also (identifier text s) rest) F = (other : TokenList) → F (also (identifier text s) other)
ForSame (also (punctuation c p s) rest) F = (other : TokenList) → (p ≡ Joint → SameSign rest other) → F (also (punctuation c p s) other)
ForSame (also (literal text s) rest) F = (other : TokenList) → F (also (literal text s) other)
ForSame (also (doc text s) rest) F = (other : TokenList) → F (also (doc text s) other)
ForSame (also (group d s inside) rest) F = (t : Span) (others other : TokenList) → F (also (group d t others) other)

-- and where that is a name, the next sign is the same, too
abbrev pub ForSeen : TokenList → (TokenList → Type 0) → Type 0
ForSeen (also (identifier text s) rest) F = (other : TokenList) → SameSign rest other → F (also (identifier text s) other)
ForSeen run F = ForSame run F

pub for_same : (F : TokenList → Type 0) {run other : TokenList} → ForSame run F → SameSign run other → F other
for_same F k no_sign = k
for_same F k same_name = k _
for_same F k same_mark = k _ (λ e. cc)
for_same F k (same_joint h) = k _ (λ e. h)
for_same F k same_literal = k _
for_same F k same_doc = k _
for_same F k same_group = k _ _ _

pub same_self : (run : TokenList) → SameSign run run
same_self none = no_sign
same_self (also (identifier text s) rest) = same_name
same_self (also (punctuation c Alone s) rest) = same_mark
same_self (also (punctuation c Joint s) rest) = same_joint (same_self rest)
same_self (also (literal text s) rest) = same_literal
same_self (also (doc text s) rest) = same_doc
same_self (also (group d s inside) rest) = same_group

-- after the same token
pub same_after : (t : Token) {rest other : TokenList} → SameSign rest other → SameSign (also t rest) (also t other)
same_after (identifier text s) h = same_name
same_after (punctuation c Alone s) h = same_mark
same_after (punctuation c Joint s) h = same_joint h
same_after (literal text s) h = same_literal
same_after (doc text s) h = same_doc
same_after (group d s inside) h = same_group

pub same_append : (front : TokenList) {rest other : TokenList} → SameSign rest other → SameSign (append front rest) (append front other)
same_append none h = h
same_append (also t front) h = same_after t (same_append front h)

-- two runs with the same front begin with the same sign, where they do after it
pub same_at : {front : Front} {run other left others_left : TokenList} → IsAt front run left → IsAt front other others_left → SameSign left others_left → SameSign run other
same_at {front = start} at_start at_start h = h
same_at (past_token {token = t} a) (past_token b) h = same_after t (same_at a b h)
same_at (in_group a) (in_group b) h = same_group

-- whether the first token is a name
abbrev pub begins_name : TokenList → Bool
begins_name (also (identifier text s) rest) = true
begins_name run = false

-- after the first token
pub seen_after : (F : TokenList → Type 0) (t : Token) {rest other : TokenList} → ForSeen (also t rest) F → SameSign rest other → F (also t other)
seen_after F (identifier text s) k h = k _ h
seen_after F (punctuation c p s) k h = k _ (λ e. h)
seen_after F (literal text s) k h = k _
seen_after F (doc text s) k h = k _
seen_after F (group d s inside) k h = k s inside _

-- no name comes first
pub seen_unnamed : (F : TokenList → Type 0) (run : TokenList) {other : TokenList} → begins_name run ≡ false → ForSeen run F → SameSign run other → F other
seen_unnamed F none n k h = for_same F k h
seen_unnamed F (also (identifier text s) rest) n k h = cc
seen_unnamed F (also (punctuation c p s) rest) n k h = for_same F k h
seen_unnamed F (also (literal text s) rest) n k h = for_same F k h
seen_unnamed F (also (doc text s) rest) n k h = for_same F k h
seen_unnamed F (also (group d s inside) rest) n k h = for_same F k h

-- the tests of the table on runs that begin with the same sign
pub mark_same : (wanted : ℕ) {run other : TokenList} → SameSign run other → begins_mark wanted other ≡ begins_mark wanted run
mark_same wanted no_sign = refl
mark_same wanted same_name = refl
mark_same wanted same_mark = refl
mark_same wanted (same_joint h) = refl
mark_same wanted same_literal = refl
mark_same wanted same_doc = refl
mark_same wanted same_group = refl

second_colon : (c : ℕ) (s : Span) {rest other : TokenList} → SameSign rest other → begins_colons (also (punctuation c Joint s) other) ≡ begins_colons (also (punctuation c Joint s) rest)
second_colon c s no_sign = refl
second_colon c s same_name = refl
second_colon c s same_mark = refl
second_colon c s (same_joint h) = refl
second_colon c s same_literal = refl
second_colon c s same_doc = refl
second_colon c s same_group = refl

second_arrow : (c : ℕ) (s : Span) {rest other : TokenList} → SameSign rest other → begins_arrow (also (punctuation c Joint s) other) ≡ begins_arrow (also (punctuation c Joint s) rest)
second_arrow c s no_sign = refl
second_arrow c s same_name = refl
second_arrow c s same_mark = refl
second_arrow c s (same_joint h) = refl
second_arrow c s same_literal = refl
second_arrow c s same_doc = refl
second_arrow c s same_group = refl

third_dot : (c d : ℕ) (s t : Span) {rest other : TokenList} → SameSign rest other →
    begins_dots (also (punctuation c Joint s) (also (punctuation d Joint t) other)) ≡ begins_dots (also (punctuation c Joint s) (also (punctuation d Joint t) rest))
third_dot c d s t no_sign = refl
third_dot c d s t same_name = refl
third_dot c d s t same_mark = refl
third_dot c d s t (same_joint h) = refl
third_dot c d s t same_literal = refl
third_dot c d s t same_doc = refl
third_dot c d s t same_group = refl

second_dot : (c : ℕ) (s : Span) {rest other : TokenList} → SameSign rest other → begins_dots (also (punctuation c Joint s) other) ≡ begins_dots (also (punctuation c Joint s) rest)
second_dot c s no_sign = refl
second_dot c s same_name = refl
second_dot c s same_mark = refl
second_dot c s (same_joint {character = d} {span = t} h) = third_dot c d s t h
second_dot c s same_literal = refl
second_dot c s same_doc = refl
second_dot c s same_group = refl

pub colons_after : (c : ℕ) (p : Spacing) (s : Span) (rest other : TokenList) → (p ≡ Joint → SameSign rest other) → begins_colons (also (punctuation c p s) other) ≡ begins_colons (also (punctuation c p s) rest)
colons_after c Alone s rest other j = refl
colons_after c Joint s rest other j = second_colon c s (j refl)

pub arrow_after : (c : ℕ) (p : Spacing) (s : Span) (rest other : TokenList) → (p ≡ Joint → SameSign rest other) → begins_arrow (also (punctuation c p s) other) ≡ begins_arrow (also (punctuation c p s) rest)
arrow_after c Alone s rest other j = refl
arrow_after c Joint s rest other j = second_arrow c s (j refl)

pub dots_after : (c : ℕ) (p : Spacing) (s : Span) (rest other : TokenList) → (p ≡ Joint → SameSign rest other) → begins_dots (also (punctuation c p s) other) ≡ begins_dots (also (punctuation c p s) rest)
dots_after c Alone s rest other j = refl
dots_after c Joint s rest other j = second_dot c s (j refl)

pub colons_same : {run other : TokenList} → SameSign run other → begins_colons other ≡ begins_colons run
colons_same no_sign = refl
colons_same same_name = refl
colons_same same_mark = refl
colons_same (same_joint {character = c} {span = s} h) = second_colon c s h
colons_same same_literal = refl
colons_same same_doc = refl
colons_same same_group = refl

pub parenthesis_same : {run other : TokenList} → SameSign run other → begins_parenthesis other ≡ begins_parenthesis run
parenthesis_same no_sign = refl
parenthesis_same same_name = refl
parenthesis_same same_mark = refl
parenthesis_same (same_joint h) = refl
parenthesis_same same_literal = refl
parenthesis_same same_doc = refl
parenthesis_same (same_group {delimiter = Parenthesis}) = refl
parenthesis_same (same_group {delimiter = Bracket}) = refl
parenthesis_same (same_group {delimiter = Brace}) = refl

pub typing_same : {run other : TokenList} → SameSign run other → typing other ≡ typing run
typing_same h = rw (mark_same 58 h, colons_same h) refl

pub continues_same : {run other : TokenList} → SameSign run other → continues other ≡ continues run
continues_same h = rw (mark_same 60 h, colons_same h, parenthesis_same h) refl

-- the tokens before equal rests are equal
no_more : (t : Token) (front rest : TokenList) → rest ≡ also t (append front rest) → ⊥
no_more t front rest e = let h = ap count_of e in let k = counted front rest in omega (arith, h, k, one_token t)
  where
    counted : (front rest : TokenList) → count_of (append front rest) ≡ count_of front + count_of rest
    counted none rest = omega arith
    counted (also t front) rest = let k = counted front rest in omega (arith, k)

pub front_same : (front other rest : TokenList) → append front rest ≡ append other rest → front ≡ other
front_same none none rest e = refl
front_same none (also t other) rest e = absurd (no_more t other rest e)
front_same (also t front) none rest e = absurd (no_more t front rest (sym e))
front_same (also t front) (also u other) rest e =
    let h : t ≡ u = cc in let k : append front rest ≡ append other rest = cc in
    ap (λ (x : Token). also x front) h ∙ ap (λ (x : TokenList). also u x) (front_same front other rest k)

-- fronts
abbrev pub in_front : TokenList → Front → Front
in_front none front = front
in_front (also t rest) front = past t (in_front rest front)

pub at_after : (tokens : TokenList) {front : Front} {rest left : TokenList} → IsAt front rest left → IsAt (in_front tokens front) (append tokens rest) left
at_after none a = a
at_after (also t tokens) a = past_token (at_after tokens a)

-- a run with such a front
pub record Past (tokens : TokenList) (front : Front) (run left : TokenList) : Type 0 where
  pub rest : TokenList
  pub is : run ≡ append tokens rest
  pub at : IsAt front rest left

past_one : {t : Token} {tokens : TokenList} {front : Front} {run left : TokenList} → IsAt (past t (in_front tokens front)) run left → ((rest : TokenList) → IsAt (in_front tokens front) rest left → Past tokens front rest left) →
    Past (also t tokens) front run left
past_one {t = t} (past_token {rest = rest} a) k = let p = k rest a in record { rest = p.rest; is = ap (λ (x : TokenList). also t x) p.is; at = p.at }

pub past_of : (tokens : TokenList) {front : Front} {run left : TokenList} → IsAt (in_front tokens front) run left → Past tokens front run left
past_of none {run = run} a = record { rest = run; is = refl; at = a }
past_of (also t tokens) a = past_one a (λ rest b. past_of tokens b)

pub front_of_is : (tokens : TokenList) → front_of tokens ≡ in_front tokens start
front_of_is none = refl
front_of_is (also t tokens) = ap (λ (x : Front). past t x) (front_of_is tokens)

-- a front with more in front of it ends with the same tokens
pub ends_past : (t : Token) {front : Front} {span : Span} → EndsWith front span → EndsWith (past t front) span
ends_past t e = record { former = past t e.former; tokens = e.tokens; is = ap (λ (x : Front). past t x) e.is; spans = e.spans }

pub ends_within : (d : Delimiter) {front : Front} {span : Span} → EndsWith front span → EndsWith (within d front) span
ends_within d e = record { former = within d e.former; tokens = e.tokens; is = ap (λ (x : Front). within d x) e.is; spans = e.spans }

pub ends_after : (tokens : TokenList) {front : Front} {span : Span} → EndsWith front span → EndsWith (in_front tokens front) span
ends_after none e = e
ends_after (also t tokens) e = ends_past t (ends_after tokens e)

pub append_over : (front middle rest : TokenList) → append front (append middle rest) ≡ append (append front middle) rest
append_over none middle rest = refl
append_over (also t front) middle rest = ap (λ (x : TokenList). also t x) (append_over front middle rest)

pub append_none : (run : TokenList) → run ≡ append run none
append_none none = refl
append_none (also t rest) = ap (λ (x : TokenList). also t x) (append_none rest)

pub at_start_is : {run left : TokenList} → IsAt start run left → run ≡ left
at_start_is at_start = refl

-- the meaning of the first token of a front for a run
pub record FirstToken (t : Token) (front : Front) (run left : TokenList) : Type 0 where
  pub rest : TokenList
  pub is : run ≡ also t rest
  pub at : IsAt front rest left

pub past_first : {t : Token} {front : Front} {run left : TokenList} → IsAt (past t front) run left → FirstToken t front run left
past_first (past_token {rest = rest} a) = record { rest = rest; is = refl; at = a }

pub record FirstGroup (d : Delimiter) (front : Front) (run left : TokenList) : Type 0 where
  pub span : Span
  pub inside : TokenList
  pub rest : TokenList
  pub is : run ≡ also (group d span inside) rest
  pub at : IsAt front inside left

pub within_first : {d : Delimiter} {front : Front} {run left : TokenList} → IsAt (within d front) run left → FirstGroup d front run left
within_first (in_group {span = s} {inside = inside} {rest = rest} a) = record { span = s; inside = inside; rest = rest; is = refl; at = a }
