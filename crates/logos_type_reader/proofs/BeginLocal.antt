-- The beginning of a type depends only on the tokens that it takes and on the next sign.
use Rattle.std.proofs.Common.{◌≡◌, ℕ, ◌==◌, List, Bool, true, false, bytes_eq, codes, if◌then◌else◌, Some, None, refl, subst}
use Rattle.logos_lexeme.specs.declared.lexeme.Span.{Span}
use Rattle.logos_lexeme.specs.declared.lexeme.Spacing.{Spacing}
use Rattle.logos_lexeme.specs.declared.lexeme.Spacing.TheVariants.{Joint}
use Rattle.logos_lexeme.specs.declared.lexeme.Delimiter.{Delimiter}
use Rattle.logos_lexeme.specs.declared.lexeme.Delimiter.TheVariants.{Parenthesis, Bracket, Brace}
use Rattle.logos_token.specs.Tokens.{Token, TokenList, identifier, punctuation, literal, doc, group, none, also, append}
use Rattle.logos_type.specs.Parts.{Sign, colons, reference}
use Rattle.logos_type_reader.specs.declared.table.stage.PathKind.TheVariants.{Plain}
use Rattle.logos_type_reader.specs.declared.table.stage.Stage.TheVariants as stage
use Rattle.logos_type_reader.specs.declared.table.stage.Stage.{Stage}
use Rattle.logos_type_reader.specs.Table as table
use Rattle.logos_type_reader.specs.Table.{Spot, First, starts, refused, Fault, unsupported, mismatch, to, begin, name_of, begins_colons, first_span}
use Rattle.logos_type_reader.specs.FaultStages.{start, past, SameSign, EndsWith, OccursAt, fault_at}
use Rattle.logos_type_reader.proofs.SameSigns.{ForSame, ForSeen, for_same, colons_after, mark_same, continues_same, begins_name, in_front}

-- the beginning of a type: tokens, or a group
pub data Begun (plus : Bool) (run : TokenList) (barred : Bool) (s : Sign) (spot : Spot) : Type 0 where
  by_tokens : (t : Token) (front : TokenList) → run ≡ also t (append front spot.run) → spot.outside ≡ None →
      ((rest : TokenList) → SameSign spot.run rest → begin plus (also t (append front rest)) ≡ starts barred s (to spot.stage rest None)) → Begun plus run barred s spot
  by_group : (d : Delimiter) (g : Span) (rest : TokenList) → run ≡ also (group d g spot.run) rest → spot.outside ≡ Some rest →
      ((t : Span) (inside other : TokenList) → begin plus (also (group d t inside) other) ≡ starts barred s (to spot.stage inside (Some other))) → Begun plus run barred s spot

-- the reason why none begins: the first token, which is no name, or a token after others
pub data Refuses (plus : Bool) (run : TokenList) (fault : Fault) : Type 0 where
  at_once : begins_name run ≡ false → fault ≡ mismatch (first_span run) → ((l : TokenList) → SameSign run l → begin plus l ≡ refused (mismatch (first_span l))) → Refuses plus run fault
  after_some : (t : Token) (front left : TokenList) → run ≡ also t (append front left) → OccursAt fault (past t (in_front front start)) left →
      ((l : TokenList) → SameSign left l → begin plus (also t (append front l)) ≡ refused (fault_at fault l)) → Refuses plus run fault

abbrev pub FirstLocal : Bool → TokenList → First → Type 0
FirstLocal plus run (starts barred s spot) = Begun plus run barred s spot
FirstLocal plus run (refused fault) = Refuses plus run fault

either_first : (F : First → Type 0) (b : Bool) (m n : First) → (b ≡ true → F m) → (b ≡ false → F n) → F (if b then m else n)
either_first F true m n f g = f refl
either_first F false m n f g = g refl

-- it begins with one token, whatever comes next
one_token : (plus : Bool) (t : Token) (rest : TokenList) (b : Bool) (s : Sign) (p : Stage) → ((x : TokenList) → SameSign rest x → begin plus (also t x) ≡ starts b s (to p x None)) → Begun plus (also t rest) b s (to p rest None)
one_token plus t rest b s p k = by_tokens t none refl refl k

-- the first token is a type that is not supported
left_out_alone : (plus : Bool) (t : Token) (rest : TokenList) (span : Span) → EndsWith (past t start) span → ((x : TokenList) → begin plus (also t x) ≡ refused (unsupported span)) → Refuses plus (also t rest) (unsupported span)
left_out_alone plus t rest span e k = after_some t none rest refl e (λ x h. k x)

refused_here : (plus : Bool) (run : TokenList) → begins_name run ≡ false → ForSame run (λ (x : TokenList). begin plus x ≡ refused (mismatch (first_span x))) → Refuses plus run (mismatch (first_span run))
refused_here plus run n k = at_once n refl (λ l h. for_same (λ (x : TokenList). begin plus x ≡ refused (mismatch (first_span x))) k h)

refused_third : (plus : Bool) (t u : Token) (run : TokenList) → ForSame run (λ (x : TokenList). begin plus (also t (also u x)) ≡ refused (mismatch (first_span x))) → Refuses plus (also t (also u run)) (mismatch (first_span run))
refused_third plus t u run k = after_some t (also u none) run refl refl (λ l h. for_same (λ (x : TokenList). begin plus (also t (also u x)) ≡ refused (mismatch (first_span x))) k h)

lifetime_local : (plus : Bool) (c d : ℕ) (p q : Spacing) (s t : Span) (run : TokenList) → (c == 38) ≡ true → (d == 39) ≡ true →
    FirstLocal plus (also (punctuation c p s) (also (punctuation d q t) run)) (table.reference_lifetime_first run)
unfolding begin
lifetime_local plus c d p q s t (also (identifier text u) rest) e f = by_tokens (punctuation c p s) (also (punctuation d q t) (also (identifier text u) none)) refl refl (λ x h. rw (e, f) refl)
lifetime_local plus c d p q s t (also (punctuation g o u) rest) e f = refused_third plus (punctuation c p s) (punctuation d q t) _ (λ x j. rw (e, f) refl)
lifetime_local plus c d p q s t (also (literal text u) rest) e f = refused_third plus (punctuation c p s) (punctuation d q t) _ (λ x. rw (e, f) refl)
lifetime_local plus c d p q s t (also (doc text u) rest) e f = refused_third plus (punctuation c p s) (punctuation d q t) _ (λ x. rw (e, f) refl)
lifetime_local plus c d p q s t (also (group g u inside) rest) e f = refused_third plus (punctuation c p s) (punctuation d q t) _ (λ v i x. rw (e, f) refl)
lifetime_local plus c d p q s t none e f = refused_third plus (punctuation c p s) (punctuation d q t) none (rw (e, f) refl)

shared_local : (plus : Bool) (t : Token) (rest : TokenList) → ForSame rest (λ (x : TokenList). begin plus (also t x) ≡ starts false (reference None) (to stage.Referent x None)) →
    Begun plus (also t rest) false (reference None) (to stage.Referent rest None)
shared_local plus t rest k = one_token plus t rest false (reference None) stage.Referent (λ x h. for_same (λ (y : TokenList). begin plus (also t y) ≡ starts false (reference None) (to stage.Referent y None)) k h)

reference_local : (plus : Bool) (c : ℕ) (p : Spacing) (s : Span) (rest : TokenList) → (c == 38) ≡ true → FirstLocal plus (also (punctuation c p s) rest) (table.reference_first rest)
unfolding begin
reference_local plus c p s (also (punctuation d q t) rest) e = either_first (FirstLocal plus (also (punctuation c p s) (also (punctuation d q t) rest))) (d == 39) _ _
    (λ f. lifetime_local plus c d p q s t rest e f)
    (λ n. shared_local plus (punctuation c p s) (also (punctuation d q t) rest) (λ x j. rw (e, n) refl))
reference_local plus c p s (also (identifier text t) rest) e = shared_local plus (punctuation c p s) _ (λ x. rw e refl)
reference_local plus c p s (also (literal text t) rest) e = shared_local plus (punctuation c p s) _ (λ x. rw e refl)
reference_local plus c p s (also (doc text t) rest) e = shared_local plus (punctuation c p s) _ (λ x. rw e refl)
reference_local plus c p s (also (group d t inside) rest) e = shared_local plus (punctuation c p s) _ (λ u i x. rw e refl)
reference_local plus c p s none e = shared_local plus (punctuation c p s) none (rw e refl)

colons_local : (plus : Bool) (c : ℕ) (p : Spacing) (s : Span) (rest : TokenList) → (c == 38) ≡ false → (c == 42) ≡ false → (c == 60) ≡ false → (c == 33) ≡ false → begins_colons (also (punctuation c p s) rest) ≡ true →
    FirstLocal plus (also (punctuation c p s) rest) (starts false colons (to (stage.Colons Plain false) (table.after_two (also (punctuation c p s) rest)) None))
unfolding begin
colons_local plus c Joint s (also (punctuation d o t) rest) k l m n e = by_tokens (punctuation c Joint s) (also (punctuation d o t) none) refl refl (λ x h. rw (k, l, m, n, e) refl)
colons_local plus c p s rest k l m n e = cc

mark_local : (plus : Bool) (c : ℕ) (p : Spacing) (s : Span) (rest : TokenList) → FirstLocal plus (also (punctuation c p s) rest) (table.mark_first c s (also (punctuation c p s) rest) rest)
unfolding begin
mark_local plus c p s rest = either_first (FirstLocal plus (also (punctuation c p s) rest)) (c == 38) _ _ (λ e. reference_local plus c p s rest e)
    (λ k. either_first (FirstLocal plus (also (punctuation c p s) rest)) (c == 42) _ _ (λ e. by_tokens (punctuation c p s) none refl refl (λ x h. rw (k, e) refl))
    (λ l. either_first (FirstLocal plus (also (punctuation c p s) rest)) (c == 60) _ _ (λ e. by_tokens (punctuation c p s) none refl refl (λ x h. rw (k, l, e) refl))
    (λ m. either_first (FirstLocal plus (also (punctuation c p s) rest)) (c == 33) _ _
    (λ e. left_out_alone plus (punctuation c p s) rest s (record { former = start; tokens = also (punctuation c p s) none; is = refl; spans = refl }) (λ x. rw (k, l, m, e) refl))
    (λ n. either_first (FirstLocal plus (also (punctuation c p s) rest)) (begins_colons (also (punctuation c p s) rest)) _ _ (λ e. colons_local plus c p s rest k l m n e)
    (λ o. refused_here plus (also (punctuation c p s) rest) refl (λ x j. rw (k, l, m, n, colons_after c p s rest x j, o) refl))))))

firsts_local : (plus : Bool) (run : TokenList) → FirstLocal plus run (begin plus run)
unfolding begin
firsts_local plus (also (identifier text s) rest) = either_first (FirstLocal plus (also (identifier text s) rest)) (bytes_eq text (codes "_")) _ _
    (λ e. left_out_alone plus (identifier text s) rest s (record { former = start; tokens = also (identifier text s) none; is = refl; spans = refl }) (λ x. rw e refl))
    (λ n. by_tokens (identifier text s) none refl refl (λ x h. rw n refl))
firsts_local plus (also (group Parenthesis s inside) rest) = by_group Parenthesis s rest refl refl (λ t i x. refl)
firsts_local plus (also (group Bracket s inside) rest) = by_group Bracket s rest refl refl (λ t i x. refl)
firsts_local plus (also (group Brace s inside) rest) = refused_here plus (also (group Brace s inside) rest) refl (λ t i x. refl)
firsts_local plus (also (punctuation c p s) rest) = mark_local plus c p s rest
firsts_local plus (also (literal text s) rest) = refused_here plus (also (literal text s) rest) refl (λ x. refl)
firsts_local plus (also (doc text s) rest) = refused_here plus (also (doc text s) rest) refl (λ x. refl)
firsts_local plus none = refused_here plus none refl refl

pub begin_local : (plus : Bool) (run : TokenList) {f : First} → begin plus run ≡ f → FirstLocal plus run f
begin_local plus run e = subst (FirstLocal plus run) e (firsts_local plus run)

-- a type that is exactly a name
pub record NameLocal (run : TokenList) (text : List ℕ) : Type 0 where
  pub first : Token
  pub rest : TokenList
  pub is : run ≡ also first rest
  pub same : (other : TokenList) → SameSign rest other → name_of (also first other) ≡ Some text

pub name_local : (run : TokenList) (text : List ℕ) → name_of run ≡ Some text → NameLocal run text
name_local (also (identifier x s) rest) text e = record { first = identifier x s; rest = rest; is = refl; same = λ other h. rw (continues_same h, mark_same 33 h) e }
name_local (also (punctuation c p s) rest) text e = cc
name_local (also (literal x s) rest) text e = cc
name_local (also (doc x s) rest) text e = cc
name_local (also (group d s inside) rest) text e = cc
name_local none text e = cc

-- and one that is more
pub unnamed_local : (run : TokenList) → name_of run ≡ None → ForSeen run (λ (x : TokenList). name_of x ≡ None)
unnamed_local (also (identifier x s) rest) e = λ other h. rw (continues_same h, mark_same 33 h) e
unnamed_local (also (punctuation c p s) rest) e = λ x j. refl
unnamed_local (also (literal x s) rest) e = λ x. refl
unnamed_local (also (doc x s) rest) e = λ x. refl
unnamed_local (also (group d s inside) rest) e = λ t i x. refl
unnamed_local none e = refl
