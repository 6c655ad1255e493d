-- Each move of the table depends only on the tokens that it takes and on the next sign.
use Rattle.std.proofs.Common.{◌≡◌, ℕ, ◌==◌, ◌&&◌, ◌||◌, Bool, true, false, bytes_eq, codes, if◌then◌else◌, Option, Some, None, refl, ◌∙◌}
use Rattle.logos_lexeme.specs.declared.lexeme.Span.{Span}
use Rattle.logos_lexeme.specs.declared.lexeme.Spacing.{Spacing}
use Rattle.logos_lexeme.specs.declared.lexeme.Spacing.TheVariants.{Joint}
use Rattle.logos_lexeme.specs.declared.lexeme.Delimiter.{Delimiter}
use Rattle.logos_lexeme.specs.declared.lexeme.Delimiter.TheVariants.{Parenthesis, Bracket, Brace}
use Rattle.logos_token.specs.Tokens.{Token, TokenList, identifier, punctuation, literal, doc, group, none, also, append}
use Rattle.logos_type.specs.Parts.{word, mark, colons, arrow, value, opening, other_lifetime}
use Rattle.logos_type_reader.specs.declared.table.stage.PathKind.{PathKind}
use Rattle.logos_type_reader.specs.declared.table.stage.PathKind.TheVariants.{Plain, OfType, OfBound}
use Rattle.logos_type_reader.specs.declared.table.stage.BoundKind.{BoundKind}
use Rattle.logos_type_reader.specs.declared.table.stage.BoundKind.TheVariants.{Listed, Enclosed}
use Rattle.logos_type_reader.specs.declared.table.stage.Binder.{Binder}
use Rattle.logos_type_reader.specs.declared.table.stage.Binder.TheVariants.{OfTrait}
use Rattle.logos_type_reader.specs.declared.table.stage.Stage.{Stage}
use Rattle.logos_type_reader.specs.declared.table.stage.Stage.TheVariants as stage
use Rattle.logos_type_reader.specs.Table as table
use Rattle.logos_type_reader.specs.Table.{Spot, Move, ends, takes, bars, needs, keeps_type, keeps, nests, stops, First, starts, refused, Fault, unsupported, mismatch, to, opens, closes, next_at, begin, name_of, begins_colons, begins_mark, begins_arrow, begins_dots, typing, after_two, after_three, first_span, argued, argument_lifetime, after_bound, after_for}
use Rattle.logos_type_reader.specs.FaultStages.{SameSign}
use Rattle.logos_type_reader.proofs.SameSigns.{ForSame, ForSeen, for_same, colons_after, arrow_after, dots_after, mark_same, typing_same}

-- a group is open in both, or in none
abbrev pub SameOpen : Option TokenList → Option TokenList → Type 0
SameOpen None None = Unit {0}
SameOpen (Some a) (Some b) = Unit {0}
SameOpen a b = ⊥

-- The path from a run to a spot: over tokens, into a group, or out of one. The property then holds
-- for all runs with these tokens in front.
pub data Passes (Q : TokenList → Option TokenList → Spot → Type 0) (run : TokenList) (b : Option TokenList) (spot : Spot) : Type 0 where
  over : (front : TokenList) → run ≡ append front spot.run → b ≡ spot.outside →
      ((rest : TokenList) (c : Option TokenList) → SameOpen b c → SameSign spot.run rest → Q (append front rest) c (to spot.stage rest c)) → Passes Q run b spot
  into : (d : Delimiter) (s : Span) (rest : TokenList) → run ≡ also (group d s spot.run) rest → b ≡ None → spot.outside ≡ Some rest →
      ((t : Span) (inside other : TokenList) → Q (also (group d t inside) other) None (to spot.stage inside (Some other))) → Passes Q run b spot
  out : b ≡ Some spot.run → spot.outside ≡ None → ((other : TokenList) → Q run (Some other) (to spot.stage other None)) → Passes Q run b spot

abbrev pub Moving : Type 0
Moving = TokenList → Option TokenList → Move

-- it stops at a spot of the run, and so of each run with the same tokens in front and the same
-- sign there
abbrev pub Stops : Moving → TokenList → Option TokenList → Fault → Type 0
Stops M run b f = (front : TokenList) × (left : TokenList) × (run ≡ append front left) × (f ≡ mismatch (first_span left))
    × ((l : TokenList) (c : Option TokenList) → SameOpen b c → SameSign left l → M (append front l) c ≡ stops (mismatch (first_span l)))

-- the condition of a move
abbrev pub Local : Moving → TokenList → Option TokenList → Move → Type 0
Local M run b ends = ForSame run (λ (x : TokenList). (c : Option TokenList) → SameOpen b c → M x c ≡ ends)
Local M run b (takes s spot) = Passes (λ x c z. M x c ≡ takes s z) run b spot
Local M run b (bars s spot) = Passes (λ x c z. M x c ≡ bars s z) run b spot
Local M run b (needs plus p) = ForSeen run (λ (x : TokenList). (c : Option TokenList) → SameOpen b c → M x c ≡ needs plus p)
Local M run b (keeps_type p) = (x : TokenList) (c : Option TokenList) → M x c ≡ keeps_type p
Local M run b (keeps other spot) = (other ≡ run) × (spot ≡ to spot.stage none b) × ((c : Option TokenList) → SameOpen b c → M run c ≡ keeps run (to spot.stage none c))
Local M run b (nests s inner p) = (front : TokenList) × (run ≡ append front inner.run) × (inner.outside ≡ None)
    × ((rest : TokenList) (c : Option TokenList) → SameOpen b c → SameSign inner.run rest → M (append front rest) c ≡ nests s (to inner.stage rest None) p)
Local M run b (stops f) = Stops M run b f

-- both branches
either : (F : Move → Type 0) (b : Bool) (m n : Move) → (b ≡ true → F m) → (b ≡ false → F n) → F (if b then m else n)
either F true m n f g = f refl
either F false m n f g = g refl

stop_here : (M : Moving) (run : TokenList) (b : Option TokenList) → ForSame run (λ (x : TokenList). (c : Option TokenList) → SameOpen b c → M x c ≡ stops (mismatch (first_span x))) → Stops M run b (mismatch (first_span run))
stop_here M run b k = (none, run, refl, refl, λ l c o h. for_same (λ (x : TokenList). (c : Option TokenList) → SameOpen b c → M x c ≡ stops (mismatch (first_span x))) k h c o)

stop_second : (M : Moving) (t : Token) (run : TokenList) (b : Option TokenList) → ForSame run (λ (x : TokenList). (c : Option TokenList) → SameOpen b c → M (also t x) c ≡ stops (mismatch (first_span x))) → Stops M (also t run) b (mismatch (first_span run))
stop_second M t run b k = (also t none, run, refl, refl, λ l c o h. for_same (λ (x : TokenList). (c : Option TokenList) → SameOpen b c → M (also t x) c ≡ stops (mismatch (first_span x))) k h c o)

take_one : (M : Moving) (K : Spot → Move) (t : Token) (rest : TokenList) (b : Option TokenList) (p : Stage) → ((other : TokenList) (c : Option TokenList) → SameOpen b c → SameSign rest other → M (also t other) c ≡ K (to p other c)) →
    Passes (λ x c z. M x c ≡ K z) (also t rest) b (to p rest b)
take_one M K t rest b p k = over (also t none) refl refl k

take_two : (M : Moving) (K : Spot → Move) (t u : Token) (rest : TokenList) (b : Option TokenList) (p : Stage) → ((other : TokenList) (c : Option TokenList) → SameOpen b c → SameSign rest other → M (also t (also u other)) c ≡ K (to p other c)) →
    Passes (λ x c z. M x c ≡ K z) (also t (also u rest)) b (to p rest b)
take_two M K t u rest b p k = over (also t (also u none)) refl refl k

take_colons : (M : Moving) (K : Spot → Move) (c : ℕ) (p : Spacing) (s : Span) (rest : TokenList) (b : Option TokenList) (q : Stage) → begins_colons (also (punctuation c p s) rest) ≡ true →
    ((t : Token) (other : TokenList) (d : Option TokenList) → SameOpen b d → begins_colons (also (punctuation c p s) (also t other)) ≡ true → M (also (punctuation c p s) (also t other)) d ≡ K (to q other d)) →
    Passes (λ x d z. M x d ≡ K z) (also (punctuation c p s) rest) b (to q (after_two (also (punctuation c p s) rest)) b)
take_colons M K c Joint s (also (punctuation d o t) rest) b q e k = over (also (punctuation c Joint s) (also (punctuation d o t) none)) refl refl (λ x e' h g. k (punctuation d o t) x e' h e)
take_colons M K c p s rest b q e k = cc

nest_colons : (M : Moving) (c : ℕ) (p : Spacing) (s : Span) (rest : TokenList) (b : Option TokenList) (q next : Stage) → begins_colons (also (punctuation c p s) rest) ≡ true →
    ((t : Token) (other : TokenList) (d : Option TokenList) → SameOpen b d → begins_colons (also (punctuation c p s) (also t other)) ≡ true → M (also (punctuation c p s) (also t other)) d ≡ nests colons (to q other None) next) →
    Local M (also (punctuation c p s) rest) b (nests colons (to q (after_two (also (punctuation c p s) rest)) None) next)
nest_colons M c Joint s (also (punctuation d o t) rest) b q next e k = (also (punctuation c Joint s) (also (punctuation d o t) none), refl, refl, λ x e' h g. k (punctuation d o t) x e' h e)
nest_colons M c p s rest b q next e k = cc

take_arrow : (M : Moving) (K : Spot → Move) (c : ℕ) (p : Spacing) (s : Span) (rest : TokenList) (b : Option TokenList) (q : Stage) → begins_arrow (also (punctuation c p s) rest) ≡ true →
    ((t : Token) (other : TokenList) (d : Option TokenList) → SameOpen b d → begins_arrow (also (punctuation c p s) (also t other)) ≡ true → M (also (punctuation c p s) (also t other)) d ≡ K (to q other d)) →
    Passes (λ x d z. M x d ≡ K z) (also (punctuation c p s) rest) b (to q (after_two (also (punctuation c p s) rest)) b)
take_arrow M K c Joint s (also (punctuation d o t) rest) b q e k = over (also (punctuation c Joint s) (also (punctuation d o t) none)) refl refl (λ x e' h g. k (punctuation d o t) x e' h e)
take_arrow M K c p s rest b q e k = cc

take_dots : (M : Moving) (K : Spot → Move) (c : ℕ) (p : Spacing) (s : Span) (rest : TokenList) (b : Option TokenList) (q : Stage) → begins_dots (also (punctuation c p s) rest) ≡ true →
    ((t u : Token) (other : TokenList) (d : Option TokenList) → SameOpen b d → begins_dots (also (punctuation c p s) (also t (also u other))) ≡ true → M (also (punctuation c p s) (also t (also u other))) d ≡ K (to q other d)) →
    Passes (λ x d z. M x d ≡ K z) (also (punctuation c p s) rest) b (to q (after_three (also (punctuation c p s) rest)) b)
take_dots M K c Joint s (also (punctuation d Joint t) (also (punctuation f o u) rest)) b q e k =
    over (also (punctuation c Joint s) (also (punctuation d Joint t) (also (punctuation f o u) none))) refl refl (λ x e' h g. k (punctuation d Joint t) (punctuation f o u) x e' h e)
take_dots M K c p s rest b q e k = cc

none_open : (d : Delimiter) (t : Span) (next : Stage) (inside rest a : TokenList) (c : Option TokenList) → SameOpen (Some a) c → opens d t next inside rest c ≡ stops (mismatch t)
none_open d t next inside rest a (Some b) o = refl
none_open d t next inside rest a None o = absurd o

opened : (M : Moving) (d : Delimiter) (s : Span) (next : Stage) (inside rest : TokenList) (b : Option TokenList) → ((t : Span) (i x : TokenList) (c : Option TokenList) → M (also (group d t i) x) c ≡ opens d t next i x c) →
    Local M (also (group d s inside) rest) b (opens d s next inside rest b)
opened M d s next inside rest None e = into d s rest refl refl refl (λ t i x. e t i x None)
opened M d s next inside rest (Some a) e = stop_here M (also (group d s inside) rest) (Some a) (λ t i x c o. e t i x c ∙ none_open d t next i x a c o)

-- nothing is open
closed_ends : (d : Delimiter) (next : Stage) (c : Option TokenList) → SameOpen None c → closes d next c ≡ ends
closed_ends d next None o = refl
closed_ends d next (Some a) o = absurd o

closed : (M : Moving) (d : Delimiter) (next : Stage) (b : Option TokenList) → ((c : Option TokenList) → M none c ≡ closes d next c) → Local M none b (closes d next b)
closed M d next None e = λ c o. e c ∙ closed_ends d next c o
closed M d next (Some rest) e = out refl refl (λ x. e (Some x))

needs_any : (M : Moving) (run : TokenList) (b : Option TokenList) (plus : Bool) (p : Stage) → ((x : TokenList) (c : Option TokenList) → M x c ≡ needs plus p) → Local M run b (needs plus p)
needs_any M none b plus p e = λ d o. e _ d
needs_any M (also (identifier text s) rest) b plus p e = λ x h d o. e _ d
needs_any M (also (punctuation c j s) rest) b plus p e = λ x h d o. e _ d
needs_any M (also (literal text s) rest) b plus p e = λ x d o. e _ d
needs_any M (also (doc text s) rest) b plus p e = λ x d o. e _ d
needs_any M (also (group k s inside) rest) b plus p e = λ t i x d o. e _ d

ends_any : (M : Moving) (run : TokenList) (b : Option TokenList) → ((x : TokenList) (c : Option TokenList) → SameOpen b c → M x c ≡ ends) → Local M run b ends
ends_any M none b e = λ d o. e _ d o
ends_any M (also (identifier text s) rest) b e = λ x d o. e _ d o
ends_any M (also (punctuation c j s) rest) b e = λ x h d o. e _ d o
ends_any M (also (literal text s) rest) b e = λ x d o. e _ d o
ends_any M (also (doc text s) rest) b e = λ x d o. e _ d o
ends_any M (also (group k s inside) rest) b e = λ t i x d o. e _ d o

closed_any : (M : Moving) (d : Delimiter) (next : Stage) (run : TokenList) (b : Option TokenList) → ((x : TokenList) (c : Option TokenList) → M x c ≡ closes d next c) → Local M run b (closes d next b)
closed_any M d next run None e = ends_any M run None (λ x c o. e x c ∙ closed_ends d next c o)
closed_any M d next run (Some rest) e = out refl refl (λ x. e run (Some x))

-- `'`, `?`, `::` or none of them
sort_bound : (F : Move → Type 0) (x y z : Bool) (k l m n o : Move) → (x ≡ true → F k) → (x ≡ false → y ≡ true → F l) → (x ≡ false → y ≡ false → z ≡ true → F m) → (x ≡ false → y ≡ false → z ≡ false → F o) →
    F (if ((x || y) || z) || false then (if x then k else (if y then l else (if z then m else n))) else o)
sort_bound F true y z k l m n o f g h i = f refl
sort_bound F false true z k l m n o f g h i = g refl refl
sort_bound F false false true k l m n o f g h i = h refl refl refl
sort_bound F false false false k l m n o f g h i = i refl refl refl

-- the next sign is the same, so no `::` comes first
dull : (c : ℕ) (p : Spacing) (s : Span) (rest other : TokenList) → begins_colons (also (punctuation c p s) rest) ≡ false → SameSign rest other → begins_colons (also (punctuation c p s) other) ≡ false
dull c p s rest other m h = colons_after c p s rest other (λ e. h) ∙ m

named_end : (kind : PathKind) (c : ℕ) (p : Spacing) (s : Span) (rest : TokenList) (b : Option TokenList) → (c == 60) ≡ false → begins_colons (also (punctuation c p s) rest) ≡ false → Local (table.named_move kind) (also (punctuation c p s) rest) b (table.name_end kind (also (punctuation c p s) rest) b)
named_end Plain c p s rest b n m = either (Local (table.named_move Plain) (also (punctuation c p s) rest) b) (c == 33) _ _
    (λ e. take_one (table.named_move Plain) (bars (mark 33)) (punctuation c p s) rest b stage.Macro (λ x d o h. rw (n, dull c p s rest x m h, e) refl))
    (λ k. λ x j d o. rw (n, colons_after c p s rest x j, m, k) refl)
named_end OfType c p s rest b n m = λ x j d o. rw (n, colons_after c p s rest x j, m) refl
named_end OfBound c p s rest b n m = λ x j d o. rw (n, colons_after c p s rest x j, m) refl

named : (kind : PathKind) (run : TokenList) (b : Option TokenList) → Local (table.named_move kind) run b (table.named_move kind run b)
named kind (also (punctuation c p s) rest) b = either (Local (table.named_move kind) (also (punctuation c p s) rest) b) (c == 60) _ _
    (λ e. take_one (table.named_move kind) (takes (mark 60)) (punctuation c p s) rest b (stage.Arguments (argued kind)) (λ x d o h. rw e refl))
    (λ n. (either (Local (table.named_move kind) (also (punctuation c p s) rest) b) (begins_colons (also (punctuation c p s) rest)) _ _
    (λ m. take_colons (table.named_move kind) (takes colons) c p s rest b (stage.Colons kind true) m (λ t x d o g. rw (n, g) refl))
    (λ m. named_end kind c p s rest b n m)))
named kind (also (identifier text s) rest) b = λ x d o. refl
named kind (also (literal text s) rest) b = λ x d o. refl
named kind (also (doc text s) rest) b = λ x d o. refl
named kind (also (group Parenthesis s inside) rest) b = opened (table.named_move kind) Parenthesis s stage.Inputs inside rest b (λ t i x d. refl)
named kind (also (group Bracket s inside) rest) b = λ t i x d o. refl
named kind (also (group Brace s inside) rest) b = λ t i x d o. refl
named kind none b = λ d o. refl

segments : (kind : PathKind) (run : TokenList) (b : Option TokenList) → Local (table.segments_move kind) run b (table.segments_move kind run b)
segments kind (also (punctuation c p s) rest) b = either (Local (table.segments_move kind) (also (punctuation c p s) rest) b) (begins_colons (also (punctuation c p s) rest)) _ _
    (λ e. take_colons (table.segments_move kind) (takes colons) c p s rest b (stage.Colons kind false) e (λ t x d o g. rw g refl))
    (λ n. λ x j d o. rw (colons_after c p s rest x j, n) refl)
segments kind (also (identifier text s) rest) b = λ x d o. refl
segments kind (also (literal text s) rest) b = λ x d o. refl
segments kind (also (doc text s) rest) b = λ x d o. refl
segments kind (also (group Parenthesis s inside) rest) b = λ t i x d o. refl
segments kind (also (group Bracket s inside) rest) b = λ t i x d o. refl
segments kind (also (group Brace s inside) rest) b = λ t i x d o. refl
segments kind none b = λ d o. refl

macro_group : (run : TokenList) (b : Option TokenList) → Local (table.macro_move) run b (table.macro_move run b)
macro_group (also (punctuation c p s) rest) b = stop_here (table.macro_move) (also (punctuation c p s) rest) b (λ x j d o. refl)
macro_group (also (identifier text s) rest) b = stop_here (table.macro_move) (also (identifier text s) rest) b (λ x d o. refl)
macro_group (also (literal text s) rest) b = stop_here (table.macro_move) (also (literal text s) rest) b (λ x d o. refl)
macro_group (also (doc text s) rest) b = stop_here (table.macro_move) (also (doc text s) rest) b (λ x d o. refl)
macro_group (also (group Parenthesis s inside) rest) b = take_one (table.macro_move) (takes (opening Parenthesis)) (group Parenthesis s inside) rest b stage.End (λ x d o h. refl)
macro_group (also (group Bracket s inside) rest) b = take_one (table.macro_move) (takes (opening Bracket)) (group Bracket s inside) rest b stage.End (λ x d o h. refl)
macro_group (also (group Brace s inside) rest) b = take_one (table.macro_move) (takes (opening Brace)) (group Brace s inside) rest b stage.End (λ x d o h. refl)
macro_group none b = stop_here (table.macro_move) none b (λ d o. refl)

output : (run : TokenList) (b : Option TokenList) → Local (table.output_move) run b (table.output_move run b)
output (also (punctuation c p s) rest) b = either (Local (table.output_move) (also (punctuation c p s) rest) b) (begins_arrow (also (punctuation c p s) rest)) _ _
    (λ e. take_arrow (table.output_move) (takes arrow) c p s rest b stage.Target e (λ t x d o g. rw g refl))
    (λ n. λ x j d o. rw (arrow_after c p s rest x j, n) refl)
output (also (identifier text s) rest) b = λ x d o. refl
output (also (literal text s) rest) b = λ x d o. refl
output (also (doc text s) rest) b = λ x d o. refl
output (also (group Parenthesis s inside) rest) b = λ t i x d o. refl
output (also (group Bracket s inside) rest) b = λ t i x d o. refl
output (also (group Brace s inside) rest) b = λ t i x d o. refl
output none b = λ d o. refl

inputs : (run : TokenList) (b : Option TokenList) → Local (table.inputs_move) run b (table.inputs_move run b)
inputs (also (punctuation c p s) rest) b = λ x j d o. refl
inputs (also (identifier text s) rest) b = λ x h d o. refl
inputs (also (literal text s) rest) b = λ x d o. refl
inputs (also (doc text s) rest) b = λ x d o. refl
inputs (also (group Parenthesis s inside) rest) b = λ t i x d o. refl
inputs (also (group Bracket s inside) rest) b = λ t i x d o. refl
inputs (also (group Brace s inside) rest) b = λ t i x d o. refl
inputs none b = closed (table.inputs_move) Parenthesis stage.Output b (λ d. refl)

input_end : (run : TokenList) (b : Option TokenList) → Local (table.input_end_move) run b (table.input_end_move run b)
input_end (also (punctuation c p s) rest) b = either (Local (table.input_end_move) (also (punctuation c p s) rest) b) (c == 44) _ _
    (λ e. take_one (table.input_end_move) (takes (mark 44)) (punctuation c p s) rest b stage.Inputs (λ x d o h. rw e refl))
    (λ n0. stop_here (table.input_end_move) (also (punctuation c p s) rest) b (λ x j d o. rw n0 refl))
input_end (also (identifier text s) rest) b = stop_here (table.input_end_move) (also (identifier text s) rest) b (λ x d o. refl)
input_end (also (literal text s) rest) b = stop_here (table.input_end_move) (also (literal text s) rest) b (λ x d o. refl)
input_end (also (doc text s) rest) b = stop_here (table.input_end_move) (also (doc text s) rest) b (λ x d o. refl)
input_end (also (group Parenthesis s inside) rest) b = stop_here (table.input_end_move) (also (group Parenthesis s inside) rest) b (λ t i x d o. refl)
input_end (also (group Bracket s inside) rest) b = stop_here (table.input_end_move) (also (group Bracket s inside) rest) b (λ t i x d o. refl)
input_end (also (group Brace s inside) rest) b = stop_here (table.input_end_move) (also (group Brace s inside) rest) b (λ t i x d o. refl)
input_end none b = closed (table.input_end_move) Parenthesis stage.Output b (λ d. refl)

colons_next : (kind : PathKind) (may : Bool) (run : TokenList) (b : Option TokenList) → Local (table.colons_move kind may) run b (table.colons_move kind may run b)
colons_next kind may (also (punctuation c p s) rest) b = either (Local (table.colons_move kind may) (also (punctuation c p s) rest) b) (may && (c == 60)) _ _
    (λ e. take_one (table.colons_move kind may) (takes (mark 60)) (punctuation c p s) rest b (stage.Arguments (argued kind)) (λ x d o h. rw e refl))
    (λ n0. stop_here (table.colons_move kind may) (also (punctuation c p s) rest) b (λ x j d o. rw n0 refl))
colons_next kind may (also (identifier text s) rest) b = take_one (table.colons_move kind may) (takes (word text)) (identifier text s) rest b (stage.Named kind) (λ x d o h. refl)
colons_next kind may (also (literal text s) rest) b = stop_here (table.colons_move kind may) (also (literal text s) rest) b (λ x d o. refl)
colons_next kind may (also (doc text s) rest) b = stop_here (table.colons_move kind may) (also (doc text s) rest) b (λ x d o. refl)
colons_next kind may (also (group Parenthesis s inside) rest) b = stop_here (table.colons_move kind may) (also (group Parenthesis s inside) rest) b (λ t i x d o. refl)
colons_next kind may (also (group Bracket s inside) rest) b = stop_here (table.colons_move kind may) (also (group Bracket s inside) rest) b (λ t i x d o. refl)
colons_next kind may (also (group Brace s inside) rest) b = stop_here (table.colons_move kind may) (also (group Brace s inside) rest) b (λ t i x d o. refl)
colons_next kind may none b = stop_here (table.colons_move kind may) none b (λ d o. refl)

lifetime_next : (kind : PathKind) (c : ℕ) (p : Spacing) (s : Span) (run : TokenList) (b : Option TokenList) → (c == 62) ≡ false → (c == 39) ≡ true → Local (table.arguments_move kind) (also (punctuation c p s) run) b (table.lifetime_move kind run b)
lifetime_next kind c p s (also (identifier text t) rest) b n e = take_two (table.arguments_move kind) (takes (argument_lifetime kind text)) (punctuation c p s) (identifier text t) rest b (stage.ArgumentEnd kind) (λ x d o h. rw (n, e) refl)
lifetime_next kind c p s (also (punctuation f q t) rest) b n e = stop_second (table.arguments_move kind) (punctuation c p s) (also (punctuation f q t) rest) b (λ x j d o. rw (n, e) refl)
lifetime_next kind c p s (also (literal text t) rest) b n e = stop_second (table.arguments_move kind) (punctuation c p s) (also (literal text t) rest) b (λ x d o. rw (n, e) refl)
lifetime_next kind c p s (also (doc text t) rest) b n e = stop_second (table.arguments_move kind) (punctuation c p s) (also (doc text t) rest) b (λ x d o. rw (n, e) refl)
lifetime_next kind c p s (also (group f t inside) rest) b n e = stop_second (table.arguments_move kind) (punctuation c p s) (also (group f t inside) rest) b (λ u i x d o. rw (n, e) refl)
lifetime_next kind c p s none b n e = stop_second (table.arguments_move kind) (punctuation c p s) none b (λ d o. rw (n, e) refl)

arguments : (kind : PathKind) (run : TokenList) (b : Option TokenList) → Local (table.arguments_move kind) run b (table.arguments_move kind run b)
arguments kind (also (punctuation c p s) rest) b = either (Local (table.arguments_move kind) (also (punctuation c p s) rest) b) (c == 62) _ _
    (λ e. take_one (table.arguments_move kind) (takes (mark 62)) (punctuation c p s) rest b (stage.Segments kind) (λ x d o h. rw e refl))
    (λ n. (either (Local (table.arguments_move kind) (also (punctuation c p s) rest) b) (c == 39) _ _
    (λ e. lifetime_next kind c p s rest b n e)
    (λ m. λ x j d o. rw (n, m) refl)))
arguments kind (also (identifier text s) rest) b = either (Local (table.arguments_move kind) (also (identifier text s) rest) b) (begins_mark 61 rest) _ _
    (λ e. take_one (table.arguments_move kind) (takes (word text)) (identifier text s) rest b (stage.Equals kind) (λ x d o h. rw (mark_same 61 h, e) refl))
    (λ n. (either (Local (table.arguments_move kind) (also (identifier text s) rest) b) (typing rest) _ _
    (λ e. take_one (table.arguments_move kind) (bars (word text)) (identifier text s) rest b (stage.Constrained kind) (λ x d o h. rw (mark_same 61 h, n, typing_same h, e) refl))
    (λ m. λ x h d o. rw (mark_same 61 h, n, typing_same h, m) refl)))
arguments kind (also (literal text s) rest) b = take_one (table.arguments_move kind) (takes (value text)) (literal text s) rest b (stage.ArgumentEnd kind) (λ x d o h. refl)
arguments kind (also (doc text s) rest) b = λ x d o. refl
arguments kind (also (group Parenthesis s inside) rest) b = λ t i x d o. refl
arguments kind (also (group Bracket s inside) rest) b = λ t i x d o. refl
arguments kind (also (group Brace s inside) rest) b = opened (table.arguments_move kind) Brace s (stage.Braced kind) inside rest b (λ t i x d. refl)
arguments kind none b = λ d o. refl

braced : (kind : PathKind) (run : TokenList) (b : Option TokenList) → Local (table.braced_move kind) run b (table.braced_move kind run b)
braced kind (also (punctuation c p s) rest) b = (refl, refl, λ d o. refl)
braced kind (also (identifier text s) rest) b = (refl, refl, λ d o. refl)
braced kind (also (literal text s) rest) b = (refl, refl, λ d o. refl)
braced kind (also (doc text s) rest) b = (refl, refl, λ d o. refl)
braced kind (also (group Parenthesis s inside) rest) b = (refl, refl, λ d o. refl)
braced kind (also (group Bracket s inside) rest) b = (refl, refl, λ d o. refl)
braced kind (also (group Brace s inside) rest) b = (refl, refl, λ d o. refl)
braced kind none b = closed (table.braced_move kind) Brace (stage.ArgumentEnd kind) b (λ d. refl)

equals : (kind : PathKind) (run : TokenList) (b : Option TokenList) → Local (table.equals_move kind) run b (table.equals_move kind run b)
equals kind (also (punctuation c p s) rest) b = either (Local (table.equals_move kind) (also (punctuation c p s) rest) b) (c == 61) _ _
    (λ e. take_one (table.equals_move kind) (takes (mark 61)) (punctuation c p s) rest b (stage.Value kind) (λ x d o h. rw e refl))
    (λ n0. stop_here (table.equals_move kind) (also (punctuation c p s) rest) b (λ x j d o. rw n0 refl))
equals kind (also (identifier text s) rest) b = stop_here (table.equals_move kind) (also (identifier text s) rest) b (λ x d o. refl)
equals kind (also (literal text s) rest) b = stop_here (table.equals_move kind) (also (literal text s) rest) b (λ x d o. refl)
equals kind (also (doc text s) rest) b = stop_here (table.equals_move kind) (also (doc text s) rest) b (λ x d o. refl)
equals kind (also (group Parenthesis s inside) rest) b = stop_here (table.equals_move kind) (also (group Parenthesis s inside) rest) b (λ t i x d o. refl)
equals kind (also (group Bracket s inside) rest) b = stop_here (table.equals_move kind) (also (group Bracket s inside) rest) b (λ t i x d o. refl)
equals kind (also (group Brace s inside) rest) b = stop_here (table.equals_move kind) (also (group Brace s inside) rest) b (λ t i x d o. refl)
equals kind none b = stop_here (table.equals_move kind) none b (λ d o. refl)

constrained : (kind : PathKind) (run : TokenList) (b : Option TokenList) → Local (table.constrained_move kind) run b (table.constrained_move kind run b)
constrained kind (also (punctuation c p s) rest) b = either (Local (table.constrained_move kind) (also (punctuation c p s) rest) b) (c == 58) _ _
    (λ e. (also (punctuation c p s) none, refl, refl, λ x d o h. rw e refl))
    (λ n. stop_here (table.constrained_move kind) (also (punctuation c p s) rest) b (λ x j d o. rw n refl))
constrained kind (also (identifier text s) rest) b = stop_here (table.constrained_move kind) (also (identifier text s) rest) b (λ x d o. refl)
constrained kind (also (literal text s) rest) b = stop_here (table.constrained_move kind) (also (literal text s) rest) b (λ x d o. refl)
constrained kind (also (doc text s) rest) b = stop_here (table.constrained_move kind) (also (doc text s) rest) b (λ x d o. refl)
constrained kind (also (group Parenthesis s inside) rest) b = stop_here (table.constrained_move kind) (also (group Parenthesis s inside) rest) b (λ t i x d o. refl)
constrained kind (also (group Bracket s inside) rest) b = stop_here (table.constrained_move kind) (also (group Bracket s inside) rest) b (λ t i x d o. refl)
constrained kind (also (group Brace s inside) rest) b = stop_here (table.constrained_move kind) (also (group Brace s inside) rest) b (λ t i x d o. refl)
constrained kind none b = stop_here (table.constrained_move kind) none b (λ d o. refl)

argument_end : (kind : PathKind) (run : TokenList) (b : Option TokenList) → Local (table.argument_end_move kind) run b (table.argument_end_move kind run b)
argument_end kind (also (punctuation c p s) rest) b = either (Local (table.argument_end_move kind) (also (punctuation c p s) rest) b) (c == 44) _ _
    (λ e. take_one (table.argument_end_move kind) (takes (mark 44)) (punctuation c p s) rest b (stage.Arguments kind) (λ x d o h. rw e refl))
    (λ n0. (either (Local (table.argument_end_move kind) (also (punctuation c p s) rest) b) (c == 62) _ _
    (λ e. take_one (table.argument_end_move kind) (takes (mark 62)) (punctuation c p s) rest b (stage.Segments kind) (λ x d o h. rw (n0, e) refl))
    (λ n1. stop_here (table.argument_end_move kind) (also (punctuation c p s) rest) b (λ x j d o. rw (n0, n1) refl))))
argument_end kind (also (identifier text s) rest) b = stop_here (table.argument_end_move kind) (also (identifier text s) rest) b (λ x d o. refl)
argument_end kind (also (literal text s) rest) b = stop_here (table.argument_end_move kind) (also (literal text s) rest) b (λ x d o. refl)
argument_end kind (also (doc text s) rest) b = stop_here (table.argument_end_move kind) (also (doc text s) rest) b (λ x d o. refl)
argument_end kind (also (group Parenthesis s inside) rest) b = stop_here (table.argument_end_move kind) (also (group Parenthesis s inside) rest) b (λ t i x d o. refl)
argument_end kind (also (group Bracket s inside) rest) b = stop_here (table.argument_end_move kind) (also (group Bracket s inside) rest) b (λ t i x d o. refl)
argument_end kind (also (group Brace s inside) rest) b = stop_here (table.argument_end_move kind) (also (group Brace s inside) rest) b (λ t i x d o. refl)
argument_end kind none b = stop_here (table.argument_end_move kind) none b (λ d o. refl)

referent : (run : TokenList) (b : Option TokenList) → Local (table.referent_move) run b (table.referent_move run b)
referent (also (punctuation c p s) rest) b = λ x j d o. refl
referent (also (identifier text s) rest) b = either (Local (table.referent_move) (also (identifier text s) rest) b) (bytes_eq text (codes "mut")) _ _
    (λ e. take_one (table.referent_move) (takes (word text)) (identifier text s) rest b stage.Target (λ x d o h. rw e refl))
    (λ n. λ x h d o. rw n refl)
referent (also (literal text s) rest) b = λ x d o. refl
referent (also (doc text s) rest) b = λ x d o. refl
referent (also (group Parenthesis s inside) rest) b = λ t i x d o. refl
referent (also (group Bracket s inside) rest) b = λ t i x d o. refl
referent (also (group Brace s inside) rest) b = λ t i x d o. refl
referent none b = λ d o. refl

pointer : (run : TokenList) (b : Option TokenList) → Local (table.pointer_move) run b (table.pointer_move run b)
pointer (also (punctuation c p s) rest) b = stop_here (table.pointer_move) (also (punctuation c p s) rest) b (λ x j d o. refl)
pointer (also (identifier text s) rest) b = either (Local (table.pointer_move) (also (identifier text s) rest) b) (bytes_eq text (codes "const") || bytes_eq text (codes "mut")) _ _
    (λ e. take_one (table.pointer_move) (takes (word text)) (identifier text s) rest b stage.Target (λ x d o h. rw e refl))
    (λ n0. stop_here (table.pointer_move) (also (identifier text s) rest) b (λ x d o. rw n0 refl))
pointer (also (literal text s) rest) b = stop_here (table.pointer_move) (also (literal text s) rest) b (λ x d o. refl)
pointer (also (doc text s) rest) b = stop_here (table.pointer_move) (also (doc text s) rest) b (λ x d o. refl)
pointer (also (group Parenthesis s inside) rest) b = stop_here (table.pointer_move) (also (group Parenthesis s inside) rest) b (λ t i x d o. refl)
pointer (also (group Bracket s inside) rest) b = stop_here (table.pointer_move) (also (group Bracket s inside) rest) b (λ t i x d o. refl)
pointer (also (group Brace s inside) rest) b = stop_here (table.pointer_move) (also (group Brace s inside) rest) b (λ t i x d o. refl)
pointer none b = stop_here (table.pointer_move) none b (λ d o. refl)

list : (run : TokenList) (b : Option TokenList) → Local (table.list_move) run b (table.list_move run b)
list (also (punctuation c p s) rest) b = λ x j d o. refl
list (also (identifier text s) rest) b = λ x h d o. refl
list (also (literal text s) rest) b = λ x d o. refl
list (also (doc text s) rest) b = λ x d o. refl
list (also (group Parenthesis s inside) rest) b = λ t i x d o. refl
list (also (group Bracket s inside) rest) b = λ t i x d o. refl
list (also (group Brace s inside) rest) b = λ t i x d o. refl
list none b = closed (table.list_move) Parenthesis stage.End b (λ d. refl)

list_end : (run : TokenList) (b : Option TokenList) → Local (table.list_end_move) run b (table.list_end_move run b)
list_end (also (punctuation c p s) rest) b = either (Local (table.list_end_move) (also (punctuation c p s) rest) b) (c == 44) _ _
    (λ e. take_one (table.list_end_move) (takes (mark 44)) (punctuation c p s) rest b stage.List (λ x d o h. rw e refl))
    (λ n0. stop_here (table.list_end_move) (also (punctuation c p s) rest) b (λ x j d o. rw n0 refl))
list_end (also (identifier text s) rest) b = stop_here (table.list_end_move) (also (identifier text s) rest) b (λ x d o. refl)
list_end (also (literal text s) rest) b = stop_here (table.list_end_move) (also (literal text s) rest) b (λ x d o. refl)
list_end (also (doc text s) rest) b = stop_here (table.list_end_move) (also (doc text s) rest) b (λ x d o. refl)
list_end (also (group Parenthesis s inside) rest) b = stop_here (table.list_end_move) (also (group Parenthesis s inside) rest) b (λ t i x d o. refl)
list_end (also (group Bracket s inside) rest) b = stop_here (table.list_end_move) (also (group Bracket s inside) rest) b (λ t i x d o. refl)
list_end (also (group Brace s inside) rest) b = stop_here (table.list_end_move) (also (group Brace s inside) rest) b (λ t i x d o. refl)
list_end none b = closed (table.list_end_move) Parenthesis stage.End b (λ d. refl)

element_end : (run : TokenList) (b : Option TokenList) → Local (table.element_end_move) run b (table.element_end_move run b)
element_end (also (punctuation c p s) rest) b = either (Local (table.element_end_move) (also (punctuation c p s) rest) b) (c == 59) _ _
    (λ e. take_one (table.element_end_move) (takes (mark 59)) (punctuation c p s) rest b stage.Length (λ x d o h. rw e refl))
    (λ n0. stop_here (table.element_end_move) (also (punctuation c p s) rest) b (λ x j d o. rw n0 refl))
element_end (also (identifier text s) rest) b = stop_here (table.element_end_move) (also (identifier text s) rest) b (λ x d o. refl)
element_end (also (literal text s) rest) b = stop_here (table.element_end_move) (also (literal text s) rest) b (λ x d o. refl)
element_end (also (doc text s) rest) b = stop_here (table.element_end_move) (also (doc text s) rest) b (λ x d o. refl)
element_end (also (group Parenthesis s inside) rest) b = stop_here (table.element_end_move) (also (group Parenthesis s inside) rest) b (λ t i x d o. refl)
element_end (also (group Bracket s inside) rest) b = stop_here (table.element_end_move) (also (group Bracket s inside) rest) b (λ t i x d o. refl)
element_end (also (group Brace s inside) rest) b = stop_here (table.element_end_move) (also (group Brace s inside) rest) b (λ t i x d o. refl)
element_end none b = closed (table.element_end_move) Bracket stage.End b (λ d. refl)

length : (run : TokenList) (b : Option TokenList) → Local (table.length_move) run b (table.length_move run b)
length (also (punctuation c p s) rest) b = (refl, refl, λ d o. refl)
length (also (identifier text s) rest) b = (refl, refl, λ d o. refl)
length (also (literal text s) rest) b = (refl, refl, λ d o. refl)
length (also (doc text s) rest) b = (refl, refl, λ d o. refl)
length (also (group Parenthesis s inside) rest) b = (refl, refl, λ d o. refl)
length (also (group Bracket s inside) rest) b = (refl, refl, λ d o. refl)
length (also (group Brace s inside) rest) b = (refl, refl, λ d o. refl)
length none b = stop_here (table.length_move) none b (λ d o. refl)

self_end : (run : TokenList) (b : Option TokenList) → Local (table.self_end_move) run b (table.self_end_move run b)
self_end (also (punctuation c p s) rest) b = either (Local (table.self_end_move) (also (punctuation c p s) rest) b) (c == 62) _ _
    (λ e. take_one (table.self_end_move) (takes (mark 62)) (punctuation c p s) rest b stage.SelfClosed (λ x d o h. rw e refl))
    (λ n0. stop_here (table.self_end_move) (also (punctuation c p s) rest) b (λ x j d o. rw n0 refl))
self_end (also (identifier text s) rest) b = either (Local (table.self_end_move) (also (identifier text s) rest) b) (bytes_eq text (codes "as")) _ _
    (λ e. take_one (table.self_end_move) (takes (word text)) (identifier text s) rest b stage.SelfTrait (λ x d o h. rw e refl))
    (λ n0. stop_here (table.self_end_move) (also (identifier text s) rest) b (λ x d o. rw n0 refl))
self_end (also (literal text s) rest) b = stop_here (table.self_end_move) (also (literal text s) rest) b (λ x d o. refl)
self_end (also (doc text s) rest) b = stop_here (table.self_end_move) (also (doc text s) rest) b (λ x d o. refl)
self_end (also (group Parenthesis s inside) rest) b = stop_here (table.self_end_move) (also (group Parenthesis s inside) rest) b (λ t i x d o. refl)
self_end (also (group Bracket s inside) rest) b = stop_here (table.self_end_move) (also (group Bracket s inside) rest) b (λ t i x d o. refl)
self_end (also (group Brace s inside) rest) b = stop_here (table.self_end_move) (also (group Brace s inside) rest) b (λ t i x d o. refl)
self_end none b = stop_here (table.self_end_move) none b (λ d o. refl)

path : (kind : PathKind) (next : Stage) (run : TokenList) (b : Option TokenList) → Local (λ x c. table.path_move kind next x) run b ((λ (x : TokenList) (c : Option TokenList). table.path_move kind next x) run b)
path kind next (also (punctuation c p s) rest) b = either (Local (λ x c. table.path_move kind next x) (also (punctuation c p s) rest) b) (begins_colons (also (punctuation c p s) rest)) _ _
    (λ k. nest_colons (λ x c. table.path_move kind next x) c p s rest b (stage.Colons kind false) next k (λ t x d o g. rw g refl))
    (λ k. stop_here (λ x c. table.path_move kind next x) (also (punctuation c p s) rest) b (λ x j d o. rw (colons_after c p s rest x j, k) refl))
path kind next (also (identifier text s) rest) b = (also (identifier text s) none, refl, refl, λ x d o h. refl)
path kind next (also (literal text s) rest) b = stop_here (λ x c. table.path_move kind next x) (also (literal text s) rest) b (λ x d o. refl)
path kind next (also (doc text s) rest) b = stop_here (λ x c. table.path_move kind next x) (also (doc text s) rest) b (λ x d o. refl)
path kind next (also (group Parenthesis s inside) rest) b = stop_here (λ x c. table.path_move kind next x) (also (group Parenthesis s inside) rest) b (λ t i x d o. refl)
path kind next (also (group Bracket s inside) rest) b = stop_here (λ x c. table.path_move kind next x) (also (group Bracket s inside) rest) b (λ t i x d o. refl)
path kind next (also (group Brace s inside) rest) b = stop_here (λ x c. table.path_move kind next x) (also (group Brace s inside) rest) b (λ t i x d o. refl)
path kind next none b = stop_here (λ x c. table.path_move kind next x) none b (λ d o. refl)

self_trait_end : (run : TokenList) (b : Option TokenList) → Local (table.self_trait_end_move) run b (table.self_trait_end_move run b)
self_trait_end (also (punctuation c p s) rest) b = either (Local (table.self_trait_end_move) (also (punctuation c p s) rest) b) (c == 62) _ _
    (λ e. take_one (table.self_trait_end_move) (takes (mark 62)) (punctuation c p s) rest b stage.SelfClosed (λ x d o h. rw e refl))
    (λ n0. stop_here (table.self_trait_end_move) (also (punctuation c p s) rest) b (λ x j d o. rw n0 refl))
self_trait_end (also (identifier text s) rest) b = stop_here (table.self_trait_end_move) (also (identifier text s) rest) b (λ x d o. refl)
self_trait_end (also (literal text s) rest) b = stop_here (table.self_trait_end_move) (also (literal text s) rest) b (λ x d o. refl)
self_trait_end (also (doc text s) rest) b = stop_here (table.self_trait_end_move) (also (doc text s) rest) b (λ x d o. refl)
self_trait_end (also (group Parenthesis s inside) rest) b = stop_here (table.self_trait_end_move) (also (group Parenthesis s inside) rest) b (λ t i x d o. refl)
self_trait_end (also (group Bracket s inside) rest) b = stop_here (table.self_trait_end_move) (also (group Bracket s inside) rest) b (λ t i x d o. refl)
self_trait_end (also (group Brace s inside) rest) b = stop_here (table.self_trait_end_move) (also (group Brace s inside) rest) b (λ t i x d o. refl)
self_trait_end none b = stop_here (table.self_trait_end_move) none b (λ d o. refl)

self_closed : (run : TokenList) (b : Option TokenList) → Local (table.self_closed_move) run b (table.self_closed_move run b)
self_closed (also (punctuation c p s) rest) b = either (Local (table.self_closed_move) (also (punctuation c p s) rest) b) (begins_colons (also (punctuation c p s) rest)) _ _
    (λ e. take_colons (table.self_closed_move) (takes colons) c p s rest b (stage.Colons OfType false) e (λ t x d o g. rw g refl))
    (λ n. stop_here (table.self_closed_move) (also (punctuation c p s) rest) b (λ x j d o. rw (colons_after c p s rest x j, n) refl))
self_closed (also (identifier text s) rest) b = stop_here (table.self_closed_move) (also (identifier text s) rest) b (λ x d o. refl)
self_closed (also (literal text s) rest) b = stop_here (table.self_closed_move) (also (literal text s) rest) b (λ x d o. refl)
self_closed (also (doc text s) rest) b = stop_here (table.self_closed_move) (also (doc text s) rest) b (λ x d o. refl)
self_closed (also (group Parenthesis s inside) rest) b = stop_here (table.self_closed_move) (also (group Parenthesis s inside) rest) b (λ t i x d o. refl)
self_closed (also (group Bracket s inside) rest) b = stop_here (table.self_closed_move) (also (group Bracket s inside) rest) b (λ t i x d o. refl)
self_closed (also (group Brace s inside) rest) b = stop_here (table.self_closed_move) (also (group Brace s inside) rest) b (λ t i x d o. refl)
self_closed none b = stop_here (table.self_closed_move) none b (λ d o. refl)

bound_lifetime : (plus : Bool) (c : ℕ) (p : Spacing) (s : Span) (run : TokenList) (b : Option TokenList) → (c == 39) ≡ true → Local (table.bound_move plus) (also (punctuation c p s) run) b (table.bound_lifetime_move plus run b)
bound_lifetime plus c p s (also (identifier text t) rest) b e = take_two (table.bound_move plus) (takes (other_lifetime text)) (punctuation c p s) (identifier text t) rest b (stage.BoundEnd plus) (λ x d o h. rw e refl)
bound_lifetime plus c p s (also (punctuation f q t) rest) b e = stop_second (table.bound_move plus) (punctuation c p s) (also (punctuation f q t) rest) b (λ x j d o. rw e refl)
bound_lifetime plus c p s (also (literal text t) rest) b e = stop_second (table.bound_move plus) (punctuation c p s) (also (literal text t) rest) b (λ x d o. rw e refl)
bound_lifetime plus c p s (also (doc text t) rest) b e = stop_second (table.bound_move plus) (punctuation c p s) (also (doc text t) rest) b (λ x d o. rw e refl)
bound_lifetime plus c p s (also (group f t inside) rest) b e = stop_second (table.bound_move plus) (punctuation c p s) (also (group f t inside) rest) b (λ u i x d o. rw e refl)
bound_lifetime plus c p s none b e = stop_second (table.bound_move plus) (punctuation c p s) none b (λ d o. rw e refl)

further_lifetime : (u : Unit {0}) (c : ℕ) (p : Spacing) (s : Span) (run : TokenList) (b : Option TokenList) → (c == 39) ≡ true → Local (table.further_move) (also (punctuation c p s) run) b (table.bound_lifetime_move true run b)
further_lifetime u c p s (also (identifier text t) rest) b e = take_two (table.further_move) (takes (other_lifetime text)) (punctuation c p s) (identifier text t) rest b (stage.BoundEnd true) (λ x d o h. rw e refl)
further_lifetime u c p s (also (punctuation f q t) rest) b e = stop_second (table.further_move) (punctuation c p s) (also (punctuation f q t) rest) b (λ x j d o. rw e refl)
further_lifetime u c p s (also (literal text t) rest) b e = stop_second (table.further_move) (punctuation c p s) (also (literal text t) rest) b (λ x d o. rw e refl)
further_lifetime u c p s (also (doc text t) rest) b e = stop_second (table.further_move) (punctuation c p s) (also (doc text t) rest) b (λ x d o. rw e refl)
further_lifetime u c p s (also (group f t inside) rest) b e = stop_second (table.further_move) (punctuation c p s) (also (group f t inside) rest) b (λ u i x d o. rw e refl)
further_lifetime u c p s none b e = stop_second (table.further_move) (punctuation c p s) none b (λ d o. rw e refl)

trait : (kind : BoundKind) (run : TokenList) (b : Option TokenList) → Local (table.trait_move kind) run b (table.trait_move kind run b)
trait kind (also (punctuation c p s) rest) b = either (Local (table.trait_move kind) (also (punctuation c p s) rest) b) (begins_colons (also (punctuation c p s) rest)) _ _
    (λ k. nest_colons (table.trait_move kind) c p s rest b (stage.Colons OfBound false) (after_bound kind) k (λ t x d o g. rw g refl))
    (λ k. stop_here (table.trait_move kind) (also (punctuation c p s) rest) b (λ x j d o. rw (colons_after c p s rest x j, k) refl))
trait kind (also (identifier text s) rest) b = either (Local (table.trait_move kind) (also (identifier text s) rest) b) (bytes_eq text (codes "for")) _ _
    (λ e. take_one (table.trait_move kind) (takes (word text)) (identifier text s) rest b (stage.For (OfTrait kind)) (λ x d o h. rw e refl))
    (λ n. (also (identifier text s) none, refl, refl, λ x d o h. rw n refl))
trait kind (also (literal text s) rest) b = stop_here (table.trait_move kind) (also (literal text s) rest) b (λ x d o. refl)
trait kind (also (doc text s) rest) b = stop_here (table.trait_move kind) (also (doc text s) rest) b (λ x d o. refl)
trait kind (also (group Parenthesis s inside) rest) b = stop_here (table.trait_move kind) (also (group Parenthesis s inside) rest) b (λ t i x d o. refl)
trait kind (also (group Bracket s inside) rest) b = stop_here (table.trait_move kind) (also (group Bracket s inside) rest) b (λ t i x d o. refl)
trait kind (also (group Brace s inside) rest) b = stop_here (table.trait_move kind) (also (group Brace s inside) rest) b (λ t i x d o. refl)
trait kind none b = stop_here (table.trait_move kind) none b (λ d o. refl)

question : (kind : BoundKind) (run : TokenList) (b : Option TokenList) → Local (table.question_move kind) run b (table.question_move kind run b)
question kind (also (punctuation c p s) rest) b = either (Local (table.question_move kind) (also (punctuation c p s) rest) b) (c == 63) _ _
    (λ e. take_one (table.question_move kind) (takes (mark 63)) (punctuation c p s) rest b (stage.Trait kind) (λ x d o h. rw e refl))
    (λ n. (either (Local (table.question_move kind) (also (punctuation c p s) rest) b) (begins_colons (also (punctuation c p s) rest)) _ _
    (λ k. nest_colons (table.question_move kind) c p s rest b (stage.Colons OfBound false) (after_bound kind) k (λ t x d o g. rw (n, g) refl))
    (λ k. stop_here (table.question_move kind) (also (punctuation c p s) rest) b (λ x j d o. rw (n, colons_after c p s rest x j, k) refl))))
question kind (also (identifier text s) rest) b = either (Local (table.question_move kind) (also (identifier text s) rest) b) (bytes_eq text (codes "for")) _ _
    (λ e. take_one (table.question_move kind) (takes (word text)) (identifier text s) rest b (stage.For (OfTrait kind)) (λ x d o h. rw e refl))
    (λ n. (also (identifier text s) none, refl, refl, λ x d o h. rw n refl))
question kind (also (literal text s) rest) b = stop_here (table.question_move kind) (also (literal text s) rest) b (λ x d o. refl)
question kind (also (doc text s) rest) b = stop_here (table.question_move kind) (also (doc text s) rest) b (λ x d o. refl)
question kind (also (group Parenthesis s inside) rest) b = stop_here (table.question_move kind) (also (group Parenthesis s inside) rest) b (λ t i x d o. refl)
question kind (also (group Bracket s inside) rest) b = stop_here (table.question_move kind) (also (group Bracket s inside) rest) b (λ t i x d o. refl)
question kind (also (group Brace s inside) rest) b = stop_here (table.question_move kind) (also (group Brace s inside) rest) b (λ t i x d o. refl)
question kind none b = stop_here (table.question_move kind) none b (λ d o. refl)

bound : (plus : Bool) (run : TokenList) (b : Option TokenList) → Local (table.bound_move plus) run b (table.bound_move plus run b)
bound plus (also (punctuation c p s) rest) b = either (Local (table.bound_move plus) (also (punctuation c p s) rest) b) (c == 39) _ _
    (λ e. bound_lifetime plus c p s rest b e)
    (λ n. (either (Local (table.bound_move plus) (also (punctuation c p s) rest) b) (c == 63) _ _
    (λ e. take_one (table.bound_move plus) (takes (mark 63)) (punctuation c p s) rest b (stage.Trait (Listed plus)) (λ x d o h. rw (n, e) refl))
    (λ m. (either (Local (table.bound_move plus) (also (punctuation c p s) rest) b) (begins_colons (also (punctuation c p s) rest)) _ _
    (λ k. nest_colons (table.bound_move plus) c p s rest b (stage.Colons OfBound false) (stage.BoundEnd plus) k (λ t x d o g. rw (n, m, g) refl))
    (λ k. stop_here (table.bound_move plus) (also (punctuation c p s) rest) b (λ x j d o. rw (n, m, colons_after c p s rest x j, k) refl))))))
bound plus (also (identifier text s) rest) b = either (Local (table.bound_move plus) (also (identifier text s) rest) b) (bytes_eq text (codes "for")) _ _
    (λ e. take_one (table.bound_move plus) (takes (word text)) (identifier text s) rest b (stage.For (OfTrait (Listed plus))) (λ x d o h. rw e refl))
    (λ n. (also (identifier text s) none, refl, refl, λ x d o h. rw n refl))
bound plus (also (literal text s) rest) b = stop_here (table.bound_move plus) (also (literal text s) rest) b (λ x d o. refl)
bound plus (also (doc text s) rest) b = stop_here (table.bound_move plus) (also (doc text s) rest) b (λ x d o. refl)
bound plus (also (group Parenthesis s inside) rest) b = opened (table.bound_move plus) Parenthesis s (stage.Question plus) inside rest b (λ t i x d. refl)
bound plus (also (group Bracket s inside) rest) b = stop_here (table.bound_move plus) (also (group Bracket s inside) rest) b (λ t i x d o. refl)
bound plus (also (group Brace s inside) rest) b = stop_here (table.bound_move plus) (also (group Brace s inside) rest) b (λ t i x d o. refl)
bound plus none b = stop_here (table.bound_move plus) none b (λ d o. refl)

bound_end : (plus : Bool) (run : TokenList) (b : Option TokenList) → Local (table.bound_end_move plus) run b (table.bound_end_move plus run b)
bound_end plus (also (punctuation c p s) rest) b = either (Local (table.bound_end_move plus) (also (punctuation c p s) rest) b) (plus && (c == 43)) _ _
    (λ e. take_one (table.bound_end_move plus) (takes (mark 43)) (punctuation c p s) rest b stage.Further (λ x d o h. rw e refl))
    (λ n0. λ x j d o. rw n0 refl)
bound_end plus (also (identifier text s) rest) b = λ x d o. refl
bound_end plus (also (literal text s) rest) b = λ x d o. refl
bound_end plus (also (doc text s) rest) b = λ x d o. refl
bound_end plus (also (group Parenthesis s inside) rest) b = λ t i x d o. refl
bound_end plus (also (group Bracket s inside) rest) b = λ t i x d o. refl
bound_end plus (also (group Brace s inside) rest) b = λ t i x d o. refl
bound_end plus none b = λ d o. refl

further : (run : TokenList) (b : Option TokenList) → Local (table.further_move) run b (table.further_move run b)
further (also (punctuation c p s) rest) b = sort_bound (Local (table.further_move) (also (punctuation c p s) rest) b) (c == 39) (c == 63) (begins_colons (also (punctuation c p s) rest)) _ _ _ _ _
    (λ e. further_lifetime tt c p s rest b e)
    (λ n e. take_one (table.further_move) (takes (mark 63)) (punctuation c p s) rest b (stage.Trait (Listed true)) (λ x d o h. rw (n, e) refl))
    (λ n m e. nest_colons (table.further_move) c p s rest b (stage.Colons OfBound false) (stage.BoundEnd true) e (λ t x d o g. rw (n, m, g) refl))
    (λ n m k. λ x j d o. rw (n, m, colons_after c p s rest x j, k) refl)
further (also (identifier text s) rest) b = either (Local (table.further_move) (also (identifier text s) rest) b) (bytes_eq text (codes "for")) _ _
    (λ e. take_one (table.further_move) (takes (word text)) (identifier text s) rest b (stage.For (OfTrait (Listed true))) (λ x d o h. rw e refl))
    (λ n. (also (identifier text s) none, refl, refl, λ x d o h. rw n refl))
further (also (literal text s) rest) b = λ x d o. refl
further (also (doc text s) rest) b = λ x d o. refl
further (also (group Parenthesis s inside) rest) b = opened (table.further_move) Parenthesis s (stage.Question true) inside rest b (λ t i x d. refl)
further (also (group Bracket s inside) rest) b = λ t i x d o. refl
further (also (group Brace s inside) rest) b = λ t i x d o. refl
further none b = λ d o. refl

enclosed_end : (plus : Bool) (run : TokenList) (b : Option TokenList) → Local (table.enclosed_end_move plus) run b (table.enclosed_end_move plus run b)
enclosed_end plus (also (punctuation c p s) rest) b = stop_here (table.enclosed_end_move plus) (also (punctuation c p s) rest) b (λ x j d o. refl)
enclosed_end plus (also (identifier text s) rest) b = stop_here (table.enclosed_end_move plus) (also (identifier text s) rest) b (λ x d o. refl)
enclosed_end plus (also (literal text s) rest) b = stop_here (table.enclosed_end_move plus) (also (literal text s) rest) b (λ x d o. refl)
enclosed_end plus (also (doc text s) rest) b = stop_here (table.enclosed_end_move plus) (also (doc text s) rest) b (λ x d o. refl)
enclosed_end plus (also (group Parenthesis s inside) rest) b = stop_here (table.enclosed_end_move plus) (also (group Parenthesis s inside) rest) b (λ t i x d o. refl)
enclosed_end plus (also (group Bracket s inside) rest) b = stop_here (table.enclosed_end_move plus) (also (group Bracket s inside) rest) b (λ t i x d o. refl)
enclosed_end plus (also (group Brace s inside) rest) b = stop_here (table.enclosed_end_move plus) (also (group Brace s inside) rest) b (λ t i x d o. refl)
enclosed_end plus none b = closed (table.enclosed_end_move plus) Parenthesis (stage.BoundEnd plus) b (λ d. refl)

for_opens : (binder : Binder) (run : TokenList) (b : Option TokenList) → Local (table.for_move binder) run b (table.for_move binder run b)
for_opens binder (also (punctuation c p s) rest) b = either (Local (table.for_move binder) (also (punctuation c p s) rest) b) (c == 60) _ _
    (λ e. take_one (table.for_move binder) (takes (mark 60)) (punctuation c p s) rest b (stage.ForList binder) (λ x d o h. rw e refl))
    (λ n0. stop_here (table.for_move binder) (also (punctuation c p s) rest) b (λ x j d o. rw n0 refl))
for_opens binder (also (identifier text s) rest) b = stop_here (table.for_move binder) (also (identifier text s) rest) b (λ x d o. refl)
for_opens binder (also (literal text s) rest) b = stop_here (table.for_move binder) (also (literal text s) rest) b (λ x d o. refl)
for_opens binder (also (doc text s) rest) b = stop_here (table.for_move binder) (also (doc text s) rest) b (λ x d o. refl)
for_opens binder (also (group Parenthesis s inside) rest) b = stop_here (table.for_move binder) (also (group Parenthesis s inside) rest) b (λ t i x d o. refl)
for_opens binder (also (group Bracket s inside) rest) b = stop_here (table.for_move binder) (also (group Bracket s inside) rest) b (λ t i x d o. refl)
for_opens binder (also (group Brace s inside) rest) b = stop_here (table.for_move binder) (also (group Brace s inside) rest) b (λ t i x d o. refl)
for_opens binder none b = stop_here (table.for_move binder) none b (λ d o. refl)

for_lifetime : (binder : Binder) (c : ℕ) (p : Spacing) (s : Span) (run : TokenList) (b : Option TokenList) → (c == 62) ≡ false → (c == 39) ≡ true → Local (table.for_list_move binder) (also (punctuation c p s) run) b (table.for_lifetime_move binder run b)
for_lifetime binder c p s (also (identifier text t) rest) b n e = take_two (table.for_list_move binder) (takes (other_lifetime text)) (punctuation c p s) (identifier text t) rest b (stage.ForEnd binder) (λ x d o h. rw (n, e) refl)
for_lifetime binder c p s (also (punctuation f q t) rest) b n e = stop_second (table.for_list_move binder) (punctuation c p s) (also (punctuation f q t) rest) b (λ x j d o. rw (n, e) refl)
for_lifetime binder c p s (also (literal text t) rest) b n e = stop_second (table.for_list_move binder) (punctuation c p s) (also (literal text t) rest) b (λ x d o. rw (n, e) refl)
for_lifetime binder c p s (also (doc text t) rest) b n e = stop_second (table.for_list_move binder) (punctuation c p s) (also (doc text t) rest) b (λ x d o. rw (n, e) refl)
for_lifetime binder c p s (also (group f t inside) rest) b n e = stop_second (table.for_list_move binder) (punctuation c p s) (also (group f t inside) rest) b (λ u i x d o. rw (n, e) refl)
for_lifetime binder c p s none b n e = stop_second (table.for_list_move binder) (punctuation c p s) none b (λ d o. rw (n, e) refl)

for_list : (binder : Binder) (run : TokenList) (b : Option TokenList) → Local (table.for_list_move binder) run b (table.for_list_move binder run b)
for_list binder (also (punctuation c p s) rest) b = either (Local (table.for_list_move binder) (also (punctuation c p s) rest) b) (c == 62) _ _
    (λ e. take_one (table.for_list_move binder) (takes (mark 62)) (punctuation c p s) rest b (after_for binder) (λ x d o h. rw e refl))
    (λ n. (either (Local (table.for_list_move binder) (also (punctuation c p s) rest) b) (c == 39) _ _
    (λ e. for_lifetime binder c p s rest b n e)
    (λ m. stop_here (table.for_list_move binder) (also (punctuation c p s) rest) b (λ x j d o. rw (n, m) refl))))
for_list binder (also (identifier text s) rest) b = stop_here (table.for_list_move binder) (also (identifier text s) rest) b (λ x d o. refl)
for_list binder (also (literal text s) rest) b = stop_here (table.for_list_move binder) (also (literal text s) rest) b (λ x d o. refl)
for_list binder (also (doc text s) rest) b = stop_here (table.for_list_move binder) (also (doc text s) rest) b (λ x d o. refl)
for_list binder (also (group Parenthesis s inside) rest) b = stop_here (table.for_list_move binder) (also (group Parenthesis s inside) rest) b (λ t i x d o. refl)
for_list binder (also (group Bracket s inside) rest) b = stop_here (table.for_list_move binder) (also (group Bracket s inside) rest) b (λ t i x d o. refl)
for_list binder (also (group Brace s inside) rest) b = stop_here (table.for_list_move binder) (also (group Brace s inside) rest) b (λ t i x d o. refl)
for_list binder none b = stop_here (table.for_list_move binder) none b (λ d o. refl)

for_end : (binder : Binder) (run : TokenList) (b : Option TokenList) → Local (table.for_end_move binder) run b (table.for_end_move binder run b)
for_end binder (also (punctuation c p s) rest) b = either (Local (table.for_end_move binder) (also (punctuation c p s) rest) b) (c == 44) _ _
    (λ e. take_one (table.for_end_move binder) (takes (mark 44)) (punctuation c p s) rest b (stage.ForList binder) (λ x d o h. rw e refl))
    (λ n0. (either (Local (table.for_end_move binder) (also (punctuation c p s) rest) b) (c == 62) _ _
    (λ e. take_one (table.for_end_move binder) (takes (mark 62)) (punctuation c p s) rest b (after_for binder) (λ x d o h. rw (n0, e) refl))
    (λ n1. stop_here (table.for_end_move binder) (also (punctuation c p s) rest) b (λ x j d o. rw (n0, n1) refl))))
for_end binder (also (identifier text s) rest) b = stop_here (table.for_end_move binder) (also (identifier text s) rest) b (λ x d o. refl)
for_end binder (also (literal text s) rest) b = stop_here (table.for_end_move binder) (also (literal text s) rest) b (λ x d o. refl)
for_end binder (also (doc text s) rest) b = stop_here (table.for_end_move binder) (also (doc text s) rest) b (λ x d o. refl)
for_end binder (also (group Parenthesis s inside) rest) b = stop_here (table.for_end_move binder) (also (group Parenthesis s inside) rest) b (λ t i x d o. refl)
for_end binder (also (group Bracket s inside) rest) b = stop_here (table.for_end_move binder) (also (group Bracket s inside) rest) b (λ t i x d o. refl)
for_end binder (also (group Brace s inside) rest) b = stop_here (table.for_end_move binder) (also (group Brace s inside) rest) b (λ t i x d o. refl)
for_end binder none b = stop_here (table.for_end_move binder) none b (λ d o. refl)

linked : (run : TokenList) (b : Option TokenList) → Local (table.linked_move) run b (table.linked_move run b)
linked (also (punctuation c p s) rest) b = stop_here (table.linked_move) (also (punctuation c p s) rest) b (λ x j d o. refl)
linked (also (identifier text s) rest) b = either (Local (table.linked_move) (also (identifier text s) rest) b) (bytes_eq text (codes "fn")) _ _
    (λ e. take_one (table.linked_move) (takes (word text)) (identifier text s) rest b stage.Function (λ x d o h. rw e refl))
    (λ n0. stop_here (table.linked_move) (also (identifier text s) rest) b (λ x d o. rw n0 refl))
linked (also (literal text s) rest) b = stop_here (table.linked_move) (also (literal text s) rest) b (λ x d o. refl)
linked (also (doc text s) rest) b = stop_here (table.linked_move) (also (doc text s) rest) b (λ x d o. refl)
linked (also (group Parenthesis s inside) rest) b = stop_here (table.linked_move) (also (group Parenthesis s inside) rest) b (λ t i x d o. refl)
linked (also (group Bracket s inside) rest) b = stop_here (table.linked_move) (also (group Bracket s inside) rest) b (λ t i x d o. refl)
linked (also (group Brace s inside) rest) b = stop_here (table.linked_move) (also (group Brace s inside) rest) b (λ t i x d o. refl)
linked none b = stop_here (table.linked_move) none b (λ d o. refl)

not_safe : (run : TokenList) (b : Option TokenList) → Local (table.unsafe_move) run b (table.unsafe_move run b)
not_safe (also (punctuation c p s) rest) b = stop_here (table.unsafe_move) (also (punctuation c p s) rest) b (λ x j d o. refl)
not_safe (also (identifier text s) rest) b = either (Local (table.unsafe_move) (also (identifier text s) rest) b) (bytes_eq text (codes "extern")) _ _
    (λ e. take_one (table.unsafe_move) (takes (word text)) (identifier text s) rest b stage.Extern (λ x d o h. rw e refl))
    (λ n0. either (Local (table.unsafe_move) (also (identifier text s) rest) b) (bytes_eq text (codes "fn")) _ _
    (λ e. take_one (table.unsafe_move) (takes (word text)) (identifier text s) rest b stage.Function (λ x d o h. rw (n0, e) refl))
    (λ n1. stop_here (table.unsafe_move) (also (identifier text s) rest) b (λ x d o. rw (n0, n1) refl)))
not_safe (also (literal text s) rest) b = stop_here (table.unsafe_move) (also (literal text s) rest) b (λ x d o. refl)
not_safe (also (doc text s) rest) b = stop_here (table.unsafe_move) (also (doc text s) rest) b (λ x d o. refl)
not_safe (also (group Parenthesis s inside) rest) b = stop_here (table.unsafe_move) (also (group Parenthesis s inside) rest) b (λ t i x d o. refl)
not_safe (also (group Bracket s inside) rest) b = stop_here (table.unsafe_move) (also (group Bracket s inside) rest) b (λ t i x d o. refl)
not_safe (also (group Brace s inside) rest) b = stop_here (table.unsafe_move) (also (group Brace s inside) rest) b (λ t i x d o. refl)
not_safe none b = stop_here (table.unsafe_move) none b (λ d o. refl)

qualified : (run : TokenList) (b : Option TokenList) → Local (table.qualified_move) run b (table.qualified_move run b)
qualified (also (punctuation c p s) rest) b = stop_here (table.qualified_move) (also (punctuation c p s) rest) b (λ x j d o. refl)
qualified (also (identifier text s) rest) b = either (Local (table.qualified_move) (also (identifier text s) rest) b) (bytes_eq text (codes "unsafe")) _ _
    (λ e. take_one (table.qualified_move) (takes (word text)) (identifier text s) rest b stage.Unsafe (λ x d o h. rw e refl))
    (λ n0. either (Local (table.qualified_move) (also (identifier text s) rest) b) (bytes_eq text (codes "extern")) _ _
    (λ e. take_one (table.qualified_move) (takes (word text)) (identifier text s) rest b stage.Extern (λ x d o h. rw (n0, e) refl))
    (λ n1. either (Local (table.qualified_move) (also (identifier text s) rest) b) (bytes_eq text (codes "fn")) _ _
    (λ e. take_one (table.qualified_move) (takes (word text)) (identifier text s) rest b stage.Function (λ x d o h. rw (n0, n1, e) refl))
    (λ n2. stop_here (table.qualified_move) (also (identifier text s) rest) b (λ x d o. rw (n0, n1, n2) refl))))
qualified (also (literal text s) rest) b = stop_here (table.qualified_move) (also (literal text s) rest) b (λ x d o. refl)
qualified (also (doc text s) rest) b = stop_here (table.qualified_move) (also (doc text s) rest) b (λ x d o. refl)
qualified (also (group Parenthesis s inside) rest) b = stop_here (table.qualified_move) (also (group Parenthesis s inside) rest) b (λ t i x d o. refl)
qualified (also (group Bracket s inside) rest) b = stop_here (table.qualified_move) (also (group Bracket s inside) rest) b (λ t i x d o. refl)
qualified (also (group Brace s inside) rest) b = stop_here (table.qualified_move) (also (group Brace s inside) rest) b (λ t i x d o. refl)
qualified none b = stop_here (table.qualified_move) none b (λ d o. refl)

extern_next : (run : TokenList) (b : Option TokenList) → Local (table.extern_move) run b (table.extern_move run b)
extern_next (also (punctuation c p s) rest) b = stop_here (table.extern_move) (also (punctuation c p s) rest) b (λ x j d o. refl)
extern_next (also (identifier text s) rest) b = either (Local (table.extern_move) (also (identifier text s) rest) b) (bytes_eq text (codes "fn")) _ _
    (λ e. take_one (table.extern_move) (takes (word text)) (identifier text s) rest b stage.Function (λ x d o h. rw e refl))
    (λ n0. stop_here (table.extern_move) (also (identifier text s) rest) b (λ x d o. rw n0 refl))
extern_next (also (literal text s) rest) b = take_one (table.extern_move) (takes (value text)) (literal text s) rest b stage.Linked (λ x d o h. refl)
extern_next (also (doc text s) rest) b = stop_here (table.extern_move) (also (doc text s) rest) b (λ x d o. refl)
extern_next (also (group Parenthesis s inside) rest) b = stop_here (table.extern_move) (also (group Parenthesis s inside) rest) b (λ t i x d o. refl)
extern_next (also (group Bracket s inside) rest) b = stop_here (table.extern_move) (also (group Bracket s inside) rest) b (λ t i x d o. refl)
extern_next (also (group Brace s inside) rest) b = stop_here (table.extern_move) (also (group Brace s inside) rest) b (λ t i x d o. refl)
extern_next none b = stop_here (table.extern_move) none b (λ d o. refl)

function : (run : TokenList) (b : Option TokenList) → Local (table.function_move) run b (table.function_move run b)
function (also (punctuation c p s) rest) b = stop_here (table.function_move) (also (punctuation c p s) rest) b (λ x j d o. refl)
function (also (identifier text s) rest) b = stop_here (table.function_move) (also (identifier text s) rest) b (λ x d o. refl)
function (also (literal text s) rest) b = stop_here (table.function_move) (also (literal text s) rest) b (λ x d o. refl)
function (also (doc text s) rest) b = stop_here (table.function_move) (also (doc text s) rest) b (λ x d o. refl)
function (also (group Parenthesis s inside) rest) b = opened (table.function_move) Parenthesis s stage.Taken inside rest b (λ t i x d. refl)
function (also (group Bracket s inside) rest) b = stop_here (table.function_move) (also (group Bracket s inside) rest) b (λ t i x d o. refl)
function (also (group Brace s inside) rest) b = stop_here (table.function_move) (also (group Brace s inside) rest) b (λ t i x d o. refl)
function none b = stop_here (table.function_move) none b (λ d o. refl)

taken_value : (run : TokenList) (b : Option TokenList) → Local (table.taken_value) run b (table.taken_value run b)
taken_value (also (punctuation c p s) rest) b = either (Local (table.taken_value) (also (punctuation c p s) rest) b) (begins_dots (also (punctuation c p s) rest)) _ _
    (λ e. take_dots (table.taken_value) (bars (mark 46)) c p s rest b stage.Variadic e (λ t u x d o g. rw g refl))
    (λ n. λ x j d o. rw (dots_after c p s rest x j, n) refl)
taken_value (also (identifier text s) rest) b = λ x h d o. refl
taken_value (also (literal text s) rest) b = λ x d o. refl
taken_value (also (doc text s) rest) b = λ x d o. refl
taken_value (also (group Parenthesis s inside) rest) b = λ t i x d o. refl
taken_value (also (group Bracket s inside) rest) b = λ t i x d o. refl
taken_value (also (group Brace s inside) rest) b = λ t i x d o. refl
taken_value none b = λ d o. refl

taken : (run : TokenList) (b : Option TokenList) → Local (table.taken_move) run b (table.taken_move run b)
taken (also (punctuation c p s) rest) b = either (Local (table.taken_move) (also (punctuation c p s) rest) b) (begins_dots (also (punctuation c p s) rest)) _ _
    (λ e. take_dots (table.taken_move) (bars (mark 46)) c p s rest b stage.Variadic e (λ t u x d o g. rw g refl))
    (λ n. λ x j d o. rw (dots_after c p s rest x j, n) refl)
taken (also (identifier text s) rest) b = either (Local (table.taken_move) (also (identifier text s) rest) b) (typing rest) _ _
    (λ e. take_one (table.taken_move) (takes (word text)) (identifier text s) rest b stage.Typed (λ x d o h. rw (typing_same h, e) refl))
    (λ n. λ x h d o. rw (typing_same h, n) refl)
taken (also (literal text s) rest) b = λ x d o. refl
taken (also (doc text s) rest) b = λ x d o. refl
taken (also (group Parenthesis s inside) rest) b = λ t i x d o. refl
taken (also (group Bracket s inside) rest) b = λ t i x d o. refl
taken (also (group Brace s inside) rest) b = λ t i x d o. refl
taken none b = closed (table.taken_move) Parenthesis stage.Output b (λ d. refl)

typed : (run : TokenList) (b : Option TokenList) → Local (table.typed_move) run b (table.typed_move run b)
typed (also (punctuation c p s) rest) b = either (Local (table.typed_move) (also (punctuation c p s) rest) b) (c == 58) _ _
    (λ e. take_one (table.typed_move) (takes (mark 58)) (punctuation c p s) rest b stage.TypedValue (λ x d o h. rw e refl))
    (λ n0. stop_here (table.typed_move) (also (punctuation c p s) rest) b (λ x j d o. rw n0 refl))
typed (also (identifier text s) rest) b = stop_here (table.typed_move) (also (identifier text s) rest) b (λ x d o. refl)
typed (also (literal text s) rest) b = stop_here (table.typed_move) (also (literal text s) rest) b (λ x d o. refl)
typed (also (doc text s) rest) b = stop_here (table.typed_move) (also (doc text s) rest) b (λ x d o. refl)
typed (also (group Parenthesis s inside) rest) b = stop_here (table.typed_move) (also (group Parenthesis s inside) rest) b (λ t i x d o. refl)
typed (also (group Bracket s inside) rest) b = stop_here (table.typed_move) (also (group Bracket s inside) rest) b (λ t i x d o. refl)
typed (also (group Brace s inside) rest) b = stop_here (table.typed_move) (also (group Brace s inside) rest) b (λ t i x d o. refl)
typed none b = stop_here (table.typed_move) none b (λ d o. refl)

one_taken : (run : TokenList) (b : Option TokenList) → Local (table.one_taken_move) run b (table.one_taken_move run b)
one_taken (also (punctuation c p s) rest) b = either (Local (table.one_taken_move) (also (punctuation c p s) rest) b) (c == 44) _ _
    (λ e. take_one (table.one_taken_move) (takes (mark 44)) (punctuation c p s) rest b stage.Taken (λ x d o h. rw e refl))
    (λ n0. stop_here (table.one_taken_move) (also (punctuation c p s) rest) b (λ x j d o. rw n0 refl))
one_taken (also (identifier text s) rest) b = stop_here (table.one_taken_move) (also (identifier text s) rest) b (λ x d o. refl)
one_taken (also (literal text s) rest) b = stop_here (table.one_taken_move) (also (literal text s) rest) b (λ x d o. refl)
one_taken (also (doc text s) rest) b = stop_here (table.one_taken_move) (also (doc text s) rest) b (λ x d o. refl)
one_taken (also (group Parenthesis s inside) rest) b = stop_here (table.one_taken_move) (also (group Parenthesis s inside) rest) b (λ t i x d o. refl)
one_taken (also (group Bracket s inside) rest) b = stop_here (table.one_taken_move) (also (group Bracket s inside) rest) b (λ t i x d o. refl)
one_taken (also (group Brace s inside) rest) b = stop_here (table.one_taken_move) (also (group Brace s inside) rest) b (λ t i x d o. refl)
one_taken none b = closed (table.one_taken_move) Parenthesis stage.Output b (λ d. refl)

variadic : (run : TokenList) (b : Option TokenList) → Local (table.variadic_move) run b (table.variadic_move run b)
variadic (also (punctuation c p s) rest) b = either (Local (table.variadic_move) (also (punctuation c p s) rest) b) (c == 44) _ _
    (λ e. take_one (table.variadic_move) (takes (mark 44)) (punctuation c p s) rest b stage.VariadicEnd (λ x d o h. rw e refl))
    (λ n0. stop_here (table.variadic_move) (also (punctuation c p s) rest) b (λ x j d o. rw n0 refl))
variadic (also (identifier text s) rest) b = stop_here (table.variadic_move) (also (identifier text s) rest) b (λ x d o. refl)
variadic (also (literal text s) rest) b = stop_here (table.variadic_move) (also (literal text s) rest) b (λ x d o. refl)
variadic (also (doc text s) rest) b = stop_here (table.variadic_move) (also (doc text s) rest) b (λ x d o. refl)
variadic (also (group Parenthesis s inside) rest) b = stop_here (table.variadic_move) (also (group Parenthesis s inside) rest) b (λ t i x d o. refl)
variadic (also (group Bracket s inside) rest) b = stop_here (table.variadic_move) (also (group Bracket s inside) rest) b (λ t i x d o. refl)
variadic (also (group Brace s inside) rest) b = stop_here (table.variadic_move) (also (group Brace s inside) rest) b (λ t i x d o. refl)
variadic none b = closed (table.variadic_move) Parenthesis stage.Output b (λ d. refl)

variadic_end : (run : TokenList) (b : Option TokenList) → Local (table.variadic_end_move) run b (table.variadic_end_move run b)
variadic_end (also (punctuation c p s) rest) b = stop_here (table.variadic_end_move) (also (punctuation c p s) rest) b (λ x j d o. refl)
variadic_end (also (identifier text s) rest) b = stop_here (table.variadic_end_move) (also (identifier text s) rest) b (λ x d o. refl)
variadic_end (also (literal text s) rest) b = stop_here (table.variadic_end_move) (also (literal text s) rest) b (λ x d o. refl)
variadic_end (also (doc text s) rest) b = stop_here (table.variadic_end_move) (also (doc text s) rest) b (λ x d o. refl)
variadic_end (also (group Parenthesis s inside) rest) b = stop_here (table.variadic_end_move) (also (group Parenthesis s inside) rest) b (λ t i x d o. refl)
variadic_end (also (group Bracket s inside) rest) b = stop_here (table.variadic_end_move) (also (group Bracket s inside) rest) b (λ t i x d o. refl)
variadic_end (also (group Brace s inside) rest) b = stop_here (table.variadic_end_move) (also (group Brace s inside) rest) b (λ t i x d o. refl)
variadic_end none b = closed (table.variadic_end_move) Parenthesis stage.Output b (λ d. refl)

-- each move of the table
pub moves_local : (p : Stage) (run : TokenList) (b : Option TokenList) → Local (next_at p) run b (next_at p run b)
unfolding next_at
moves_local stage.End run b = ends_any (next_at stage.End) run b (λ x c o. refl)
moves_local (stage.Named kind) run b = named kind run b
moves_local (stage.Segments kind) run b = segments kind run b
moves_local (stage.Colons kind arguments) run b = colons_next kind arguments run b
moves_local (stage.Arguments kind) run b = arguments kind run b
moves_local (stage.Equals kind) run b = equals kind run b
moves_local (stage.Value kind) run b = needs_any (next_at (stage.Value kind)) run b true (stage.ArgumentEnd kind) (λ x c. refl)
moves_local (stage.Constrained kind) run b = constrained kind run b
moves_local (stage.Braced kind) run b = braced kind run b
moves_local (stage.ArgumentEnd kind) run b = argument_end kind run b
moves_local stage.Macro run b = macro_group run b
moves_local stage.Inputs run b = inputs run b
moves_local stage.InputEnd run b = input_end run b
moves_local stage.Output run b = output run b
moves_local stage.SelfType run b = λ x c. refl
moves_local stage.SelfEnd run b = self_end run b
moves_local stage.SelfTrait run b = path OfType stage.SelfTraitEnd run b
moves_local stage.SelfTraitEnd run b = self_trait_end run b
moves_local stage.SelfClosed run b = self_closed run b
moves_local stage.Referent run b = referent run b
moves_local stage.Pointer run b = pointer run b
moves_local stage.Target run b = needs_any (next_at stage.Target) run b false stage.End (λ x c. refl)
moves_local stage.List run b = list run b
moves_local stage.ListEnd run b = list_end run b
moves_local stage.Element run b = needs_any (next_at stage.Element) run b true stage.ElementEnd (λ x c. refl)
moves_local stage.ElementEnd run b = element_end run b
moves_local stage.Length run b = length run b
moves_local stage.LengthEnd run b = closed_any (next_at stage.LengthEnd) Bracket stage.End run b (λ x c. refl)
moves_local (stage.Bound plus) run b = bound plus run b
moves_local (stage.Question plus) run b = question (Enclosed plus) run b
moves_local (stage.Trait kind) run b = trait kind run b
moves_local (stage.TraitPath kind) run b = path OfBound (after_bound kind) run b
moves_local (stage.BoundEnd plus) run b = bound_end plus run b
moves_local stage.Further run b = further run b
moves_local (stage.EnclosedEnd plus) run b = enclosed_end plus run b
moves_local (stage.For binder) run b = for_opens binder run b
moves_local (stage.ForList binder) run b = for_list binder run b
moves_local (stage.ForEnd binder) run b = for_end binder run b
moves_local stage.Qualified run b = qualified run b
moves_local stage.Unsafe run b = not_safe run b
moves_local stage.Extern run b = extern_next run b
moves_local stage.Linked run b = linked run b
moves_local stage.Function run b = function run b
moves_local stage.Taken run b = taken run b
moves_local stage.Typed run b = typed run b
moves_local stage.TypedValue run b = taken_value run b
moves_local stage.OneTaken run b = one_taken run b
moves_local stage.Variadic run b = variadic run b
moves_local stage.VariadicEnd run b = variadic_end run b
