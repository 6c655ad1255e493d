-- Each move of the table continues after where it was, with less left.
use Rattle.std.proofs.Common.{◌≡◌, ℕ, ◌<◌, ◌*◌, ◌==◌, ◌&&◌, ◌||◌, Bool, true, false, bytes_eq, codes, if◌then◌else◌, Option, Some, None, List, refl, ap, subst, ◌≤◌, arith}
use Rattle.logos_lexeme.specs.declared.lexeme.Span.{Span}
use Rattle.logos_lexeme.specs.declared.lexeme.Spacing.{Spacing}
use Rattle.logos_lexeme.specs.declared.lexeme.Spacing.TheVariants.{Joint}
use Rattle.logos_lexeme.specs.declared.lexeme.Delimiter.{Delimiter}
use Rattle.logos_lexeme.specs.declared.lexeme.Delimiter.TheVariants.{Parenthesis, Bracket, Brace}
use Rattle.logos_token.specs.Tokens.{Token, TokenList, identifier, punctuation, literal, doc, group, none, also, append, IsRestOf, count_of, token_count}
use Rattle.logos_type_reader.specs.declared.table.stage.PathKind.{PathKind}
use Rattle.logos_type_reader.specs.declared.table.stage.PathKind.TheVariants.{Plain, OfType, OfBound}
use Rattle.logos_type_reader.specs.declared.table.stage.BoundKind.{BoundKind}
use Rattle.logos_type_reader.specs.declared.table.stage.BoundKind.TheVariants.{Listed, Enclosed}
use Rattle.logos_type_reader.specs.declared.table.stage.Binder.{Binder}
use Rattle.logos_type_reader.specs.declared.table.stage.Binder.TheVariants.{OfTrait}
use Rattle.logos_type_reader.specs.declared.table.stage.Stage.{Stage}
use Rattle.logos_type_reader.specs.declared.table.stage.Stage.TheVariants as stage
use Rattle.logos_type.specs.Parts.{Sign}
use Rattle.logos_type_reader.specs.Table as table
use Rattle.logos_type_reader.specs.Table.{Spot, outer, Move, takes, bars, keeps, nests, First, starts, refused, to, next_at, begin, begins_colons, begins_arrow, begins_dots, after_two, after_three, closes, opens}
use Rattle.logos_type_reader.specs.ReadingViews.{left}

-- a spot is after the run
pub record Onward (run : TokenList) (outside : Option TokenList) (spot : Spot) : Type 0 where
  pub rest : IsRestOf (outer run outside) (outer spot.run spot.outside)
  pub less : left spot.run spot.outside < left run outside

-- the tokens of a path or bounds inside come after the start of the run
pub record Inward (run : TokenList) (spot : Spot) : Type 0 where
  pub rest : IsRestOf run spot.run
  pub less : count_of spot.run < count_of run
  pub alone : spot.outside ≡ None

abbrev pub Moves : TokenList → Option TokenList → Move → Type 0
Moves run outside (takes s spot) = Onward run outside spot
Moves run outside (bars s spot) = Onward run outside spot
Moves run outside (keeps taken spot) = Onward run outside spot
Moves run outside (nests s spot p) = Inward run spot
Moves run outside m = Unit {0}

-- both branches
either : (F : Move → Type 0) (b : Bool) (m n : Move) → (b ≡ true → F m) → (b ≡ false → F n) → F (if b then m else n)
either F true m n f g = f refl
either F false m n f g = g refl

pub one_token : (t : Token) → 1 ≤ token_count t
one_token (identifier text s) = omega arith
one_token (punctuation c p s) = omega arith
one_token (literal text s) = omega arith
one_token (doc text s) = omega arith
one_token (group d s inside) = omega arith

self_rest : (run : TokenList) → IsRestOf run run
self_rest run = record { front = none; is = refl }

first_rest : (t : Token) (rest : TokenList) → IsRestOf (also t rest) rest
first_rest t rest = record { front = also t none; is = refl }

-- after the first token
after_one : (t : Token) (rest : TokenList) (outside : Option TokenList) (p : Stage) → Onward (also t rest) outside (to p rest outside)
after_one t rest None p = record { rest = first_rest t rest; less = omega (arith, one_token t) }
after_one t rest (Some after) p = record { rest = self_rest after; less = omega (arith, one_token t) }

within_one : (t : Token) (rest : TokenList) (p : Stage) → Inward (also t rest) (to p rest None)
within_one t rest p = record { rest = first_rest t rest; less = omega (arith, one_token t); alone = refl }

-- after two tokens
after_two_tokens : (t u : Token) (rest : TokenList) (outside : Option TokenList) (p : Stage) → Onward (also t (also u rest)) outside (to p rest outside)
after_two_tokens t u rest None p = record { rest = record { front = also t (also u none); is = refl }; less = omega (arith, one_token t) }
after_two_tokens t u rest (Some after) p = record { rest = self_rest after; less = omega (arith, one_token t) }

within_two : (t u : Token) (rest : TokenList) (p : Stage) → Inward (also t (also u rest)) (to p rest None)
within_two t u rest p = record { rest = record { front = also t (also u none); is = refl }; less = omega (arith, one_token t); alone = refl }

after_three_tokens : (t u v : Token) (rest : TokenList) (outside : Option TokenList) (p : Stage) → Onward (also t (also u (also v rest))) outside (to p rest outside)
after_three_tokens t u v rest None p = record { rest = record { front = also t (also u (also v none)); is = refl }; less = omega (arith, one_token t) }
after_three_tokens t u v rest (Some after) p = record { rest = self_rest after; less = omega (arith, one_token t) }

after_colons : (run : TokenList) (outside : Option TokenList) (p : Stage) → begins_colons run ≡ true → Onward run outside (to p (after_two run) outside)
after_colons (also (punctuation c Joint s) (also (punctuation d q t) rest)) outside p e = after_two_tokens (punctuation c Joint s) (punctuation d q t) rest outside p
after_colons run outside p e = cc

within_colons : (run : TokenList) (p : Stage) → begins_colons run ≡ true → Inward run (to p (after_two run) None)
within_colons (also (punctuation c Joint s) (also (punctuation d q t) rest)) p e = within_two (punctuation c Joint s) (punctuation d q t) rest p
within_colons run p e = cc

after_arrow : (run : TokenList) (outside : Option TokenList) (p : Stage) → begins_arrow run ≡ true → Onward run outside (to p (after_two run) outside)
after_arrow (also (punctuation c Joint s) (also (punctuation d q t) rest)) outside p e = after_two_tokens (punctuation c Joint s) (punctuation d q t) rest outside p
after_arrow run outside p e = cc

after_dots : (run : TokenList) (outside : Option TokenList) (p : Stage) → begins_dots run ≡ true → Onward run outside (to p (after_three run) outside)
after_dots (also (punctuation c Joint s) (also (punctuation d Joint t) (also (punctuation f q u) rest))) outside p e =
    after_three_tokens (punctuation c Joint s) (punctuation d Joint t) (punctuation f q u) rest outside p
after_dots run outside p e = cc

all_kept : (t : Token) (rest : TokenList) (outside : Option TokenList) (p : Stage) → Onward (also t rest) outside (to p none outside)
all_kept t rest None p = record { rest = record { front = also t rest; is = whole_front t rest }; less = omega (arith, one_token t) }
  where
    end : (run : TokenList) → run ≡ append run none
    end none = refl
    end (also u more) = ap (λ (x : TokenList). also u x) (end more)

    whole_front : (t : Token) (rest : TokenList) → also t rest ≡ append (also t rest) none
    whole_front t rest = ap (λ (x : TokenList). also t x) (end rest)
all_kept t rest (Some after) p = record { rest = self_rest after; less = omega (arith, one_token t) }

closed : (d : Delimiter) (next : Stage) (run : TokenList) (outside : Option TokenList) → Moves run outside (closes d next outside)
closed d next run None = tt
closed d next run (Some after) = record { rest = self_rest after; less = omega arith }

opened : (d : Delimiter) (s : Span) (next : Stage) (inside rest : TokenList) (outside : Option TokenList) → Moves (also (group d s inside) rest) outside (opens d s next inside rest outside)
opened d s next inside rest None = record { rest = first_rest (group d s inside) rest; less = omega arith }
opened d s next inside rest (Some after) = tt

name_end : (kind : PathKind) (run : TokenList) (b : Option TokenList) → Moves run b (table.name_end kind run b)
name_end Plain (also (punctuation c p s) rest) b = either (Moves (also (punctuation c p s) rest) b) (c == 33) _ _ (λ e. after_one (punctuation c p s) rest b stage.Macro) (λ n. tt)
name_end Plain (also (identifier text s) rest) b = tt
name_end Plain (also (literal text s) rest) b = tt
name_end Plain (also (doc text s) rest) b = tt
name_end Plain (also (group d s inside) rest) b = tt
name_end Plain none b = tt
name_end OfType run b = tt
name_end OfBound run b = tt

segments : (kind : PathKind) (run : TokenList) (b : Option TokenList) → Moves run b (table.segments_move kind run b)
segments kind run b = either (Moves run b) (begins_colons run) _ _ (λ e. after_colons run b (stage.Colons kind false) e) (λ n. tt)

named : (kind : PathKind) (run : TokenList) (b : Option TokenList) → Moves run b (table.named_move kind run b)
named kind (also (punctuation c p s) rest) b = either (Moves (also (punctuation c p s) rest) b) (c == 60) _ _ (λ e. after_one (punctuation c p s) rest b (stage.Arguments (table.argued kind))) (λ n. either (Moves (also (punctuation c p s) rest) b) (begins_colons (also (punctuation c p s) rest)) _ _ (λ e. after_colons (also (punctuation c p s) rest) b (stage.Colons kind true) e) (λ n. name_end kind (also (punctuation c p s) rest) b))
named kind (also (identifier text s) rest) b = tt
named kind (also (literal text s) rest) b = tt
named kind (also (doc text s) rest) b = tt
named kind (also (group Parenthesis s inside) rest) b = opened Parenthesis s stage.Inputs inside rest b
named kind (also (group Bracket s inside) rest) b = tt
named kind (also (group Brace s inside) rest) b = tt
named kind none b = tt

macro_group : (run : TokenList) (b : Option TokenList) → Moves run b (table.macro_move run b)
macro_group (also (punctuation c p s) rest) b = tt
macro_group (also (identifier text s) rest) b = tt
macro_group (also (literal text s) rest) b = tt
macro_group (also (doc text s) rest) b = tt
macro_group (also (group Parenthesis s inside) rest) b = after_one (group Parenthesis s inside) rest b stage.End
macro_group (also (group Bracket s inside) rest) b = after_one (group Bracket s inside) rest b stage.End
macro_group (also (group Brace s inside) rest) b = after_one (group Brace s inside) rest b stage.End
macro_group none b = tt

output : (run : TokenList) (b : Option TokenList) → Moves run b (table.output_move run b)
output run b = either (Moves run b) (begins_arrow run) _ _ (λ e. after_arrow run b stage.Target e) (λ n. tt)

inputs : (run : TokenList) (b : Option TokenList) → Moves run b (table.inputs_move run b)
inputs (also (punctuation c p s) rest) b = tt
inputs (also (identifier text s) rest) b = tt
inputs (also (literal text s) rest) b = tt
inputs (also (doc text s) rest) b = tt
inputs (also (group Parenthesis s inside) rest) b = tt
inputs (also (group Bracket s inside) rest) b = tt
inputs (also (group Brace s inside) rest) b = tt
inputs none b = closed Parenthesis stage.Output none b

input_end : (run : TokenList) (b : Option TokenList) → Moves run b (table.input_end_move run b)
input_end (also (punctuation c p s) rest) b = either (Moves (also (punctuation c p s) rest) b) (c == 44) _ _ (λ e. after_one (punctuation c p s) rest b stage.Inputs) (λ n. tt)
input_end (also (identifier text s) rest) b = tt
input_end (also (literal text s) rest) b = tt
input_end (also (doc text s) rest) b = tt
input_end (also (group Parenthesis s inside) rest) b = tt
input_end (also (group Bracket s inside) rest) b = tt
input_end (also (group Brace s inside) rest) b = tt
input_end none b = closed Parenthesis stage.Output none b

colons_next : (kind : PathKind) (may : Bool) (run : TokenList) (b : Option TokenList) → Moves run b (table.colons_move kind may run b)
colons_next kind may (also (punctuation c p s) rest) b = either (Moves (also (punctuation c p s) rest) b) (may && (c == 60)) _ _ (λ e. after_one (punctuation c p s) rest b (stage.Arguments (table.argued kind))) (λ n. tt)
colons_next kind may (also (identifier text s) rest) b = after_one (identifier text s) rest b (stage.Named kind)
colons_next kind may (also (literal text s) rest) b = tt
colons_next kind may (also (doc text s) rest) b = tt
colons_next kind may (also (group Parenthesis s inside) rest) b = tt
colons_next kind may (also (group Bracket s inside) rest) b = tt
colons_next kind may (also (group Brace s inside) rest) b = tt
colons_next kind may none b = tt

lifetime : (kind : PathKind) (c : ℕ) (p : Spacing) (s : Span) (run : TokenList) (b : Option TokenList) → Moves (also (punctuation c p s) run) b (table.lifetime_move kind run b)
lifetime kind c p s (also (identifier text t) rest) b = after_two_tokens (punctuation c p s) (identifier text t) rest b (stage.ArgumentEnd kind)
lifetime kind c p s (also (punctuation d q t) rest) b = tt
lifetime kind c p s (also (literal text t) rest) b = tt
lifetime kind c p s (also (doc text t) rest) b = tt
lifetime kind c p s (also (group d t inside) rest) b = tt
lifetime kind c p s none b = tt

argument_name : (kind : PathKind) (text : List ℕ) (s : Span) (rest : TokenList) (b : Option TokenList) → Moves (also (identifier text s) rest) b (table.argument_word kind text rest b)
argument_name kind text s rest b = either (Moves (also (identifier text s) rest) b) (table.begins_mark 61 rest) _ _ (λ e. after_one (identifier text s) rest b (stage.Equals kind))
    (λ n. either (Moves (also (identifier text s) rest) b) (table.typing rest) _ _ (λ e. after_one (identifier text s) rest b (stage.Constrained kind)) (λ m. tt))

arguments : (kind : PathKind) (run : TokenList) (b : Option TokenList) → Moves run b (table.arguments_move kind run b)
arguments kind (also (punctuation c p s) rest) b = either (Moves (also (punctuation c p s) rest) b) (c == 62) _ _ (λ e. after_one (punctuation c p s) rest b (stage.Segments kind)) (λ n. either (Moves (also (punctuation c p s) rest) b) (c == 39) _ _ (λ e. lifetime kind c p s rest b) (λ n. tt))
arguments kind (also (identifier text s) rest) b = argument_name kind text s rest b
arguments kind (also (literal text s) rest) b = after_one (literal text s) rest b (stage.ArgumentEnd kind)
arguments kind (also (doc text s) rest) b = tt
arguments kind (also (group Parenthesis s inside) rest) b = tt
arguments kind (also (group Bracket s inside) rest) b = tt
arguments kind (also (group Brace s inside) rest) b = opened Brace s (stage.Braced kind) inside rest b
arguments kind none b = tt

braced : (kind : PathKind) (run : TokenList) (b : Option TokenList) → Moves run b (table.braced_move kind run b)
braced kind (also (punctuation c p s) rest) b = all_kept (punctuation c p s) rest b (stage.Braced kind)
braced kind (also (identifier text s) rest) b = all_kept (identifier text s) rest b (stage.Braced kind)
braced kind (also (literal text s) rest) b = all_kept (literal text s) rest b (stage.Braced kind)
braced kind (also (doc text s) rest) b = all_kept (doc text s) rest b (stage.Braced kind)
braced kind (also (group Parenthesis s inside) rest) b = all_kept (group Parenthesis s inside) rest b (stage.Braced kind)
braced kind (also (group Bracket s inside) rest) b = all_kept (group Bracket s inside) rest b (stage.Braced kind)
braced kind (also (group Brace s inside) rest) b = all_kept (group Brace s inside) rest b (stage.Braced kind)
braced kind none b = closed Brace (stage.ArgumentEnd kind) none b

equals : (kind : PathKind) (run : TokenList) (b : Option TokenList) → Moves run b (table.equals_move kind run b)
equals kind (also (punctuation c p s) rest) b = either (Moves (also (punctuation c p s) rest) b) (c == 61) _ _ (λ e. after_one (punctuation c p s) rest b (stage.Value kind)) (λ n. tt)
equals kind (also (identifier text s) rest) b = tt
equals kind (also (literal text s) rest) b = tt
equals kind (also (doc text s) rest) b = tt
equals kind (also (group Parenthesis s inside) rest) b = tt
equals kind (also (group Bracket s inside) rest) b = tt
equals kind (also (group Brace s inside) rest) b = tt
equals kind none b = tt

constrained : (kind : PathKind) (run : TokenList) (b : Option TokenList) → Moves run b (table.constrained_move kind run b)
constrained kind (also (punctuation c p s) rest) b = either (Moves (also (punctuation c p s) rest) b) (c == 58) _ _ (λ e. within_one (punctuation c p s) rest (stage.Bound true)) (λ n. tt)
constrained kind (also (identifier text s) rest) b = tt
constrained kind (also (literal text s) rest) b = tt
constrained kind (also (doc text s) rest) b = tt
constrained kind (also (group Parenthesis s inside) rest) b = tt
constrained kind (also (group Bracket s inside) rest) b = tt
constrained kind (also (group Brace s inside) rest) b = tt
constrained kind none b = tt

argument_end : (kind : PathKind) (run : TokenList) (b : Option TokenList) → Moves run b (table.argument_end_move kind run b)
argument_end kind (also (punctuation c p s) rest) b = either (Moves (also (punctuation c p s) rest) b) (c == 44) _ _ (λ e. after_one (punctuation c p s) rest b (stage.Arguments kind)) (λ n. either (Moves (also (punctuation c p s) rest) b) (c == 62) _ _ (λ e. after_one (punctuation c p s) rest b (stage.Segments kind)) (λ n. tt))
argument_end kind (also (identifier text s) rest) b = tt
argument_end kind (also (literal text s) rest) b = tt
argument_end kind (also (doc text s) rest) b = tt
argument_end kind (also (group Parenthesis s inside) rest) b = tt
argument_end kind (also (group Bracket s inside) rest) b = tt
argument_end kind (also (group Brace s inside) rest) b = tt
argument_end kind none b = tt

referent : (run : TokenList) (b : Option TokenList) → Moves run b (table.referent_move run b)
referent (also (punctuation c p s) rest) b = tt
referent (also (identifier text s) rest) b = either (Moves (also (identifier text s) rest) b) (bytes_eq text (codes "mut")) _ _ (λ e. after_one (identifier text s) rest b stage.Target) (λ n. tt)
referent (also (literal text s) rest) b = tt
referent (also (doc text s) rest) b = tt
referent (also (group Parenthesis s inside) rest) b = tt
referent (also (group Bracket s inside) rest) b = tt
referent (also (group Brace s inside) rest) b = tt
referent none b = tt

pointer : (run : TokenList) (b : Option TokenList) → Moves run b (table.pointer_move run b)
pointer (also (punctuation c p s) rest) b = tt
pointer (also (identifier text s) rest) b = either (Moves (also (identifier text s) rest) b) (bytes_eq text (codes "const") || bytes_eq text (codes "mut")) _ _ (λ e. after_one (identifier text s) rest b stage.Target) (λ n. tt)
pointer (also (literal text s) rest) b = tt
pointer (also (doc text s) rest) b = tt
pointer (also (group Parenthesis s inside) rest) b = tt
pointer (also (group Bracket s inside) rest) b = tt
pointer (also (group Brace s inside) rest) b = tt
pointer none b = tt

list : (run : TokenList) (b : Option TokenList) → Moves run b (table.list_move run b)
list (also (punctuation c p s) rest) b = tt
list (also (identifier text s) rest) b = tt
list (also (literal text s) rest) b = tt
list (also (doc text s) rest) b = tt
list (also (group Parenthesis s inside) rest) b = tt
list (also (group Bracket s inside) rest) b = tt
list (also (group Brace s inside) rest) b = tt
list none b = closed Parenthesis stage.End none b

list_end : (run : TokenList) (b : Option TokenList) → Moves run b (table.list_end_move run b)
list_end (also (punctuation c p s) rest) b = either (Moves (also (punctuation c p s) rest) b) (c == 44) _ _ (λ e. after_one (punctuation c p s) rest b stage.List) (λ n. tt)
list_end (also (identifier text s) rest) b = tt
list_end (also (literal text s) rest) b = tt
list_end (also (doc text s) rest) b = tt
list_end (also (group Parenthesis s inside) rest) b = tt
list_end (also (group Bracket s inside) rest) b = tt
list_end (also (group Brace s inside) rest) b = tt
list_end none b = closed Parenthesis stage.End none b

element_end : (run : TokenList) (b : Option TokenList) → Moves run b (table.element_end_move run b)
element_end (also (punctuation c p s) rest) b = either (Moves (also (punctuation c p s) rest) b) (c == 59) _ _ (λ e. after_one (punctuation c p s) rest b stage.Length) (λ n. tt)
element_end (also (identifier text s) rest) b = tt
element_end (also (literal text s) rest) b = tt
element_end (also (doc text s) rest) b = tt
element_end (also (group Parenthesis s inside) rest) b = tt
element_end (also (group Bracket s inside) rest) b = tt
element_end (also (group Brace s inside) rest) b = tt
element_end none b = closed Bracket stage.End none b

length : (run : TokenList) (b : Option TokenList) → Moves run b (table.length_move run b)
length (also (punctuation c p s) rest) b = all_kept (punctuation c p s) rest b stage.LengthEnd
length (also (identifier text s) rest) b = all_kept (identifier text s) rest b stage.LengthEnd
length (also (literal text s) rest) b = all_kept (literal text s) rest b stage.LengthEnd
length (also (doc text s) rest) b = all_kept (doc text s) rest b stage.LengthEnd
length (also (group Parenthesis s inside) rest) b = all_kept (group Parenthesis s inside) rest b stage.LengthEnd
length (also (group Bracket s inside) rest) b = all_kept (group Bracket s inside) rest b stage.LengthEnd
length (also (group Brace s inside) rest) b = all_kept (group Brace s inside) rest b stage.LengthEnd
length none b = tt

self_end : (run : TokenList) (b : Option TokenList) → Moves run b (table.self_end_move run b)
self_end (also (punctuation c p s) rest) b = either (Moves (also (punctuation c p s) rest) b) (c == 62) _ _ (λ e. after_one (punctuation c p s) rest b stage.SelfClosed) (λ n. tt)
self_end (also (identifier text s) rest) b = either (Moves (also (identifier text s) rest) b) (bytes_eq text (codes "as")) _ _ (λ e. after_one (identifier text s) rest b stage.SelfTrait) (λ n. tt)
self_end (also (literal text s) rest) b = tt
self_end (also (doc text s) rest) b = tt
self_end (also (group Parenthesis s inside) rest) b = tt
self_end (also (group Bracket s inside) rest) b = tt
self_end (also (group Brace s inside) rest) b = tt
self_end none b = tt

path : (kind : PathKind) (next : Stage) (run : TokenList) (b : Option TokenList) → Moves run b (table.path_move kind next run)
path kind next (also (punctuation c p s) rest) b = either (Moves (also (punctuation c p s) rest) b) (begins_colons (also (punctuation c p s) rest)) _ _ (λ e. within_colons (also (punctuation c p s) rest) (stage.Colons kind false) e) (λ n. tt)
path kind next (also (identifier text s) rest) b = within_one (identifier text s) rest (stage.Named kind)
path kind next (also (literal text s) rest) b = tt
path kind next (also (doc text s) rest) b = tt
path kind next (also (group Parenthesis s inside) rest) b = tt
path kind next (also (group Bracket s inside) rest) b = tt
path kind next (also (group Brace s inside) rest) b = tt
path kind next none b = tt

self_trait_end : (run : TokenList) (b : Option TokenList) → Moves run b (table.self_trait_end_move run b)
self_trait_end (also (punctuation c p s) rest) b = either (Moves (also (punctuation c p s) rest) b) (c == 62) _ _ (λ e. after_one (punctuation c p s) rest b stage.SelfClosed) (λ n. tt)
self_trait_end (also (identifier text s) rest) b = tt
self_trait_end (also (literal text s) rest) b = tt
self_trait_end (also (doc text s) rest) b = tt
self_trait_end (also (group Parenthesis s inside) rest) b = tt
self_trait_end (also (group Bracket s inside) rest) b = tt
self_trait_end (also (group Brace s inside) rest) b = tt
self_trait_end none b = tt

self_closed : (run : TokenList) (b : Option TokenList) → Moves run b (table.self_closed_move run b)
self_closed run b = either (Moves run b) (begins_colons run) _ _ (λ e. after_colons run b (stage.Colons OfType false) e) (λ n. tt)

bound_lifetime : (plus : Bool) (c : ℕ) (p : Spacing) (s : Span) (run : TokenList) (b : Option TokenList) → Moves (also (punctuation c p s) run) b (table.bound_lifetime_move plus run b)
bound_lifetime plus c p s (also (identifier text t) rest) b = after_two_tokens (punctuation c p s) (identifier text t) rest b (stage.BoundEnd plus)
bound_lifetime plus c p s (also (punctuation d q t) rest) b = tt
bound_lifetime plus c p s (also (literal text t) rest) b = tt
bound_lifetime plus c p s (also (doc text t) rest) b = tt
bound_lifetime plus c p s (also (group d t inside) rest) b = tt
bound_lifetime plus c p s none b = tt

trait : (kind : BoundKind) (run : TokenList) (b : Option TokenList) → Moves run b (table.trait_move kind run b)
trait kind (also (punctuation c p s) rest) b = path OfBound (table.after_bound kind) (also (punctuation c p s) rest) b
trait kind (also (identifier text s) rest) b = either (Moves (also (identifier text s) rest) b) (bytes_eq text (codes "for")) _ _ (λ e. after_one (identifier text s) rest b (stage.For (OfTrait kind))) (λ n. path OfBound (table.after_bound kind) (also (identifier text s) rest) b)
trait kind (also (literal text s) rest) b = path OfBound (table.after_bound kind) (also (literal text s) rest) b
trait kind (also (doc text s) rest) b = path OfBound (table.after_bound kind) (also (doc text s) rest) b
trait kind (also (group Parenthesis s inside) rest) b = path OfBound (table.after_bound kind) (also (group Parenthesis s inside) rest) b
trait kind (also (group Bracket s inside) rest) b = path OfBound (table.after_bound kind) (also (group Bracket s inside) rest) b
trait kind (also (group Brace s inside) rest) b = path OfBound (table.after_bound kind) (also (group Brace s inside) rest) b
trait kind none b = path OfBound (table.after_bound kind) none b

question : (kind : BoundKind) (run : TokenList) (b : Option TokenList) → Moves run b (table.question_move kind run b)
question kind (also (punctuation c p s) rest) b = either (Moves (also (punctuation c p s) rest) b) (c == 63) _ _ (λ e. after_one (punctuation c p s) rest b (stage.Trait kind)) (λ n. trait kind (also (punctuation c p s) rest) b)
question kind (also (identifier text s) rest) b = trait kind (also (identifier text s) rest) b
question kind (also (literal text s) rest) b = trait kind (also (literal text s) rest) b
question kind (also (doc text s) rest) b = trait kind (also (doc text s) rest) b
question kind (also (group Parenthesis s inside) rest) b = trait kind (also (group Parenthesis s inside) rest) b
question kind (also (group Bracket s inside) rest) b = trait kind (also (group Bracket s inside) rest) b
question kind (also (group Brace s inside) rest) b = trait kind (also (group Brace s inside) rest) b
question kind none b = trait kind none b

bound : (plus : Bool) (run : TokenList) (b : Option TokenList) → Moves run b (table.bound_move plus run b)
bound plus (also (punctuation c p s) rest) b = either (Moves (also (punctuation c p s) rest) b) (c == 39) _ _ (λ e. bound_lifetime plus c p s rest b) (λ n. question (Listed plus) (also (punctuation c p s) rest) b)
bound plus (also (identifier text s) rest) b = question (Listed plus) (also (identifier text s) rest) b
bound plus (also (literal text s) rest) b = question (Listed plus) (also (literal text s) rest) b
bound plus (also (doc text s) rest) b = question (Listed plus) (also (doc text s) rest) b
bound plus (also (group Parenthesis s inside) rest) b = opened Parenthesis s (stage.Question plus) inside rest b
bound plus (also (group Bracket s inside) rest) b = question (Listed plus) (also (group Bracket s inside) rest) b
bound plus (also (group Brace s inside) rest) b = question (Listed plus) (also (group Brace s inside) rest) b
bound plus none b = question (Listed plus) none b

bound_end : (plus : Bool) (run : TokenList) (b : Option TokenList) → Moves run b (table.bound_end_move plus run b)
bound_end plus (also (punctuation c p s) rest) b = either (Moves (also (punctuation c p s) rest) b) (plus && (c == 43)) _ _ (λ e. after_one (punctuation c p s) rest b stage.Further) (λ n. tt)
bound_end plus (also (identifier text s) rest) b = tt
bound_end plus (also (literal text s) rest) b = tt
bound_end plus (also (doc text s) rest) b = tt
bound_end plus (also (group Parenthesis s inside) rest) b = tt
bound_end plus (also (group Bracket s inside) rest) b = tt
bound_end plus (also (group Brace s inside) rest) b = tt
bound_end plus none b = tt

further : (run : TokenList) (b : Option TokenList) → Moves run b (table.further_move run b)
further run b = either (Moves run b) (table.begins_bound run) _ _ (λ e. bound true run b) (λ n. tt)

enclosed_end : (plus : Bool) (run : TokenList) (b : Option TokenList) → Moves run b (table.enclosed_end_move plus run b)
enclosed_end plus (also (punctuation c p s) rest) b = tt
enclosed_end plus (also (identifier text s) rest) b = tt
enclosed_end plus (also (literal text s) rest) b = tt
enclosed_end plus (also (doc text s) rest) b = tt
enclosed_end plus (also (group Parenthesis s inside) rest) b = tt
enclosed_end plus (also (group Bracket s inside) rest) b = tt
enclosed_end plus (also (group Brace s inside) rest) b = tt
enclosed_end plus none b = closed Parenthesis (stage.BoundEnd plus) none b

for_opens : (binder : Binder) (run : TokenList) (b : Option TokenList) → Moves run b (table.for_move binder run b)
for_opens binder (also (punctuation c p s) rest) b = either (Moves (also (punctuation c p s) rest) b) (c == 60) _ _ (λ e. after_one (punctuation c p s) rest b (stage.ForList binder)) (λ n. tt)
for_opens binder (also (identifier text s) rest) b = tt
for_opens binder (also (literal text s) rest) b = tt
for_opens binder (also (doc text s) rest) b = tt
for_opens binder (also (group Parenthesis s inside) rest) b = tt
for_opens binder (also (group Bracket s inside) rest) b = tt
for_opens binder (also (group Brace s inside) rest) b = tt
for_opens binder none b = tt

for_lifetime : (binder : Binder) (c : ℕ) (p : Spacing) (s : Span) (run : TokenList) (b : Option TokenList) → Moves (also (punctuation c p s) run) b (table.for_lifetime_move binder run b)
for_lifetime binder c p s (also (identifier text t) rest) b = after_two_tokens (punctuation c p s) (identifier text t) rest b (stage.ForEnd binder)
for_lifetime binder c p s (also (punctuation d q t) rest) b = tt
for_lifetime binder c p s (also (literal text t) rest) b = tt
for_lifetime binder c p s (also (doc text t) rest) b = tt
for_lifetime binder c p s (also (group d t inside) rest) b = tt
for_lifetime binder c p s none b = tt

for_list : (binder : Binder) (run : TokenList) (b : Option TokenList) → Moves run b (table.for_list_move binder run b)
for_list binder (also (punctuation c p s) rest) b = either (Moves (also (punctuation c p s) rest) b) (c == 62) _ _ (λ e. after_one (punctuation c p s) rest b (table.after_for binder)) (λ n. either (Moves (also (punctuation c p s) rest) b) (c == 39) _ _ (λ e. for_lifetime binder c p s rest b) (λ n. tt))
for_list binder (also (identifier text s) rest) b = tt
for_list binder (also (literal text s) rest) b = tt
for_list binder (also (doc text s) rest) b = tt
for_list binder (also (group Parenthesis s inside) rest) b = tt
for_list binder (also (group Bracket s inside) rest) b = tt
for_list binder (also (group Brace s inside) rest) b = tt
for_list binder none b = tt

for_end : (binder : Binder) (run : TokenList) (b : Option TokenList) → Moves run b (table.for_end_move binder run b)
for_end binder (also (punctuation c p s) rest) b = either (Moves (also (punctuation c p s) rest) b) (c == 44) _ _ (λ e. after_one (punctuation c p s) rest b (stage.ForList binder)) (λ n. either (Moves (also (punctuation c p s) rest) b) (c == 62) _ _ (λ e. after_one (punctuation c p s) rest b (table.after_for binder)) (λ n. tt))
for_end binder (also (identifier text s) rest) b = tt
for_end binder (also (literal text s) rest) b = tt
for_end binder (also (doc text s) rest) b = tt
for_end binder (also (group Parenthesis s inside) rest) b = tt
for_end binder (also (group Bracket s inside) rest) b = tt
for_end binder (also (group Brace s inside) rest) b = tt
for_end binder none b = tt

linked : (run : TokenList) (b : Option TokenList) → Moves run b (table.linked_move run b)
linked (also (punctuation c p s) rest) b = tt
linked (also (identifier text s) rest) b = either (Moves (also (identifier text s) rest) b) (bytes_eq text (codes "fn")) _ _ (λ e. after_one (identifier text s) rest b stage.Function) (λ n. tt)
linked (also (literal text s) rest) b = tt
linked (also (doc text s) rest) b = tt
linked (also (group Parenthesis s inside) rest) b = tt
linked (also (group Bracket s inside) rest) b = tt
linked (also (group Brace s inside) rest) b = tt
linked none b = tt

not_safe : (run : TokenList) (b : Option TokenList) → Moves run b (table.unsafe_move run b)
not_safe (also (punctuation c p s) rest) b = tt
not_safe (also (identifier text s) rest) b = either (Moves (also (identifier text s) rest) b) (bytes_eq text (codes "extern")) _ _ (λ e. after_one (identifier text s) rest b stage.Extern) (λ n. linked (also (identifier text s) rest) b)
not_safe (also (literal text s) rest) b = tt
not_safe (also (doc text s) rest) b = tt
not_safe (also (group Parenthesis s inside) rest) b = tt
not_safe (also (group Bracket s inside) rest) b = tt
not_safe (also (group Brace s inside) rest) b = tt
not_safe none b = tt

qualified : (run : TokenList) (b : Option TokenList) → Moves run b (table.qualified_move run b)
qualified (also (punctuation c p s) rest) b = tt
qualified (also (identifier text s) rest) b = either (Moves (also (identifier text s) rest) b) (bytes_eq text (codes "unsafe")) _ _ (λ e. after_one (identifier text s) rest b stage.Unsafe) (λ n. not_safe (also (identifier text s) rest) b)
qualified (also (literal text s) rest) b = tt
qualified (also (doc text s) rest) b = tt
qualified (also (group Parenthesis s inside) rest) b = tt
qualified (also (group Bracket s inside) rest) b = tt
qualified (also (group Brace s inside) rest) b = tt
qualified none b = tt

extern_next : (run : TokenList) (b : Option TokenList) → Moves run b (table.extern_move run b)
extern_next (also (punctuation c p s) rest) b = tt
extern_next (also (identifier text s) rest) b = linked (also (identifier text s) rest) b
extern_next (also (literal text s) rest) b = after_one (literal text s) rest b stage.Linked
extern_next (also (doc text s) rest) b = tt
extern_next (also (group Parenthesis s inside) rest) b = tt
extern_next (also (group Bracket s inside) rest) b = tt
extern_next (also (group Brace s inside) rest) b = tt
extern_next none b = tt

function : (run : TokenList) (b : Option TokenList) → Moves run b (table.function_move run b)
function (also (punctuation c p s) rest) b = tt
function (also (identifier text s) rest) b = tt
function (also (literal text s) rest) b = tt
function (also (doc text s) rest) b = tt
function (also (group Parenthesis s inside) rest) b = opened Parenthesis s stage.Taken inside rest b
function (also (group Bracket s inside) rest) b = tt
function (also (group Brace s inside) rest) b = tt
function none b = tt

taken_value : (run : TokenList) (b : Option TokenList) → Moves run b (table.taken_value run b)
taken_value run b = either (Moves run b) (begins_dots run) _ _ (λ e. after_dots run b stage.Variadic e) (λ n. tt)

taken : (run : TokenList) (b : Option TokenList) → Moves run b (table.taken_move run b)
taken (also (punctuation c p s) rest) b = taken_value (also (punctuation c p s) rest) b
taken (also (identifier text s) rest) b = either (Moves (also (identifier text s) rest) b) (table.typing rest) _ _ (λ e. after_one (identifier text s) rest b stage.Typed) (λ n. tt)
taken (also (literal text s) rest) b = taken_value (also (literal text s) rest) b
taken (also (doc text s) rest) b = taken_value (also (doc text s) rest) b
taken (also (group Parenthesis s inside) rest) b = taken_value (also (group Parenthesis s inside) rest) b
taken (also (group Bracket s inside) rest) b = taken_value (also (group Bracket s inside) rest) b
taken (also (group Brace s inside) rest) b = taken_value (also (group Brace s inside) rest) b
taken none b = closed Parenthesis stage.Output none b

typed : (run : TokenList) (b : Option TokenList) → Moves run b (table.typed_move run b)
typed (also (punctuation c p s) rest) b = either (Moves (also (punctuation c p s) rest) b) (c == 58) _ _ (λ e. after_one (punctuation c p s) rest b stage.TypedValue) (λ n. tt)
typed (also (identifier text s) rest) b = tt
typed (also (literal text s) rest) b = tt
typed (also (doc text s) rest) b = tt
typed (also (group Parenthesis s inside) rest) b = tt
typed (also (group Bracket s inside) rest) b = tt
typed (also (group Brace s inside) rest) b = tt
typed none b = tt

one_taken : (run : TokenList) (b : Option TokenList) → Moves run b (table.one_taken_move run b)
one_taken (also (punctuation c p s) rest) b = either (Moves (also (punctuation c p s) rest) b) (c == 44) _ _ (λ e. after_one (punctuation c p s) rest b stage.Taken) (λ n. tt)
one_taken (also (identifier text s) rest) b = tt
one_taken (also (literal text s) rest) b = tt
one_taken (also (doc text s) rest) b = tt
one_taken (also (group Parenthesis s inside) rest) b = tt
one_taken (also (group Bracket s inside) rest) b = tt
one_taken (also (group Brace s inside) rest) b = tt
one_taken none b = closed Parenthesis stage.Output none b

variadic : (run : TokenList) (b : Option TokenList) → Moves run b (table.variadic_move run b)
variadic (also (punctuation c p s) rest) b = either (Moves (also (punctuation c p s) rest) b) (c == 44) _ _ (λ e. after_one (punctuation c p s) rest b stage.VariadicEnd) (λ n. tt)
variadic (also (identifier text s) rest) b = tt
variadic (also (literal text s) rest) b = tt
variadic (also (doc text s) rest) b = tt
variadic (also (group Parenthesis s inside) rest) b = tt
variadic (also (group Bracket s inside) rest) b = tt
variadic (also (group Brace s inside) rest) b = tt
variadic none b = closed Parenthesis stage.Output none b

variadic_end : (run : TokenList) (b : Option TokenList) → Moves run b (table.variadic_end_move run b)
variadic_end (also (punctuation c p s) rest) b = tt
variadic_end (also (identifier text s) rest) b = tt
variadic_end (also (literal text s) rest) b = tt
variadic_end (also (doc text s) rest) b = tt
variadic_end (also (group Parenthesis s inside) rest) b = tt
variadic_end (also (group Bracket s inside) rest) b = tt
variadic_end (also (group Brace s inside) rest) b = tt
variadic_end none b = closed Parenthesis stage.Output none b

-- each move of the table
pub steps : (p : Stage) (run : TokenList) (b : Option TokenList) → Moves run b (next_at p run b)
unfolding next_at
steps stage.End run b = tt
steps (stage.Named kind) run b = named kind run b
steps (stage.Segments kind) run b = segments kind run b
steps (stage.Colons kind arguments) run b = colons_next kind arguments run b
steps (stage.Arguments kind) run b = arguments kind run b
steps (stage.Equals kind) run b = equals kind run b
steps (stage.Value kind) run b = tt
steps (stage.Constrained kind) run b = constrained kind run b
steps (stage.Braced kind) run b = braced kind run b
steps (stage.ArgumentEnd kind) run b = argument_end kind run b
steps stage.Macro run b = macro_group run b
steps stage.Inputs run b = inputs run b
steps stage.InputEnd run b = input_end run b
steps stage.Output run b = output run b
steps stage.SelfType run b = tt
steps stage.SelfEnd run b = self_end run b
steps stage.SelfTrait run b = path OfType stage.SelfTraitEnd run b
steps stage.SelfTraitEnd run b = self_trait_end run b
steps stage.SelfClosed run b = self_closed run b
steps stage.Referent run b = referent run b
steps stage.Pointer run b = pointer run b
steps stage.Target run b = tt
steps stage.List run b = list run b
steps stage.ListEnd run b = list_end run b
steps stage.Element run b = tt
steps stage.ElementEnd run b = element_end run b
steps stage.Length run b = length run b
steps stage.LengthEnd run b = closed Bracket stage.End run b
steps (stage.Bound plus) run b = bound plus run b
steps (stage.Question plus) run b = question (Enclosed plus) run b
steps (stage.Trait kind) run b = trait kind run b
steps (stage.TraitPath kind) run b = path OfBound (table.after_bound kind) run b
steps (stage.BoundEnd plus) run b = bound_end plus run b
steps stage.Further run b = further run b
steps (stage.EnclosedEnd plus) run b = enclosed_end plus run b
steps (stage.For binder) run b = for_opens binder run b
steps (stage.ForList binder) run b = for_list binder run b
steps (stage.ForEnd binder) run b = for_end binder run b
steps stage.Qualified run b = qualified run b
steps stage.Unsafe run b = not_safe run b
steps stage.Extern run b = extern_next run b
steps stage.Linked run b = linked run b
steps stage.Function run b = function run b
steps stage.Taken run b = taken run b
steps stage.Typed run b = typed run b
steps stage.TypedValue run b = taken_value run b
steps stage.OneTaken run b = one_taken run b
steps stage.Variadic run b = variadic run b
steps stage.VariadicEnd run b = variadic_end run b

-- the beginning of a type is followed by fewer tokens
pub record Begins (run : TokenList) (spot : Spot) : Type 0 where
  pub rest : IsRestOf run (outer spot.run spot.outside)
  pub less : left spot.run spot.outside < 2 * count_of run

abbrev Firsts : TokenList → First → Type 0
Firsts run (starts barred s spot) = Begins run spot
Firsts run (refused f) = Unit {0}

either_first : (F : First → Type 0) (b : Bool) (m n : First) → (b ≡ true → F m) → (b ≡ false → F n) → F (if b then m else n)
either_first F true m n f g = f refl
either_first F false m n f g = g refl

begins_one : (t : Token) (rest : TokenList) (p : Stage) → Begins (also t rest) (to p rest None)
begins_one t rest p = record { rest = first_rest t rest; less = omega (arith, one_token t) }

begins_group : (d : Delimiter) (s : Span) (inside rest : TokenList) (p : Stage) → Begins (also (group d s inside) rest) (to p inside (Some rest))
begins_group d s inside rest p = record { rest = first_rest (group d s inside) rest; less = omega arith }

begins_rooted : (run : TokenList) (p : Stage) → begins_colons run ≡ true → Begins run (to p (after_two run) None)
begins_rooted (also (punctuation c Joint s) (also (punctuation d q t) rest)) p e = record { rest = record { front = also (punctuation c Joint s) (also (punctuation d q t) none); is = refl }; less = omega arith }
begins_rooted run p e = cc

reference_lifetime_begins : (c d : ℕ) (p q : Spacing) (s t : Span) (run : TokenList) → Firsts (also (punctuation c p s) (also (punctuation d q t) run)) (table.reference_lifetime_first run)
reference_lifetime_begins c d p q s t (also (identifier text u) rest) =
    record { rest = record { front = also (punctuation c p s) (also (punctuation d q t) (also (identifier text u) none)); is = refl }; less = omega arith }
reference_lifetime_begins c d p q s t (also (punctuation f o u) rest) = tt
reference_lifetime_begins c d p q s t (also (literal text u) rest) = tt
reference_lifetime_begins c d p q s t (also (doc text u) rest) = tt
reference_lifetime_begins c d p q s t (also (group f u inside) rest) = tt
reference_lifetime_begins c d p q s t none = tt

reference_begins : (c : ℕ) (p : Spacing) (s : Span) (run : TokenList) → Firsts (also (punctuation c p s) run) (table.reference_first run)
reference_begins c p s (also (punctuation d q t) rest) = either_first (Firsts (also (punctuation c p s) (also (punctuation d q t) rest))) (d == 39) _ _
    (λ e. reference_lifetime_begins c d p q s t rest) (λ n. begins_one (punctuation c p s) (also (punctuation d q t) rest) stage.Referent)
reference_begins c p s (also (identifier text t) rest) = begins_one (punctuation c p s) (also (identifier text t) rest) stage.Referent
reference_begins c p s (also (literal text t) rest) = begins_one (punctuation c p s) (also (literal text t) rest) stage.Referent
reference_begins c p s (also (doc text t) rest) = begins_one (punctuation c p s) (also (doc text t) rest) stage.Referent
reference_begins c p s (also (group d t inside) rest) = begins_one (punctuation c p s) (also (group d t inside) rest) stage.Referent
reference_begins c p s none = begins_one (punctuation c p s) none stage.Referent

mark_begins : (c : ℕ) (p : Spacing) (s : Span) (rest : TokenList) → Firsts (also (punctuation c p s) rest) (table.mark_first c s (also (punctuation c p s) rest) rest)
mark_begins c p s rest = either_first (Firsts (also (punctuation c p s) rest)) (c == 38) _ _ (λ e. reference_begins c p s rest)
    (λ a. either_first (Firsts (also (punctuation c p s) rest)) (c == 42) _ _ (λ e. begins_one (punctuation c p s) rest stage.Pointer)
    (λ f. either_first (Firsts (also (punctuation c p s) rest)) (c == 60) _ _ (λ e. begins_one (punctuation c p s) rest stage.SelfType)
    (λ g. either_first (Firsts (also (punctuation c p s) rest)) (c == 33) _ _ (λ e. tt)
    (λ h. either_first (Firsts (also (punctuation c p s) rest)) (begins_colons (also (punctuation c p s) rest)) _ _ (λ e. begins_rooted (also (punctuation c p s) rest) (stage.Colons Plain false) e) (λ n. tt)))))

firsts : (plus : Bool) (run : TokenList) → Firsts run (begin plus run)
unfolding begin
firsts plus (also (identifier text s) rest) = either_first (Firsts (also (identifier text s) rest)) (bytes_eq text (codes "_")) _ _ (λ e. tt) (λ n. begins_one (identifier text s) rest (table.word_stage plus text))
firsts plus (also (group Parenthesis s inside) rest) = begins_group Parenthesis s inside rest stage.List
firsts plus (also (group Bracket s inside) rest) = begins_group Bracket s inside rest stage.Element
firsts plus (also (group Brace s inside) rest) = tt
firsts plus (also (punctuation c p s) rest) = mark_begins c p s rest
firsts plus (also (literal text s) rest) = tt
firsts plus (also (doc text s) rest) = tt
firsts plus none = tt

pub first_steps : (plus : Bool) (run : TokenList) {barred : Bool} {s : Sign} {spot : Spot} → begin plus run ≡ starts barred s spot → Begins run spot
first_steps plus run {barred} {s} {spot} e = let f : Firsts run (starts barred s spot) = subst (Firsts run) e (firsts plus run) in f
