-- A written type is read.
use Rattle.std.proofs.Common.{◌≡◌, ℕ, ◌-◌, ◌<◌, List, [], ◌∷◌, ◌++◌, Bool, true, false, not, ◌||◌, ◌&&◌, ◌==◌, bytes_eq, codes, if◌then◌else◌, Option, Some, None, refl, sym, ap, ◌∙◌, subst, append_assoc}
use Rattle.std.proofs.lemmas.List.{append-nil}
use Rattle.logos_lexeme.specs.declared.lexeme.Span.{Span}
use Rattle.logos_lexeme.specs.declared.lexeme.Spacing.{Spacing}
use Rattle.logos_lexeme.specs.declared.lexeme.Spacing.TheVariants.{Joint}
use Rattle.logos_lexeme.specs.declared.lexeme.Delimiter.TheVariants.{Parenthesis, Bracket, Brace}
use Rattle.logos_token.specs.Tokens.{Token, TokenList, identifier, punctuation, literal, doc, group, none, also}
use Rattle.logos_type_reader.specs.declared.table.stage.PathKind.{PathKind}
use Rattle.logos_type_reader.specs.declared.table.stage.PathKind.TheVariants.{Plain, OfType, OfBound}
use Rattle.logos_type_reader.specs.declared.table.stage.BoundKind.{BoundKind}
use Rattle.logos_type_reader.specs.declared.table.stage.BoundKind.TheVariants.{Listed, Enclosed}
use Rattle.logos_type_reader.specs.declared.table.stage.Binder.{Binder}
use Rattle.logos_type_reader.specs.declared.table.stage.Binder.TheVariants.{OfFunction, OfTrait}
use Rattle.logos_type_reader.specs.declared.table.stage.Stage.{Stage}
use Rattle.logos_type_reader.specs.declared.table.stage.Stage.TheVariants as stage
use Rattle.logos_type.specs.Parts.{Sign, Tree, sign, whole, still, trees, none as no_part_left, also as and_part, word, mark, colons, arrow, value, opening, closing, reference, other_lifetime}
use Rattle.logos_type_reader.specs.StillRuns.{still_run}
use Rattle.logos_type_reader.specs.Table.{Spot, Move, ends, takes, needs, keeps_type, keeps, nests, First, starts, unsupported, begin, name_of, is_reserved, continues, begins_colons, begins_arrow, begins_mark, begins_bound, begins_dots, typing, argued, argument_lifetime, next_at, name_end, path_move, after_bound, after_for}
use Rattle.logos_type_reader.specs.Reading.{IsType, name_alone, formed, a_token, a_bar, a_type as part_type, a_still_type, still_tokens, a_nest, AreParts, ended, further as part}
use Rattle.logos_type_reader.specs.Written.{Ending, closed, named, plain_named, applied, taking, bounded, trailing, may_follow, name_ending, begins_mut, begins_named_argument, begins_parameter, Lifetimes, in_angles, LifetimeList, no_lifetime, last_lifetime, lifetimes, Written, a_name, a_form, Form, path, rooted, qualified, borrowed, borrowed_for, slice, array, tuple, trait_object, bound_function, function, pointer_const, pointer_mut, Referent, shared, mutable, Listed as ListedTypes, nothing, single, several, Qualified, of_type, of_trait, AnyPath, from_name, from_root, Path, last, longer, Longer, member, angled, angled_member, called, giving, Angled, plain, turbofish, Arguments, finished, final, further, Argument, a_lifetime, a_literal, empty_braces, braces, a_type, a_binding, Bounds, one_bound, last_bound, plus_after, bounds, Bound, lifetime_bound, trait_bound, enclosed, Questioned, unquestioned, questioned, Trait, unbound, for_all, Function, not_safe, safe, Linked, linked, linked_as, unlinked, Taking, takes_only, takes_and_yields, Parameters, no_parameter, last_parameter, parameters, Parameter, unnamed, with_name}

-- a spot with the rest there
abbrev pub at : Stage → TokenList → Option TokenList → Spot
at p run outside = record { stage = p; run = run; outside = outside }

colons_no : (c : ℕ) (p : Spacing) (s : Span) (rest : TokenList) → (c == 58) ≡ false → begins_colons (also (punctuation c p s) rest) ≡ false
colons_no c Joint s (also (punctuation d q t) rest) e = rw e refl
colons_no c p s rest e = refl

arrow_no : (c : ℕ) (p : Spacing) (s : Span) (rest : TokenList) → (c == 45) ≡ false → begins_arrow (also (punctuation c p s) rest) ≡ false
arrow_no c Joint s (also (punctuation d q t) rest) e = rw e refl
arrow_no c p s rest e = refl

dots_no : (c : ℕ) (p : Spacing) (s : Span) (rest : TokenList) → (c == 46) ≡ false → begins_dots (also (punctuation c p s) rest) ≡ false
dots_no c Joint s (also (punctuation d Joint t) (also (punctuation f q u) rest)) e = rw e refl
dots_no c p s rest e = refl

-- a punctuation with which nothing continues: a comma, `>` or `;` lengthens no type
record Idle (c : ℕ) : Type 0 where
  angle : (c == 60) ≡ false
  colon : (c == 58) ≡ false
  minus : (c == 45) ≡ false
  bang : (c == 33) ≡ false
  plus : (c == 43) ≡ false
  quote : (c == 39) ≡ false
  question : (c == 63) ≡ false

idle_comma : Idle 44
idle_comma = record { angle = refl; colon = refl; minus = refl; bang = refl; plus = refl; quote = refl; question = refl }

idle_angle : Idle 62
idle_angle = record { angle = refl; colon = refl; minus = refl; bang = refl; plus = refl; quote = refl; question = refl }

idle_semicolon : Idle 59
idle_semicolon = record { angle = refl; colon = refl; minus = refl; bang = refl; plus = refl; quote = refl; question = refl }

mark_follows : (e : Ending) (c : ℕ) (p : Spacing) (s : Span) (rest : TokenList) → Idle c → may_follow e (also (punctuation c p s) rest) ≡ true
mark_follows closed c p s rest i = refl
mark_follows named c p s rest i = rw (i.angle, colons_no c p s rest i.colon) refl
mark_follows plain_named c p s rest i = rw (i.angle, colons_no c p s rest i.colon, i.bang) refl
mark_follows applied c p s rest i = rw (colons_no c p s rest i.colon) refl
mark_follows taking c p s rest i = rw (arrow_no c p s rest i.minus) refl
mark_follows (bounded e) c p s rest i = rw (mark_follows e c p s rest i, i.plus) refl
mark_follows trailing c p s rest i = rw (i.quote, i.question, colons_no c p s rest i.colon) refl

none_follows : (e : Ending) → may_follow e none ≡ true
none_follows closed = refl
none_follows named = refl
none_follows plain_named = refl
none_follows applied = refl
none_follows taking = refl
none_follows (bounded e) = rw (none_follows e) refl
none_follows trailing = refl

not_true : (b : Bool) → not b ≡ true → b ≡ false
not_true false e = refl
not_true true e = cc

both_true : (a b : Bool) → (a && b) ≡ true → (a ≡ true) × (b ≡ true)
both_true true b e = (refl, e)
both_true false b e = cc

both_false : (a b : Bool) → (a || b) ≡ false → (a ≡ false) × (b ≡ false)
both_false true b e = cc
both_false false b e = (refl, e)

-- the first token of a type: no literal, no braces, and no `'` nor `>` nor `.`
pub data Begins : TokenList → Type 0 where
  with_word : {text : List ℕ} {s : Span} {rest : TokenList} → Begins (also (identifier text s) rest)
  with_mark : {c : ℕ} {p : Spacing} {s : Span} {rest : TokenList} → (c == 62) ≡ false → (c == 39) ≡ false → (c == 46) ≡ false → Begins (also (punctuation c p s) rest)
  with_parenthesis : {s : Span} {inside rest : TokenList} → Begins (also (group Parenthesis s inside) rest)
  with_bracket : {s : Span} {inside rest : TokenList} → Begins (also (group Bracket s inside) rest)

linked_word : {levels : ℕ} {run rest : TokenList} {parts : List Tree} {e : Ending} → Linked levels run parts rest e → Begins run
linked_word (linked w) = with_word
linked_word (linked_as w) = with_word
linked_word (unlinked w) = with_word

function_word : {levels : ℕ} {run rest : TokenList} {parts : List Tree} {e : Ending} → Function levels run parts rest e → Begins run
function_word (not_safe w) = with_word
function_word (safe w) = linked_word w

form_begins : {levels : ℕ} {plus : Bool} {run rest : TokenList} {parts : List Tree} {e : Ending} → Form levels plus run parts rest e → Begins run
form_begins (path a l) = with_word
form_begins (rooted p) = with_mark refl refl refl
form_begins (qualified q) = with_mark refl refl refl
form_begins (borrowed r) = with_mark refl refl refl
form_begins (borrowed_for r) = with_mark refl refl refl
form_begins (pointer_const w) = with_mark refl refl refl
form_begins (pointer_mut w) = with_mark refl refl refl
form_begins (slice w) = with_bracket
form_begins (array w) = with_bracket
form_begins (tuple l) = with_parenthesis
form_begins (trait_object w) = with_word
form_begins (bound_function l w) = with_word
form_begins (function w) = function_word w

type_begins : {levels : ℕ} {plus : Bool} {run rest : TokenList} {t : Tree} {e : Ending} → Written levels plus run t rest e → Begins run
type_begins (a_name a r) = with_word
type_begins (a_form a f) = form_begins f

-- the first step where a type begins
list_needs : (outside : TokenList) → {run : TokenList} → Begins run → next_at stage.List run (Some outside) ≡ needs true stage.ListEnd
unfolding next_at
list_needs outside with_word = refl
list_needs outside (with_mark a b dot) = refl
list_needs outside with_parenthesis = refl
list_needs outside with_bracket = refl

inputs_needs : (outside : TokenList) → {run : TokenList} → Begins run → next_at stage.Inputs run (Some outside) ≡ needs true stage.InputEnd
unfolding next_at
inputs_needs outside with_word = refl
inputs_needs outside (with_mark a b dot) = refl
inputs_needs outside with_parenthesis = refl
inputs_needs outside with_bracket = refl

arguments_needs : (kind : PathKind) (run : TokenList) → begins_named_argument run ≡ false → Begins run → next_at (stage.Arguments kind) run None ≡ needs true (stage.ArgumentEnd kind)
unfolding next_at
arguments_needs kind (also (identifier text s) rest) n with_word = let h = both_false (begins_mark 61 rest) (typing rest) n in rw (h.0, h.1) refl
arguments_needs kind (also (punctuation c p s) rest) n (with_mark a b dot) = rw (a, b) refl
arguments_needs kind (also (group Parenthesis s inside) rest) n with_parenthesis = refl
arguments_needs kind (also (group Bracket s inside) rest) n with_bracket = refl
arguments_needs kind (also (group Brace s inside) rest) n x = elim x [ ]
arguments_needs kind none n x = elim x [ ]
arguments_needs kind (also (literal text s) rest) n x = elim x [ ]
arguments_needs kind (also (doc text s) rest) n x = elim x [ ]

referent_needs : (run : TokenList) → begins_mut run ≡ false → Begins run → next_at stage.Referent run None ≡ needs false stage.End
unfolding next_at
referent_needs (also (identifier text s) rest) n with_word = rw n refl
referent_needs (also (punctuation c p s) rest) n (with_mark a b dot) = refl
referent_needs (also (group Parenthesis s inside) rest) n with_parenthesis = refl
referent_needs (also (group Bracket s inside) rest) n with_bracket = refl
referent_needs (also (group Brace s inside) rest) n x = elim x [ ]
referent_needs none n x = elim x [ ]
referent_needs (also (literal text s) rest) n x = elim x [ ]
referent_needs (also (doc text s) rest) n x = elim x [ ]

-- the beginning of a reference without a lifetime
reference_begins : (plus : Bool) (p : Spacing) (s : Span) (run : TokenList) → Begins run → begin plus (also (punctuation 38 p s) run) ≡ starts false (reference None) (at stage.Referent run None)
unfolding begin
reference_begins plus p s (also (identifier text t) rest) with_word = refl
reference_begins plus p s (also (punctuation c q t) rest) (with_mark a b dot) = rw b refl
reference_begins plus p s (also (group Parenthesis t inside) rest) with_parenthesis = refl
reference_begins plus p s (also (group Bracket t inside) rest) with_bracket = refl
reference_begins plus p s (also (group Brace t inside) rest) x = elim x [ ]
reference_begins plus p s none x = elim x [ ]
reference_begins plus p s (also (literal text t) rest) x = elim x [ ]
reference_begins plus p s (also (doc text t) rest) x = elim x [ ]

referent_begins : {levels : ℕ} {run rest : TokenList} {parts : List Tree} {e : Ending} → Referent levels run parts rest e → Begins run
referent_begins (shared n w) = type_begins w
referent_begins (mutable w) = with_word

parameter_needs : (run after : TokenList) → begins_parameter run ≡ false → Begins run → next_at stage.Taken run (Some after) ≡ needs true stage.OneTaken
unfolding next_at
parameter_needs (also (identifier text s) rest) after n with_word = rw n refl
parameter_needs (also (punctuation c p s) rest) after n (with_mark a b dot) = rw (dots_no c p s rest dot) refl
parameter_needs (also (group Parenthesis s inside) rest) after n with_parenthesis = refl
parameter_needs (also (group Bracket s inside) rest) after n with_bracket = refl
parameter_needs (also (group Brace s inside) rest) after n x = elim x [ ]
parameter_needs none after n x = elim x [ ]
parameter_needs (also (literal text s) rest) after n x = elim x [ ]
parameter_needs (also (doc text s) rest) after n x = elim x [ ]

parameter_name : (text : List ℕ) (s u : Span) (p : Spacing) (run after : TokenList) → begins_colons (also (punctuation 58 p u) run) ≡ false →
    next_at stage.Taken (also (identifier text s) (also (punctuation 58 p u) run)) (Some after) ≡ takes (word text) (at stage.Typed (also (punctuation 58 p u) run) (Some after))
unfolding next_at
parameter_name text s u p run after n = rw n refl

typed_needs : (run after : TokenList) → Begins run → next_at stage.TypedValue run (Some after) ≡ needs true stage.OneTaken
unfolding next_at
typed_needs (also (identifier text s) rest) after with_word = refl
typed_needs (also (punctuation c p s) rest) after (with_mark a b dot) = rw (dots_no c p s rest dot) refl
typed_needs (also (group Parenthesis s inside) rest) after with_parenthesis = refl
typed_needs (also (group Bracket s inside) rest) after with_bracket = refl
typed_needs (also (group Brace s inside) rest) after x = elim x [ ]
typed_needs none after x = elim x [ ]
typed_needs (also (literal text s) rest) after x = elim x [ ]
typed_needs (also (doc text s) rest) after x = elim x [ ]

-- a word that is not reserved begins a path
pub path_begins : (plus : Bool) (text : List ℕ) (s : Span) (run : TokenList) → is_reserved text ≡ false → begin plus (also (identifier text s) run) ≡ starts false (word text) (at (stage.Named Plain) run None)
unfolding begin
path_begins plus text s run e = go (bytes_eq text (codes "dyn")) (bytes_eq text (codes "impl")) (bytes_eq text (codes "_")) (bytes_eq text (codes "for")) (bytes_eq text (codes "fn")) (bytes_eq text (codes "unsafe")) (bytes_eq text (codes "extern")) e
  where
    go : (a b c d f g h : Bool) → (((a || b) || (c || d)) || ((f || g) || h)) ≡ false →
        (if c then First.refused (unsupported s) else starts b (word text) (at (if a || b then stage.Bound plus else (if f then stage.Function else (if g then stage.Unsafe else (if h then stage.Extern else (if d then stage.For OfFunction else stage.Named Plain))))) run None))
        ≡ starts false (word text) (at (stage.Named Plain) run None)
    go false false false false false false false e = refl
    go true b c d f g h e = cc
    go false true c d f g h e = cc
    go false false true d f g h e = cc
    go false false false true f g h e = cc
    go false false false false true g h e = cc
    go false false false false false true h e = cc
    go false false false false false false true e = cc

-- the path continues there
angled_on : {levels : ℕ} {kind : PathKind} {run rest : TokenList} {parts : List Tree} → Angled levels kind run parts rest → continues run ≡ true
angled_on (plain a) = refl
angled_on (turbofish a) = refl

longer_on : {levels : ℕ} {kind : PathKind} {run rest : TokenList} {parts : List Tree} {e : Ending} → Longer levels kind run parts rest e → continues run ≡ true
longer_on (member p) = refl
longer_on (angled a) = angled_on a
longer_on (angled_member a p) = angled_on a
longer_on (called l) = refl
longer_on (giving l w) = refl

-- where a path may end
named_tail : (kind : PathKind) (run : TokenList) → name_end kind run None ≡ ends → continues run ≡ false → next_at (stage.Named kind) run None ≡ ends
unfolding next_at
named_tail kind (also (punctuation c p s) rest) k e = go (c == 60) (begins_colons (also (punctuation c p s) rest)) _ _ e
  where
    go : (a b : Bool) → (m n : Move) → ((a || b) || false) ≡ false → (if a then m else (if b then n else name_end kind (also (punctuation c p s) rest) None)) ≡ ends
    go false false m n e = k
    go true b m n e = cc
    go false true m n e = cc
named_tail kind (also (group Parenthesis s inside) rest) k e = cc
named_tail kind (also (group Bracket s inside) rest) k e = refl
named_tail kind (also (group Brace s inside) rest) k e = refl
named_tail kind (also (identifier text s) rest) k e = refl
named_tail kind (also (literal text s) rest) k e = refl
named_tail kind (also (doc text s) rest) k e = refl
named_tail kind none k e = refl

plain_end : (run : TokenList) → begins_mark 33 run ≡ false → name_end Plain run None ≡ ends
plain_end (also (punctuation c p s) rest) e = rw e refl
plain_end (also (identifier text s) rest) e = refl
plain_end (also (literal text s) rest) e = refl
plain_end (also (doc text s) rest) e = refl
plain_end (also (group d s inside) rest) e = refl
plain_end none e = refl

named_ends : (kind : PathKind) (run : TokenList) → may_follow (name_ending kind) run ≡ true → next_at (stage.Named kind) run None ≡ ends
named_ends Plain run f = let h = both_false (continues run) (begins_mark 33 run) (not_true (continues run || begins_mark 33 run) f) in named_tail Plain run (plain_end run h.1) h.0
named_ends OfType run f = named_tail OfType run refl (not_true (continues run) f)
named_ends OfBound run f = named_tail OfBound run refl (not_true (continues run) f)

segments_ends : (kind : PathKind) (run : TokenList) → begins_colons run ≡ false → next_at (stage.Segments kind) run None ≡ ends
unfolding next_at
segments_ends kind run e = rw e refl

output_ends : (run : TokenList) → begins_arrow run ≡ false → next_at stage.Output run None ≡ ends
unfolding next_at
output_ends run e = rw e refl

one_bound_ends : (run : TokenList) → next_at (stage.BoundEnd false) run None ≡ ends
unfolding next_at
one_bound_ends (also (punctuation c p s) rest) = refl
one_bound_ends (also (identifier text s) rest) = refl
one_bound_ends (also (literal text s) rest) = refl
one_bound_ends (also (doc text s) rest) = refl
one_bound_ends (also (group d s inside) rest) = refl
one_bound_ends none = refl

bound_ends : (run : TokenList) → begins_mark 43 run ≡ false → next_at (stage.BoundEnd true) run None ≡ ends
unfolding next_at
bound_ends (also (punctuation c p s) rest) e = rw e refl
bound_ends (also (identifier text s) rest) e = refl
bound_ends (also (literal text s) rest) e = refl
bound_ends (also (doc text s) rest) e = refl
bound_ends (also (group d s inside) rest) e = refl
bound_ends none e = refl

further_ends : (run : TokenList) → begins_bound run ≡ false → next_at stage.Further run None ≡ ends
unfolding next_at
further_ends run e = rw e refl

further_is : (run : TokenList) → begins_bound run ≡ true → next_at stage.Further run None ≡ next_at (stage.Bound true) run None
unfolding next_at
further_is run e = rw e refl

-- the entries of the table at each of these stages
rooted_begins : (plus : Bool) (s t : Span) (p : Spacing) (run : TokenList) → begin plus (also (punctuation 58 Joint s) (also (punctuation 58 p t) run)) ≡ starts false colons (at (stage.Colons Plain false) run None)
unfolding begin
rooted_begins plus s t p run = refl

qualified_begins : (plus : Bool) (s : Span) (p : Spacing) (run : TokenList) → begin plus (also (punctuation 60 p s) run) ≡ starts false (mark 60) (at stage.SelfType run None)
unfolding begin
qualified_begins plus s p run = refl

lifetime_begins : (plus : Bool) (p q : Spacing) (s t u : Span) (text : List ℕ) (run : TokenList) → begin plus (also (punctuation 38 p s) (also (punctuation 39 q t) (also (identifier text u) run))) ≡ starts false (reference (Some text)) (at stage.Referent run None)
unfolding begin
lifetime_begins plus p q s t u text run = refl

pointer_begins : (plus : Bool) (s : Span) (p : Spacing) (run : TokenList) → begin plus (also (punctuation 42 p s) run) ≡ starts false (mark 42) (at stage.Pointer run None)
unfolding begin
pointer_begins plus s p run = refl

bracket_begins : (plus : Bool) (s : Span) (inside rest : TokenList) → begin plus (also (group Bracket s inside) rest) ≡ starts false (opening Bracket) (at stage.Element inside (Some rest))
unfolding begin
bracket_begins plus s inside rest = refl

tuple_begins : (plus : Bool) (s : Span) (inside rest : TokenList) → begin plus (also (group Parenthesis s inside) rest) ≡ starts false (opening Parenthesis) (at stage.List inside (Some rest))
unfolding begin
tuple_begins plus s inside rest = refl

dyn_begins : (plus : Bool) (s : Span) (run : TokenList) → begin plus (also (identifier (codes "dyn") s) run) ≡ starts false (word (codes "dyn")) (at (stage.Bound plus) run None)
unfolding begin
dyn_begins plus s run = refl

for_begins : (plus : Bool) (s : Span) (run : TokenList) → begin plus (also (identifier (codes "for") s) run) ≡ starts false (word (codes "for")) (at (stage.For OfFunction) run None)
unfolding begin
for_begins plus s run = refl

fn_begins : (plus : Bool) (s : Span) (run : TokenList) → begin plus (also (identifier (codes "fn") s) run) ≡ starts false (word (codes "fn")) (at stage.Function run None)
unfolding begin
fn_begins plus s run = refl

extern_begins : (plus : Bool) (s : Span) (run : TokenList) → begin plus (also (identifier (codes "extern") s) run) ≡ starts false (word (codes "extern")) (at stage.Extern run None)
unfolding begin
extern_begins plus s run = refl

unsafe_begins : (plus : Bool) (s : Span) (run : TokenList) → begin plus (also (identifier (codes "unsafe") s) run) ≡ starts false (word (codes "unsafe")) (at stage.Unsafe run None)
unfolding begin
unsafe_begins plus s run = refl

const_taken : (s : Span) (run : TokenList) → next_at stage.Pointer (also (identifier (codes "const") s) run) None ≡ takes (word (codes "const")) (at stage.Target run None)
unfolding next_at
const_taken s run = refl

pointer_mut_taken : (s : Span) (run : TokenList) → next_at stage.Pointer (also (identifier (codes "mut") s) run) None ≡ takes (word (codes "mut")) (at stage.Target run None)
unfolding next_at
pointer_mut_taken s run = refl

mut_taken : (s : Span) (run : TokenList) → next_at stage.Referent (also (identifier (codes "mut") s) run) None ≡ takes (word (codes "mut")) (at stage.Target run None)
unfolding next_at
mut_taken s run = refl

end_ends : (run : TokenList) → next_at stage.End run None ≡ ends
unfolding next_at
end_ends run = refl

target_needs : (run : TokenList) → next_at stage.Target run None ≡ needs false stage.End
unfolding next_at
target_needs run = refl

element_needs : (run : TokenList) (b : Option TokenList) → next_at stage.Element run b ≡ needs true stage.ElementEnd
unfolding next_at
element_needs run b = refl

element_closes : (rest : TokenList) → next_at stage.ElementEnd none (Some rest) ≡ takes (closing Bracket) (at stage.End rest None)
unfolding next_at
element_closes rest = refl

element_continues : (s : Span) (p : Spacing) (run : TokenList) (after : TokenList) → next_at stage.ElementEnd (also (punctuation 59 p s) run) (Some after) ≡ takes (mark 59) (at stage.Length run (Some after))
unfolding next_at
element_continues s p run after = refl

length_kept : (first : Token) (rest after : TokenList) → next_at stage.Length (also first rest) (Some after) ≡ keeps (also first rest) (at stage.LengthEnd none (Some after))
unfolding next_at
length_kept first rest after = refl

length_closes : (run : TokenList) (after : TokenList) → next_at stage.LengthEnd run (Some after) ≡ takes (closing Bracket) (at stage.End after None)
unfolding next_at
length_closes run after = refl

list_closes : (after : TokenList) → next_at stage.List none (Some after) ≡ takes (closing Parenthesis) (at stage.End after None)
unfolding next_at
list_closes after = refl

list_end_closes : (after : TokenList) → next_at stage.ListEnd none (Some after) ≡ takes (closing Parenthesis) (at stage.End after None)
unfolding next_at
list_end_closes after = refl

list_further : (s : Span) (p : Spacing) (run after : TokenList) → next_at stage.ListEnd (also (punctuation 44 p s) run) (Some after) ≡ takes (mark 44) (at stage.List run (Some after))
unfolding next_at
list_further s p run after = refl

inputs_close : (after : TokenList) → next_at stage.Inputs none (Some after) ≡ takes (closing Parenthesis) (at stage.Output after None)
unfolding next_at
inputs_close after = refl

input_end_closes : (after : TokenList) → next_at stage.InputEnd none (Some after) ≡ takes (closing Parenthesis) (at stage.Output after None)
unfolding next_at
input_end_closes after = refl

inputs_further : (s : Span) (p : Spacing) (run after : TokenList) → next_at stage.InputEnd (also (punctuation 44 p s) run) (Some after) ≡ takes (mark 44) (at stage.Inputs run (Some after))
unfolding next_at
inputs_further s p run after = refl

output_arrow : (s t : Span) (p : Spacing) (run : TokenList) → next_at stage.Output (also (punctuation 45 Joint s) (also (punctuation 62 p t) run)) None ≡ takes arrow (at stage.Target run None)
unfolding next_at
output_arrow s t p run = refl

colons_name : (kind : PathKind) (may : Bool) (text : List ℕ) (s : Span) (run : TokenList) → next_at (stage.Colons kind may) (also (identifier text s) run) None ≡ takes (word text) (at (stage.Named kind) run None)
unfolding next_at
colons_name kind may text s run = refl

named_colons : (kind : PathKind) (s t : Span) (p : Spacing) (run : TokenList) → next_at (stage.Named kind) (also (punctuation 58 Joint s) (also (punctuation 58 p t) run)) None ≡ takes colons (at (stage.Colons kind true) run None)
unfolding next_at
named_colons kind s t p run = refl

segments_colons : (kind : PathKind) (s t : Span) (p : Spacing) (run : TokenList) → next_at (stage.Segments kind) (also (punctuation 58 Joint s) (also (punctuation 58 p t) run)) None ≡ takes colons (at (stage.Colons kind false) run None)
unfolding next_at
segments_colons kind s t p run = refl

named_called : (kind : PathKind) (s : Span) (inside rest : TokenList) → next_at (stage.Named kind) (also (group Parenthesis s inside) rest) None ≡ takes (opening Parenthesis) (at stage.Inputs inside (Some rest))
unfolding next_at
named_called kind s inside rest = refl

named_angle : (kind : PathKind) (s : Span) (p : Spacing) (run : TokenList) → next_at (stage.Named kind) (also (punctuation 60 p s) run) None ≡ takes (mark 60) (at (stage.Arguments (argued kind)) run None)
unfolding next_at
named_angle kind s p run = refl

colons_angle : (kind : PathKind) (s : Span) (p : Spacing) (run : TokenList) → next_at (stage.Colons kind true) (also (punctuation 60 p s) run) None ≡ takes (mark 60) (at (stage.Arguments (argued kind)) run None)
unfolding next_at
colons_angle kind s p run = refl

arguments_close : (kind : PathKind) (s : Span) (p : Spacing) (run : TokenList) → next_at (stage.Arguments kind) (also (punctuation 62 p s) run) None ≡ takes (mark 62) (at (stage.Segments kind) run None)
unfolding next_at
arguments_close kind s p run = refl

argument_closes : (kind : PathKind) (s : Span) (p : Spacing) (run : TokenList) → next_at (stage.ArgumentEnd kind) (also (punctuation 62 p s) run) None ≡ takes (mark 62) (at (stage.Segments kind) run None)
unfolding next_at
argument_closes kind s p run = refl

argument_further : (kind : PathKind) (s : Span) (p : Spacing) (run : TokenList) → next_at (stage.ArgumentEnd kind) (also (punctuation 44 p s) run) None ≡ takes (mark 44) (at (stage.Arguments kind) run None)
unfolding next_at
argument_further kind s p run = refl

arguments_lifetime : (kind : PathKind) (s t : Span) (p : Spacing) (text : List ℕ) (run : TokenList) → next_at (stage.Arguments kind) (also (punctuation 39 p s) (also (identifier text t) run)) None ≡ takes (argument_lifetime kind text) (at (stage.ArgumentEnd kind) run None)
unfolding next_at
arguments_lifetime kind s t p text run = refl

arguments_literal : (kind : PathKind) (text : List ℕ) (s : Span) (run : TokenList) → next_at (stage.Arguments kind) (also (literal text s) run) None ≡ takes (value text) (at (stage.ArgumentEnd kind) run None)
unfolding next_at
arguments_literal kind text s run = refl

arguments_name : (kind : PathKind) (text : List ℕ) (s u : Span) (p : Spacing) (run : TokenList) → next_at (stage.Arguments kind) (also (identifier text s) (also (punctuation 61 p u) run)) None ≡ takes (word text) (at (stage.Equals kind) (also (punctuation 61 p u) run) None)
unfolding next_at
arguments_name kind text s u p run = refl

arguments_braces : (kind : PathKind) (s : Span) (inside rest : TokenList) → next_at (stage.Arguments kind) (also (group Brace s inside) rest) None ≡ takes (opening Brace) (at (stage.Braced kind) inside (Some rest))
unfolding next_at
arguments_braces kind s inside rest = refl

braced_kept : (kind : PathKind) (first : Token) (rest after : TokenList) → next_at (stage.Braced kind) (also first rest) (Some after) ≡ keeps (also first rest) (at (stage.Braced kind) none (Some after))
unfolding next_at
braced_kept kind first rest after = refl

braced_closes : (kind : PathKind) (after : TokenList) → next_at (stage.Braced kind) none (Some after) ≡ takes (closing Brace) (at (stage.ArgumentEnd kind) after None)
unfolding next_at
braced_closes kind after = refl

equals_taken : (kind : PathKind) (s : Span) (p : Spacing) (run : TokenList) → next_at (stage.Equals kind) (also (punctuation 61 p s) run) None ≡ takes (mark 61) (at (stage.Value kind) run None)
unfolding next_at
equals_taken kind s p run = refl

value_needs : (kind : PathKind) (run : TokenList) → next_at (stage.Value kind) run None ≡ needs true (stage.ArgumentEnd kind)
unfolding next_at
value_needs kind run = refl

self_needs : (run : TokenList) → next_at stage.SelfType run None ≡ keeps_type stage.SelfEnd
unfolding next_at
self_needs run = refl

self_closes : (s : Span) (p : Spacing) (run : TokenList) → next_at stage.SelfEnd (also (punctuation 62 p s) run) None ≡ takes (mark 62) (at stage.SelfClosed run None)
unfolding next_at
self_closes s p run = refl

self_as : (s : Span) (run : TokenList) → next_at stage.SelfEnd (also (identifier (codes "as") s) run) None ≡ takes (word (codes "as")) (at stage.SelfTrait run None)
unfolding next_at
self_as s run = refl

self_trait_path : (run : TokenList) → next_at stage.SelfTrait run None ≡ path_move OfType stage.SelfTraitEnd run
unfolding next_at
self_trait_path run = refl

self_trait_closes : (s : Span) (p : Spacing) (run : TokenList) → next_at stage.SelfTraitEnd (also (punctuation 62 p s) run) None ≡ takes (mark 62) (at stage.SelfClosed run None)
unfolding next_at
self_trait_closes s p run = refl

self_continues : (s t : Span) (p : Spacing) (run : TokenList) → next_at stage.SelfClosed (also (punctuation 58 Joint s) (also (punctuation 58 p t) run)) None ≡ takes colons (at (stage.Colons OfType false) run None)
unfolding next_at
self_continues s t p run = refl

bound_lifetime : (plus : Bool) (s t : Span) (p : Spacing) (text : List ℕ) (run : TokenList) → next_at (stage.Bound plus) (also (punctuation 39 p s) (also (identifier text t) run)) None ≡ takes (other_lifetime text) (at (stage.BoundEnd plus) run None)
unfolding next_at
bound_lifetime plus s t p text run = refl

bound_encloses : (plus : Bool) (s : Span) (inside rest : TokenList) → next_at (stage.Bound plus) (also (group Parenthesis s inside) rest) None ≡ takes (opening Parenthesis) (at (stage.Question plus) inside (Some rest))
unfolding next_at
bound_encloses plus s inside rest = refl

bound_joins : (s : Span) (p : Spacing) (run : TokenList) → next_at (stage.BoundEnd true) (also (punctuation 43 p s) run) None ≡ takes (mark 43) (at stage.Further run None)
unfolding next_at
bound_joins s p run = refl

enclosed_closes : (plus : Bool) (after : TokenList) → next_at (stage.EnclosedEnd plus) none (Some after) ≡ takes (closing Parenthesis) (at (stage.BoundEnd plus) after None)
unfolding next_at
enclosed_closes plus after = refl

trait_path : (kind : BoundKind) (run : TokenList) (b : Option TokenList) → next_at (stage.TraitPath kind) run b ≡ path_move OfBound (after_bound kind) run
unfolding next_at
trait_path kind run b = refl

trait_for : (kind : BoundKind) (s : Span) (run : TokenList) (b : Option TokenList) → next_at (stage.Trait kind) (also (identifier (codes "for") s) run) b ≡ takes (word (codes "for")) (at (stage.For (OfTrait kind)) run b)
unfolding next_at
trait_for kind s run b = refl

enclosed_question : (plus : Bool) (s : Span) (p : Spacing) (run : TokenList) (b : Option TokenList) → next_at (stage.Question plus) (also (punctuation 63 p s) run) b ≡ takes (mark 63) (at (stage.Trait (Enclosed plus)) run b)
unfolding next_at
enclosed_question plus s p run b = refl

listed_question : (plus : Bool) (s : Span) (p : Spacing) (run : TokenList) → next_at (stage.Bound plus) (also (punctuation 63 p s) run) None ≡ takes (mark 63) (at (stage.Trait (Listed plus)) run None)
unfolding next_at
listed_question plus s p run = refl

for_opens : (binder : Binder) (s : Span) (p : Spacing) (run : TokenList) (b : Option TokenList) → next_at (stage.For binder) (also (punctuation 60 p s) run) b ≡ takes (mark 60) (at (stage.ForList binder) run b)
unfolding next_at
for_opens binder s p run b = refl

for_closes : (binder : Binder) (s : Span) (p : Spacing) (run : TokenList) (b : Option TokenList) → next_at (stage.ForList binder) (also (punctuation 62 p s) run) b ≡ takes (mark 62) (at (after_for binder) run b)
unfolding next_at
for_closes binder s p run b = refl

for_lifetime : (binder : Binder) (s t : Span) (p : Spacing) (text : List ℕ) (run : TokenList) (b : Option TokenList) → next_at (stage.ForList binder) (also (punctuation 39 p s) (also (identifier text t) run)) b ≡ takes (other_lifetime text) (at (stage.ForEnd binder) run b)
unfolding next_at
for_lifetime binder s t p text run b = refl

for_end_closes : (binder : Binder) (s : Span) (p : Spacing) (run : TokenList) (b : Option TokenList) → next_at (stage.ForEnd binder) (also (punctuation 62 p s) run) b ≡ takes (mark 62) (at (after_for binder) run b)
unfolding next_at
for_end_closes binder s p run b = refl

for_further : (binder : Binder) (s : Span) (p : Spacing) (run : TokenList) (b : Option TokenList) → next_at (stage.ForEnd binder) (also (punctuation 44 p s) run) b ≡ takes (mark 44) (at (stage.ForList binder) run b)
unfolding next_at
for_further binder s p run b = refl

qualified_unsafe : (s : Span) (run : TokenList) → next_at stage.Qualified (also (identifier (codes "unsafe") s) run) None ≡ takes (word (codes "unsafe")) (at stage.Unsafe run None)
unfolding next_at
qualified_unsafe s run = refl

qualified_extern : (s : Span) (run : TokenList) → next_at stage.Qualified (also (identifier (codes "extern") s) run) None ≡ takes (word (codes "extern")) (at stage.Extern run None)
unfolding next_at
qualified_extern s run = refl

qualified_fn : (s : Span) (run : TokenList) → next_at stage.Qualified (also (identifier (codes "fn") s) run) None ≡ takes (word (codes "fn")) (at stage.Function run None)
unfolding next_at
qualified_fn s run = refl

unsafe_extern : (s : Span) (run : TokenList) → next_at stage.Unsafe (also (identifier (codes "extern") s) run) None ≡ takes (word (codes "extern")) (at stage.Extern run None)
unfolding next_at
unsafe_extern s run = refl

unsafe_fn : (s : Span) (run : TokenList) → next_at stage.Unsafe (also (identifier (codes "fn") s) run) None ≡ takes (word (codes "fn")) (at stage.Function run None)
unfolding next_at
unsafe_fn s run = refl

extern_fn : (s : Span) (run : TokenList) → next_at stage.Extern (also (identifier (codes "fn") s) run) None ≡ takes (word (codes "fn")) (at stage.Function run None)
unfolding next_at
extern_fn s run = refl

extern_name : (text : List ℕ) (s : Span) (run : TokenList) → next_at stage.Extern (also (literal text s) run) None ≡ takes (value text) (at stage.Linked run None)
unfolding next_at
extern_name text s run = refl

linked_fn : (s : Span) (run : TokenList) → next_at stage.Linked (also (identifier (codes "fn") s) run) None ≡ takes (word (codes "fn")) (at stage.Function run None)
unfolding next_at
linked_fn s run = refl

function_opens : (s : Span) (inside rest : TokenList) → next_at stage.Function (also (group Parenthesis s inside) rest) None ≡ takes (opening Parenthesis) (at stage.Taken inside (Some rest))
unfolding next_at
function_opens s inside rest = refl

taken_closes : (after : TokenList) → next_at stage.Taken none (Some after) ≡ takes (closing Parenthesis) (at stage.Output after None)
unfolding next_at
taken_closes after = refl

one_taken_closes : (after : TokenList) → next_at stage.OneTaken none (Some after) ≡ takes (closing Parenthesis) (at stage.Output after None)
unfolding next_at
one_taken_closes after = refl

taken_further : (s : Span) (p : Spacing) (run after : TokenList) → next_at stage.OneTaken (also (punctuation 44 p s) run) (Some after) ≡ takes (mark 44) (at stage.Taken run (Some after))
unfolding next_at
taken_further s p run after = refl

typed_taken : (s : Span) (p : Spacing) (run after : TokenList) → next_at stage.Typed (also (punctuation 58 p s) run) (Some after) ≡ takes (mark 58) (at stage.TypedValue run (Some after))
unfolding next_at
typed_taken s p run after = refl

-- a token, a type, tokens that stay, or something inside, and the tokens after it
next_token : {levels : ℕ} {p : Stage} {run : TokenList} {b : Option TokenList} {s : Sign} {outside : Spot} {parts : List Tree} {rest : TokenList} →
    next_at p run b ≡ takes s outside → AreParts levels false outside parts rest → AreParts levels false (at p run b) (sign s ∷ parts) rest
next_token e a = part (a_token e) a refl

next_type : {levels : ℕ} {p q : Stage} {plus : Bool} {run middle : TokenList} {b : Option TokenList} {t : Tree} {parts : List Tree} {rest : TokenList} →
    next_at p run b ≡ needs plus q → IsType levels plus run t middle → AreParts levels false (at q middle b) parts rest → AreParts levels false (at p run b) (t ∷ parts) rest
next_type e h a = part (part_type e h) a refl

next_still : {levels : ℕ} {p q : Stage} {run middle : TokenList} {b : Option TokenList} {t : Tree} {parts : List Tree} {rest : TokenList} →
    next_at p run b ≡ keeps_type q → IsType levels true run t middle → AreParts levels false (at q middle b) parts rest → AreParts levels false (at p run b) (still (and_part t no_part_left) ∷ parts) rest
next_still e h a = part (a_still_type e h) a refl

next_kept : {levels : ℕ} {p : Stage} {run kept_run : TokenList} {b : Option TokenList} {outside : Spot} {parts : List Tree} {rest : TokenList} →
    next_at p run b ≡ keeps kept_run outside → AreParts levels false outside parts rest → AreParts levels false (at p run b) (still (trees (still_run kept_run)) ∷ parts) rest
next_kept e a = part (still_tokens e) a refl

next_nest : {levels : ℕ} {p q : Stage} {run middle : TokenList} {b : Option TokenList} {s : Sign} {inner : Spot} {within parts : List Tree} {rest : TokenList} →
    next_at p run b ≡ nests s inner q → AreParts levels false inner within middle → AreParts levels false (at q middle b) parts rest → AreParts levels false (at p run b) (sign s ∷ (within ++ parts)) rest
next_nest e h a = part (a_nest e h) a refl

no_part : {levels : ℕ} {p : Stage} {run : TokenList} → next_at p run None ≡ ends → AreParts levels false (at p run None) [] run
no_part e = ended e

-- two spots with the same next move have the same parts
same_next : {levels : ℕ} {c : Bool} {p q : Stage} {run : TokenList} {b : Option TokenList} {parts : List Tree} {rest : TokenList} → next_at q run b ≡ next_at p run b → AreParts levels c (at p run b) parts rest → AreParts levels c (at q run b) parts rest
same_next k (ended e) = ended (k ∙ e)
same_next k (part (a_token e) a f) = part (a_token (k ∙ e)) a f
same_next k (part (a_bar e) a f) = part (a_bar (k ∙ e)) a f
same_next k (part (part_type e h) a f) = part (part_type (k ∙ e) h) a f
same_next k (part (a_still_type e h) a f) = part (a_still_type (k ∙ e) h) a f
same_next k (part (still_tokens e) a f) = part (still_tokens (k ∙ e)) a f
same_next k (part (a_nest e h) a f) = part (a_nest (k ∙ e) h) a f

-- a type of parts has a first token, and the parts after it
pub data Begun : ℕ → Bool → TokenList → List Tree → TokenList → Type 0 where
  begun : {levels : ℕ} {plus : Bool} {run rest : TokenList} {s : Sign} {spot : Spot} {parts : List Tree} → name_of run ≡ None → begin plus run ≡ starts false s spot → AreParts levels false spot parts rest →
      Begun levels plus run (sign s ∷ parts) rest

is_type : {levels : ℕ} {plus : Bool} {run rest : TokenList} {parts : List Tree} → 0 < levels → Begun (levels - 1) plus run parts rest → IsType levels plus run (whole (trees parts)) rest
is_type a (begun n b h) = formed a n b h

pub name_is : (text : List ℕ) (s : Span) (rest : TokenList) → is_reserved text ≡ false → (continues rest || begins_mark 33 rest) ≡ false → name_of (also (identifier text s) rest) ≡ Some text
name_is text s rest r g = rw (r, g) refl

name_not : (text : List ℕ) (s : Span) (rest : TokenList) → is_reserved text ≡ false → continues rest ≡ true → name_of (also (identifier text s) rest) ≡ None
name_not text s rest r g = rw (r, g) refl

same_parts : {levels : ℕ} {spot : Spot} {ps qs : List Tree} {rest : TokenList} → ps ≡ qs → AreParts levels false spot ps rest → AreParts levels false spot qs rest
same_parts {levels} {spot} {rest = rest} e a = subst (λ (ts : List Tree). AreParts levels false spot ts rest) e a

-- the lifetimes after `for`
lifetime_list_occurs : {levels : ℕ} {run middle : TokenList} {parts : List Tree} (binder : Binder) (b : Option TokenList) → LifetimeList run parts middle → {rest : TokenList} {back : List Tree} →
    AreParts levels false (at (after_for binder) middle b) back rest → AreParts levels false (at (stage.ForList binder) run b) (parts ++ back) rest
lifetime_list_occurs {middle = middle} binder b (no_lifetime {s = s} {p = p}) k = next_token (for_closes binder s p middle b) k
lifetime_list_occurs {middle = middle} binder b (last_lifetime {text = text} {s = s} {t = t} {u = u} {p = p} {q = q}) k =
    next_token (for_lifetime binder s t p text _ b) (next_token (for_end_closes binder u q middle b) k)
lifetime_list_occurs binder b (lifetimes {text = text} {s = s} {t = t} {u = u} {p = p} {q = q} {run = run} w) k =
    next_token (for_lifetime binder s t p text _ b) (next_token (for_further binder u q run b) (lifetime_list_occurs binder b w k))

lifetimes_occur : {levels : ℕ} {run middle : TokenList} {parts : List Tree} (binder : Binder) (b : Option TokenList) → Lifetimes run parts middle → {rest : TokenList} {back : List Tree} →
    AreParts levels false (at (after_for binder) middle b) back rest → AreParts levels false (at (stage.For binder) run b) (parts ++ back) rest
lifetimes_occur binder b (in_angles {s = s} {p = p} {run = run} w) k = next_token (for_opens binder s p run b) (lifetime_list_occurs binder b w k)

-- a spot where a path begins, in front of another spot
record PathAt (p : Stage) (kind : PathKind) (q : Stage) (b : Option TokenList) : Type 0 where
  at_name : (text : List ℕ) (s : Span) (run : TokenList) → next_at p (also (identifier text s) run) b ≡ nests (word text) (at (stage.Named kind) run None) q
  at_root : (s t : Span) (o : Spacing) (run : TokenList) → next_at p (also (punctuation 58 Joint s) (also (punctuation 58 o t) run)) b ≡ nests colons (at (stage.Colons kind false) run None) q

self_path : (b : Option TokenList) → PathAt stage.SelfTrait OfType stage.SelfTraitEnd b
unfolding next_at
self_path b = record { at_name = λ text s run. refl; at_root = λ s t o run. refl }

binder_path : (kind : BoundKind) (b : Option TokenList) → PathAt (stage.TraitPath kind) OfBound (after_bound kind) b
unfolding next_at
binder_path kind b = record { at_name = λ text s run. refl; at_root = λ s t o run. refl }

-- a spot where the path of a bound begins, perhaps with `for<..>`
record TraitAt (p : Stage) (kind : BoundKind) (b : Option TokenList) : Type 0 where
  for_at : (s : Span) (run : TokenList) → next_at p (also (identifier (codes "for") s) run) b ≡ takes (word (codes "for")) (at (stage.For (OfTrait kind)) run b)
  name_at : (text : List ℕ) (s : Span) (run : TokenList) → bytes_eq text (codes "for") ≡ false → next_at p (also (identifier text s) run) b ≡ nests (word text) (at (stage.Named OfBound) run None) (after_bound kind)
  root_at : (s t : Span) (o : Spacing) (run : TokenList) → next_at p (also (punctuation 58 Joint s) (also (punctuation 58 o t) run)) b ≡ nests colons (at (stage.Colons OfBound false) run None) (after_bound kind)

trait_at : (kind : BoundKind) (b : Option TokenList) → TraitAt (stage.Trait kind) kind b
unfolding next_at
trait_at kind b = record { for_at = λ s run. refl; name_at = λ text s run n. rw n refl; root_at = λ s t o run. refl }

question_at : (plus : Bool) (b : Option TokenList) → TraitAt (stage.Question plus) (Enclosed plus) b
unfolding next_at
question_at plus b = record { for_at = λ s run. refl; name_at = λ text s run n. rw n refl; root_at = λ s t o run. refl }

bound_at : (plus : Bool) (b : Option TokenList) → TraitAt (stage.Bound plus) (Listed plus) b
unfolding next_at
bound_at plus b = record { for_at = λ s run. refl; name_at = λ text s run n. rw n refl; root_at = λ s t o run. refl }

-- the beginnings of bounds
any_path_bound : {levels : ℕ} {kind : PathKind} {run rest : TokenList} {parts : List Tree} {e : Ending} → AnyPath levels kind run parts rest e → begins_bound run ≡ true
any_path_bound (from_name last) = refl
any_path_bound (from_name (longer l)) = refl
any_path_bound (from_root p) = refl

trait_begins : {levels : ℕ} {run rest : TokenList} {parts : List Tree} {e : Ending} → Trait levels run parts rest e → begins_bound run ≡ true
trait_begins (unbound n p) = any_path_bound p
trait_begins (for_all l p) = refl

bound_begins : {levels : ℕ} {run rest : TokenList} {parts : List Tree} {e : Ending} → Bound levels run parts rest e → begins_bound run ≡ true
bound_begins lifetime_bound = refl
bound_begins (trait_bound (unquestioned t)) = trait_begins t
bound_begins (trait_bound (questioned t)) = refl
bound_begins (enclosed q) = refl

bounds_begin : {levels : ℕ} {plus : Bool} {run rest : TokenList} {parts : List Tree} {e : Ending} → Bounds levels plus run parts rest e → begins_bound run ≡ true
bounds_begin (one_bound b) = bound_begins b
bounds_begin (last_bound b) = bound_begins b
bounds_begin (plus_after b f) = bound_begins b
bounds_begin (bounds b f k) = bound_begins b

mutual
  pub type_occurs : {levels : ℕ} {plus : Bool} {run rest : TokenList} {t : Tree} {e : Ending} → Written levels plus run t rest e → may_follow e rest ≡ true → IsType levels plus run t rest
  type_occurs {rest = rest} (a_name {text = text} {s = s} a r) f = name_alone a (name_is text s rest r (not_true (continues rest || begins_mark 33 rest) f))
  type_occurs (a_form a w) f = is_type a (form_occurs w f)

  form_occurs : {levels : ℕ} {plus : Bool} {run rest : TokenList} {parts : List Tree} {e : Ending} → Form levels plus run parts rest e → may_follow e rest ≡ true → Begun levels plus run parts rest
  form_occurs {plus = plus} (path {text = text} {s = s} {run = run} r l) f = begun (name_not text s run r (longer_on l)) (path_begins plus text s run r) (longer_occurs l f)
  form_occurs {plus = plus} (rooted {s = s} {t = t} {p = p} {run = run} w) f = begun refl (rooted_begins plus s t p run) (path_occurs w f false)
  form_occurs {plus = plus} (qualified {s = s} {p = p} {run = run} w) f = begun refl (qualified_begins plus s p run) (qualified_occurs w f)
  form_occurs {plus = plus} (borrowed {s = s} {p = p} {run = run} r) f = begun refl (reference_begins plus p s run (referent_begins r)) (referent_occurs r f)
  form_occurs {plus = plus} (borrowed_for {text = text} {s = s} {t = t} {u = u} {p = p} {q = q} {run = run} r) f = begun refl (lifetime_begins plus p q s t u text run) (referent_occurs r f)
  form_occurs {plus = plus} {rest = rest} (pointer_const {s = s} {t = t} {p = p} {run = run} w) f = begun refl (pointer_begins plus s p _) (next_token (const_taken t run) (next_type (target_needs run) (type_occurs w f) (no_part (end_ends rest))))
  form_occurs {plus = plus} {rest = rest} (pointer_mut {s = s} {t = t} {p = p} {run = run} w) f = begun refl (pointer_begins plus s p _) (next_token (pointer_mut_taken t run) (next_type (target_needs run) (type_occurs w f) (no_part (end_ends rest))))
  form_occurs {plus = plus} {rest = rest} (slice {s = s} {inside = inside} {e = e} w) f =
      begun refl (bracket_begins plus s inside rest) (next_type (element_needs inside (Some rest)) (type_occurs w (none_follows e)) (next_token (element_closes rest) (no_part (end_ends rest))))
  form_occurs {plus = plus} {rest = rest} (array {s = s} {u = u} {p = p} {inside = inside} {length = length} {first = first} {e = e} w) f =
      begun refl (bracket_begins plus s inside rest) (next_type (element_needs inside (Some rest)) (type_occurs w (mark_follows e 59 p u (also first length) idle_semicolon))
      (next_token (element_continues u p (also first length) rest) (next_kept (length_kept first length rest) (next_token (length_closes none rest) (no_part (end_ends rest))))))
  form_occurs {plus = plus} {rest = rest} (tuple {s = s} {inside = inside} l) f = begun refl (tuple_begins plus s inside rest) (listed_occurs rest l (no_part (end_ends rest)))
  form_occurs {plus = plus} (trait_object {s = s} {run = run} w) f = begun refl (dyn_begins plus s run) (bounds_occur w f)
  form_occurs {plus = plus} (bound_function {s = s} {run = run} l w) f = begun refl (for_begins plus s run) (lifetimes_occur OfFunction None l (function_occurs w f))
  form_occurs (function w) f = function_begun w f

  referent_occurs : {levels : ℕ} {run rest : TokenList} {parts : List Tree} {e : Ending} → Referent levels run parts rest e → may_follow e rest ≡ true → AreParts levels false (at stage.Referent run None) parts rest
  referent_occurs {run = run} {rest = rest} (shared n w) f = next_type (referent_needs run n (type_begins w)) (type_occurs w f) (no_part (end_ends rest))
  referent_occurs {rest = rest} (mutable {s = s} {run = run} w) f = next_token (mut_taken s run) (next_type (target_needs run) (type_occurs w f) (no_part (end_ends rest)))

  listed_occurs : {levels : ℕ} {run : TokenList} {parts : List Tree} (after : TokenList) → ListedTypes levels run parts → {rest : TokenList} {back : List Tree} →
      AreParts levels false (at stage.End after None) back rest → AreParts levels false (at stage.List run (Some after)) (parts ++ (sign (closing Parenthesis) ∷ back)) rest
  listed_occurs after nothing k = next_token (list_closes after) k
  listed_occurs after (single {e = e} w) k = next_type (list_needs after (type_begins w)) (type_occurs w (none_follows e)) (next_token (list_end_closes after) k)
  listed_occurs after (several {others = others} {s = s} {p = p} {e = e} w l) k =
      next_type (list_needs after (type_begins w)) (type_occurs w (mark_follows e 44 p s others idle_comma)) (next_token (list_further s p others after) (listed_occurs after l k))

  inputs_occur : {levels : ℕ} {run : TokenList} {parts : List Tree} (after : TokenList) → ListedTypes levels run parts → {rest : TokenList} {back : List Tree} →
      AreParts levels false (at stage.Output after None) back rest → AreParts levels false (at stage.Inputs run (Some after)) (parts ++ (sign (closing Parenthesis) ∷ back)) rest
  inputs_occur after nothing k = next_token (inputs_close after) k
  inputs_occur after (single {e = e} w) k = next_type (inputs_needs after (type_begins w)) (type_occurs w (none_follows e)) (next_token (input_end_closes after) k)
  inputs_occur after (several {others = others} {s = s} {p = p} {e = e} w l) k =
      next_type (inputs_needs after (type_begins w)) (type_occurs w (mark_follows e 44 p s others idle_comma)) (next_token (inputs_further s p others after) (inputs_occur after l k))

  qualified_occurs : {levels : ℕ} {run rest : TokenList} {parts : List Tree} {e : Ending} → Qualified levels run parts rest e → may_follow e rest ≡ true → AreParts levels false (at stage.SelfType run None) parts rest
  qualified_occurs (of_type {s = s} {t = t} {u = u} {p = p} {q = q} {run = run} {further = onward} {e = e} w l) f =
      next_still (self_needs run) (type_occurs w (mark_follows e 62 p s _ idle_angle)) (next_token (self_closes s p _) (next_token (self_continues t u q onward) (path_occurs l f false)))
  qualified_occurs (of_trait {s = s} {t = t} {u = u} {v = v} {p = p} {q = q} {run = run} {middle = middle} {further = onward} {f = g} w k l m) f =
      next_still (self_needs run) (type_occurs w k) (next_token (self_as v middle)
      (any_path_occurs (self_path None) l (mark_follows g 62 p s _ idle_angle) (next_token (self_trait_closes s p _) (next_token (self_continues t u q onward) (path_occurs m f false)))))

  any_path_occurs : {levels : ℕ} {p q : Stage} {kind : PathKind} {b : Option TokenList} {run rest : TokenList} {parts : List Tree} {e : Ending} → PathAt p kind q b → AnyPath levels kind run parts rest e → may_follow e rest ≡ true → {more : TokenList} {back : List Tree} →
      AreParts levels false (at q rest b) back more → AreParts levels false (at p run b) (parts ++ back) more
  any_path_occurs {kind = kind} {rest = rest} h (from_name (last {text = text} {s = s})) f k = next_nest (h.at_name text s rest) (no_part (named_ends kind rest f)) k
  any_path_occurs h (from_name (longer {text = text} {s = s} {run = run} l)) f k = next_nest (h.at_name text s run) (longer_occurs l f) k
  any_path_occurs h (from_root {s = s} {t = t} {p = o} {run = run} w) f k = next_nest (h.at_root s t o run) (path_occurs w f false) k

  path_occurs : {levels : ℕ} {kind : PathKind} {run rest : TokenList} {parts : List Tree} {e : Ending} → Path levels kind run parts rest e → may_follow e rest ≡ true → (b : Bool) → AreParts levels false (at (stage.Colons kind b) run None) parts rest
  path_occurs {kind = kind} {rest = rest} (last {text = text} {s = s}) f b = next_token (colons_name kind b text s rest) (no_part (named_ends kind rest f))
  path_occurs {kind = kind} (longer {text = text} {s = s} {run = run} l) f b = next_token (colons_name kind b text s run) (longer_occurs l f)

  longer_occurs : {levels : ℕ} {kind : PathKind} {run rest : TokenList} {parts : List Tree} {e : Ending} → Longer levels kind run parts rest e → may_follow e rest ≡ true → AreParts levels false (at (stage.Named kind) run None) parts rest
  longer_occurs {kind = kind} (member {s = s} {t = t} {p = p} {run = run} w) f = next_token (named_colons kind s t p run) (path_occurs w f true)
  longer_occurs {kind = kind} {rest = rest} {parts = parts} (angled a) f = same_parts (append-nil parts) (angled_occur kind a refl (no_part (segments_ends (argued kind) rest (not_true (begins_colons rest) f))))
  longer_occurs {kind = kind} (angled_member {s = s} {t = t} {p = p} {further = onward} a w) f = angled_occur kind a refl (next_token (segments_colons (argued kind) s t p onward) (path_occurs w f false))
  longer_occurs {kind = kind} {rest = rest} (called {s = s} {inside = inside} l) f = next_token (named_called kind s inside rest) (inputs_occur rest l (no_part (output_ends rest (not_true (begins_arrow rest) f))))
  longer_occurs {kind = kind} {rest = rest} (giving {s = s} {t = t} {u = u} {p = p} {inside = inside} {run = run} l w) f =
      next_token (named_called kind s inside _) (inputs_occur _ l (next_token (output_arrow t u p run) (next_type (target_needs run) (type_occurs w f) (no_part (end_ends rest)))))

  angled_occur : {levels : ℕ} (kind : PathKind) {other : PathKind} {run middle : TokenList} {parts : List Tree} → Angled levels other run parts middle → other ≡ argued kind → {rest : TokenList} {back : List Tree} →
      AreParts levels false (at (stage.Segments other) middle None) back rest → AreParts levels false (at (stage.Named kind) run None) (parts ++ back) rest
  angled_occur kind (plain {s = s} {p = p} {run = run} a) e k = next_token (named_angle kind s p run ∙ ap (λ (x : PathKind). takes (mark 60) (at (stage.Arguments x) run None)) (sym e)) (arguments_occur a k)
  angled_occur kind (turbofish {s = s} {t = t} {u = u} {p = p} {q = q} {run = run} a) e k =
      next_token (named_colons kind s t p _) (next_token (colons_angle kind u q run ∙ ap (λ (x : PathKind). takes (mark 60) (at (stage.Arguments x) run None)) (sym e)) (arguments_occur a k))

  arguments_occur : {levels : ℕ} {kind : PathKind} {run middle : TokenList} {parts : List Tree} → Arguments levels kind run parts middle → {rest : TokenList} {back : List Tree} →
      AreParts levels false (at (stage.Segments kind) middle None) back rest → AreParts levels false (at (stage.Arguments kind) run None) (parts ++ back) rest
  arguments_occur {kind = kind} {middle = middle} (finished {s = s} {p = p}) k = next_token (arguments_close kind s p middle) k
  arguments_occur {kind = kind} {middle = middle} (final {s = s} {p = p} {parts = parts} a) {rest = rest} {back = back} k =
      same_parts (sym (append_assoc parts (sign (mark 62) ∷ []) back)) (argument_occurs a (λ (e : Ending). mark_follows e 62 p s middle idle_angle) (next_token (argument_closes kind s p middle) k))
  arguments_occur {kind = kind} (further {s = s} {p = p} {others = others} {parts = parts} {back = outside} a w) {rest = rest} {back = back} k =
      same_parts (sym (append_assoc parts (sign (mark 44) ∷ outside) back)) (argument_occurs a (λ (e : Ending). mark_follows e 44 p s others idle_comma) (next_token (argument_further kind s p others) (arguments_occur w k)))

  argument_occurs : {levels : ℕ} {kind : PathKind} {run middle : TokenList} {parts : List Tree} → Argument levels kind run parts middle → ((e : Ending) → may_follow e middle ≡ true) → {rest : TokenList} {back : List Tree} →
      AreParts levels false (at (stage.ArgumentEnd kind) middle None) back rest → AreParts levels false (at (stage.Arguments kind) run None) (parts ++ back) rest
  argument_occurs {kind = kind} {middle = middle} (a_lifetime {text = text} {s = s} {t = t} {p = p}) f k = next_token (arguments_lifetime kind s t p text middle) k
  argument_occurs {kind = kind} {middle = middle} (a_literal {text = text} {s = s}) f k = next_token (arguments_literal kind text s middle) k
  argument_occurs {kind = kind} {middle = middle} (empty_braces {s = s}) f k = next_token (arguments_braces kind s none middle) (next_token (braced_closes kind middle) k)
  argument_occurs {kind = kind} {middle = middle} (braces {s = s} {first = first} {inside = inside}) f k =
      next_token (arguments_braces kind s (also first inside) middle) (next_kept (braced_kept kind first inside middle) (next_token (braced_closes kind middle) k))
  argument_occurs {kind = kind} {run = run} (a_type {e = e} n w) f k = next_type (arguments_needs kind run n (type_begins w)) (type_occurs w (f e)) k
  argument_occurs {kind = kind} (a_binding {text = text} {s = s} {u = u} {p = p} {run = run} {e = e} w) f k =
      next_token (arguments_name kind text s u p run) (next_token (equals_taken kind u p run) (next_type (value_needs kind run) (type_occurs w (f e)) k))

  bounds_occur : {levels : ℕ} {plus : Bool} {run rest : TokenList} {parts : List Tree} {e : Ending} → Bounds levels plus run parts rest e → may_follow e rest ≡ true → AreParts levels false (at (stage.Bound plus) run None) parts rest
  bounds_occur {rest = rest} {parts = parts} (one_bound b) f = same_parts (append-nil parts) (bound_occurs false b f (no_part (one_bound_ends rest)))
  bounds_occur {rest = rest} {parts = parts} (last_bound {e = e} b) f =
      let h = both_true (may_follow e rest) (not (begins_mark 43 rest)) f in
      same_parts (append-nil parts) (bound_occurs true b h.0 (no_part (bound_ends rest (not_true (begins_mark 43 rest) h.1))))
  bounds_occur {rest = rest} (plus_after {s = s} {p = p} b g) f = bound_occurs true b g (next_token (bound_joins s p rest) (no_part (further_ends rest (not_true (begins_bound rest) f))))
  bounds_occur (bounds {s = s} {p = p} {others = others} b g k) f = bound_occurs true b g (next_token (bound_joins s p others) (same_next (further_is others (bounds_begin k)) (bounds_occur k f)))

  bound_occurs : {levels : ℕ} (plus : Bool) {run rest : TokenList} {parts : List Tree} {e : Ending} → Bound levels run parts rest e → may_follow e rest ≡ true → {more : TokenList} {back : List Tree} →
      AreParts levels false (at (stage.BoundEnd plus) rest None) back more → AreParts levels false (at (stage.Bound plus) run None) (parts ++ back) more
  bound_occurs plus {rest = rest} (lifetime_bound {text = text} {s = s} {t = t} {p = p}) f k = next_token (bound_lifetime plus s t p text rest) k
  bound_occurs plus (trait_bound (unquestioned w)) f k = trait_occurs (bound_at plus None) w f k
  bound_occurs plus (trait_bound (questioned {s = s} {p = p} {run = run} w)) f k = next_token (listed_question plus s p run) (trait_occurs (trait_at (Listed plus) None) w f k)
  bound_occurs plus {rest = rest} (enclosed {s = s} {inside = inside} {parts = parts} {e = e} w) f {back = back} k =
      same_parts (sym (append_assoc (sign (opening Parenthesis) ∷ parts) (sign (closing Parenthesis) ∷ []) back))
      (next_token (bound_encloses plus s inside rest) (enclosed_occurs plus rest w (none_follows e) (next_token (enclosed_closes plus rest) k)))

  enclosed_occurs : {levels : ℕ} (plus : Bool) (after : TokenList) {run rest : TokenList} {parts : List Tree} {e : Ending} → Questioned levels run parts rest e → may_follow e rest ≡ true → {more : TokenList} {back : List Tree} →
      AreParts levels false (at (stage.EnclosedEnd plus) rest (Some after)) back more → AreParts levels false (at (stage.Question plus) run (Some after)) (parts ++ back) more
  enclosed_occurs plus after (unquestioned w) f k = trait_occurs (question_at plus (Some after)) w f k
  enclosed_occurs plus after (questioned {s = s} {p = p} {run = run} w) f k = next_token (enclosed_question plus s p run (Some after)) (trait_occurs (trait_at (Enclosed plus) (Some after)) w f k)

  trait_occurs : {levels : ℕ} {p : Stage} {kind : BoundKind} {b : Option TokenList} {run rest : TokenList} {parts : List Tree} {e : Ending} → TraitAt p kind b → Trait levels run parts rest e → may_follow e rest ≡ true → {more : TokenList} {back : List Tree} →
      AreParts levels false (at (after_bound kind) rest b) back more → AreParts levels false (at p run b) (parts ++ back) more
  trait_occurs {rest = rest} h (unbound n (from_name (last {text = text} {s = s}))) f k = next_nest (h.name_at text s rest n) (no_part (named_ends OfBound rest f)) k
  trait_occurs h (unbound n (from_name (longer {text = text} {s = s} {run = run} l))) f k = next_nest (h.name_at text s run n) (longer_occurs l f) k
  trait_occurs h (unbound n (from_root {s = s} {t = t} {p = o} {run = run} w)) f k = next_nest (h.root_at s t o run) (path_occurs w f false) k
  trait_occurs {kind = kind} {b = b} h (for_all {s = s} {run = run} {parts = parts} {others = others} l w) f {back = back} k =
      same_parts (sym (append_assoc (sign (word (codes "for")) ∷ parts) others back)) (next_token (h.for_at s run) (lifetimes_occur (OfTrait kind) b l (any_path_occurs (binder_path kind b) w f k)))

  function_begun : {levels : ℕ} {plus : Bool} {run rest : TokenList} {parts : List Tree} {e : Ending} → Function levels run parts rest e → may_follow e rest ≡ true → Begun levels plus run parts rest
  function_begun {plus = plus} (not_safe {s = s} {run = run} w) f = begun refl (unsafe_begins plus s run) (unsafe_occurs w f)
  function_begun {plus = plus} (safe (linked {s = s} {t = t} {run = run} w)) f = begun refl (extern_begins plus s _) (next_token (extern_fn t run) (taking_occurs w f))
  function_begun {plus = plus} (safe (linked_as {text = text} {s = s} {t = t} {u = u} {run = run} w)) f = begun refl (extern_begins plus s _) (next_token (extern_name text u _) (next_token (linked_fn t run) (taking_occurs w f)))
  function_begun {plus = plus} (safe (unlinked {t = t} {run = run} w)) f = begun refl (fn_begins plus t run) (taking_occurs w f)

  function_occurs : {levels : ℕ} {run rest : TokenList} {parts : List Tree} {e : Ending} → Function levels run parts rest e → may_follow e rest ≡ true → AreParts levels false (at stage.Qualified run None) parts rest
  function_occurs (not_safe {s = s} {run = run} w) f = next_token (qualified_unsafe s run) (unsafe_occurs w f)
  function_occurs (safe (linked {s = s} {t = t} {run = run} w)) f = next_token (qualified_extern s _) (next_token (extern_fn t run) (taking_occurs w f))
  function_occurs (safe (linked_as {text = text} {s = s} {t = t} {u = u} {run = run} w)) f = next_token (qualified_extern s _) (next_token (extern_name text u _) (next_token (linked_fn t run) (taking_occurs w f)))
  function_occurs (safe (unlinked {t = t} {run = run} w)) f = next_token (qualified_fn t run) (taking_occurs w f)

  unsafe_occurs : {levels : ℕ} {run rest : TokenList} {parts : List Tree} {e : Ending} → Linked levels run parts rest e → may_follow e rest ≡ true → AreParts levels false (at stage.Unsafe run None) parts rest
  unsafe_occurs (linked {s = s} {t = t} {run = run} w) f = next_token (unsafe_extern s _) (next_token (extern_fn t run) (taking_occurs w f))
  unsafe_occurs (linked_as {text = text} {s = s} {t = t} {u = u} {run = run} w) f = next_token (unsafe_extern s _) (next_token (extern_name text u _) (next_token (linked_fn t run) (taking_occurs w f)))
  unsafe_occurs (unlinked {t = t} {run = run} w) f = next_token (unsafe_fn t run) (taking_occurs w f)

  taking_occurs : {levels : ℕ} {run rest : TokenList} {parts : List Tree} {e : Ending} → Taking levels run parts rest e → may_follow e rest ≡ true → AreParts levels false (at stage.Function run None) parts rest
  taking_occurs {rest = rest} (takes_only {s = s} {inside = inside} l) f = next_token (function_opens s inside rest) (parameters_occur rest l (no_part (output_ends rest (not_true (begins_arrow rest) f))))
  taking_occurs {rest = rest} (takes_and_yields {s = s} {t = t} {u = u} {p = p} {inside = inside} {run = run} l w) f =
      next_token (function_opens s inside _) (parameters_occur _ l (next_token (output_arrow t u p run) (next_type (target_needs run) (type_occurs w f) (no_part (end_ends rest)))))

  parameters_occur : {levels : ℕ} {run : TokenList} {parts : List Tree} (after : TokenList) → Parameters levels run parts → {rest : TokenList} {back : List Tree} →
      AreParts levels false (at stage.Output after None) back rest → AreParts levels false (at stage.Taken run (Some after)) (parts ++ (sign (closing Parenthesis) ∷ back)) rest
  parameters_occur after no_parameter k = next_token (taken_closes after) k
  parameters_occur after (last_parameter w) k = parameter_occurs after w none_follows (next_token (one_taken_closes after) k)
  parameters_occur after (parameters {s = s} {p = p} {others = others} {parts = parts} {back = outside} w l) {back = back} k =
      same_parts (sym (append_assoc parts (sign (mark 44) ∷ outside) (sign (closing Parenthesis) ∷ back)))
      (parameter_occurs after w (λ (e : Ending). mark_follows e 44 p s others idle_comma) (next_token (taken_further s p others after) (parameters_occur after l k)))

  parameter_occurs : {levels : ℕ} {run middle : TokenList} {parts : List Tree} (after : TokenList) → Parameter levels run parts middle → ((e : Ending) → may_follow e middle ≡ true) → {rest : TokenList} {back : List Tree} →
      AreParts levels false (at stage.OneTaken middle (Some after)) back rest → AreParts levels false (at stage.Taken run (Some after)) (parts ++ back) rest
  parameter_occurs {run = run} after (unnamed {e = e} n w) f k = next_type (parameter_needs run after n (type_begins w)) (type_occurs w (f e)) k
  parameter_occurs after (with_name {text = text} {s = s} {u = u} {p = p} {run = run} {e = e} n w) f k =
      next_token (parameter_name text s u p run after n) (next_token (typed_taken u p run after) (next_type (typed_needs run after (type_begins w)) (type_occurs w (f e)) k))
