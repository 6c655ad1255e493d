-- The grammar of types as a table: the next step at each spot inside a type.
use Rattle.std.specs.Prelude.{ℕ, ◌==◌, ◌&&◌, ◌||◌, not, if◌then◌else◌, List, Bool, true, false, Option, Some, None, codes}
use Rattle.std.specs.Str.{bytes_eq}
use Rattle.logos_lexeme.specs.declared.lexeme.Span.{Span}
use Rattle.logos_lexeme.specs.declared.lexeme.Spacing.TheVariants.{Joint}
use Rattle.logos_lexeme.specs.declared.lexeme.Delimiter.{Delimiter}
use Rattle.logos_lexeme.specs.declared.lexeme.Delimiter.TheVariants.{Parenthesis, Bracket, Brace}
use Rattle.logos_token.specs.Tokens.{TokenList, identifier, punctuation, literal, group, none, also, span_of}
use Rattle.logos_type_reader.specs.declared.table.stage.PathKind.{PathKind}
use Rattle.logos_type_reader.specs.declared.table.stage.PathKind.TheVariants.{Plain, OfType, OfBound}
use Rattle.logos_type_reader.specs.declared.table.stage.BoundKind.{BoundKind}
use Rattle.logos_type_reader.specs.declared.table.stage.BoundKind.TheVariants.{Listed, Enclosed}
use Rattle.logos_type_reader.specs.declared.table.stage.Binder.{Binder}
use Rattle.logos_type_reader.specs.declared.table.stage.Binder.TheVariants.{OfFunction, OfTrait}
use Rattle.logos_type_reader.specs.declared.table.stage.Stage.{Stage}
use Rattle.logos_type_reader.specs.declared.table.stage.Stage.TheVariants as stage
use Rattle.logos_type.specs.Parts.{Sign, word, mark, colons, arrow, value, opening, closing, reference, lifetime, other_lifetime}

-- The span of the first token, or 0..0 if there is none.
abbrev pub first_span : TokenList → Span
first_span none = record { from = 0; to = 0 }
first_span (also token rest) = span_of token

-- The reasons why a run does not begin with a type.
pub data Fault : Type 0 where
  -- An unsupported type is at this span.
  unsupported : (span : Span) → Fault
  -- The first token that does not fit is at this span.
  mismatch : (span : Span) → Fault
  -- More types are nested than the limit allows.
  too_deep : Fault

-- The state of the reader: a stage, the tokens at the spot, and, if these are inside a group, the
-- tokens after the group.
pub record Spot : Type 0 where
  pub stage : Stage
  pub run : TokenList
  pub outside : Option TokenList

-- The tokens after the open group, if there is one.
abbrev pub outer : TokenList → Option TokenList → TokenList
outer run None = run
outer run (Some rest) = rest

-- The next step.
pub data Move : Type 0 where
  -- Ends the construct that was begun.
  ends : Move
  -- Takes this token.
  takes : Sign → Spot → Move
  -- Takes this token, which occurs only in unsupported types.
  bars : Sign → Spot → Move
  -- Reads a type and continues at this stage. `+` can join bounds if `plus` is `true`.
  needs : (plus : Bool) → Stage → Move
  -- Reads a type that is never replaced and continues at this stage.
  keeps_type : Stage → Move
  -- Takes these tokens without reading types in them.
  keeps : TokenList → Spot → Move
  -- Takes this token, with which a path or bounds begin, reads the path or bounds from the spot on,
  -- and continues at the stage.
  nests : Sign → Spot → Stage → Move
  -- No step fits, for this reason.
  stops : Fault → Move

-- The beginning of a type: its first token, whether that token occurs only in unsupported types,
-- and the spot after it; or the reason why no type begins.
pub data First : Type 0 where
  starts : (barred : Bool) → Sign → Spot → First
  refused : Fault → First

-- No step fits, since the first token does not fit.
abbrev pub mismatches : TokenList → Move
mismatches run = stops (mismatch (first_span run))

-- A stage with the tokens at the spot.
abbrev pub to : Stage → TokenList → Option TokenList → Spot
to p run outside = record { stage = p; run = run; outside = outside }

-- Whether `::` comes first.
abbrev pub begins_colons : TokenList → Bool
begins_colons (also (punctuation c Joint span) (also (punctuation d spacing other) rest)) = (c == 58) && (d == 58)
begins_colons run = false

-- Whether this character comes first.
abbrev pub begins_mark : ℕ → TokenList → Bool
begins_mark wanted (also (punctuation c spacing span) rest) = c == wanted
begins_mark wanted run = false

-- Whether `->` comes first.
abbrev pub begins_arrow : TokenList → Bool
begins_arrow (also (punctuation c Joint span) (also (punctuation d spacing other) rest)) = (c == 45) && (d == 62)
begins_arrow run = false

-- Whether `...` comes first.
abbrev pub begins_dots : TokenList → Bool
begins_dots (also (punctuation c Joint span) (also (punctuation d Joint other) (also (punctuation e spacing third) rest))) = ((c == 46) && (d == 46)) && (e == 46)
begins_dots run = false

-- Whether a group in parentheses comes first.
abbrev pub begins_parenthesis : TokenList → Bool
begins_parenthesis (also (group Parenthesis span inside) rest) = true
begins_parenthesis run = false

-- Whether the run begins with a `:` that is not the start of `::`.
abbrev pub typing : TokenList → Bool
typing run = begins_mark 58 run && not (begins_colons run)

-- Whether a path continues after a name: with `<`, `::` or a parenthesis.
abbrev pub continues : TokenList → Bool
continues run = (begins_mark 60 run || begins_colons run) || begins_parenthesis run

-- Whether a bound comes first: a name, `'`, `?`, `::` or a parenthesis.
abbrev pub begins_bound : TokenList → Bool
begins_bound (also (identifier text span) rest) = true
begins_bound run = ((begins_mark 39 run || begins_mark 63 run) || begins_colons run) || begins_parenthesis run

-- The tokens after the first two.
abbrev pub after_two : TokenList → TokenList
after_two (also first (also second rest)) = rest
after_two run = none

-- The tokens after the first three.
abbrev pub after_three : TokenList → TokenList
after_three (also first (also second (also third rest))) = rest
after_three run = none

-- Opens a group. Only one group can be open at a time.
abbrev pub opens : Delimiter → Span → Stage → TokenList → TokenList → Option TokenList → Move
opens delimiter span next inside rest None = takes (opening delimiter) (to next inside (Some rest))
opens delimiter span next inside rest (Some other) = stops (mismatch span)

-- The kind of a path after its arguments: it is no longer the name of a macro.
abbrev pub argued : PathKind → PathKind
argued Plain = OfType
argued OfType = OfType
argued OfBound = OfBound

-- After the last name of a path: `!` makes a macro of the path if it is a type and has had no
-- arguments.
abbrev pub name_end : PathKind → TokenList → Option TokenList → Move
name_end Plain (also (punctuation c spacing span) rest) outside = if c == 33 then bars (mark 33) (to stage.Macro rest outside) else ends
name_end kind run outside = ends

-- After the arguments of a path: `::`, or the end of the path.
abbrev pub segments_move : PathKind → TokenList → Option TokenList → Move
segments_move kind run outside = if begins_colons run then takes colons (to (stage.Colons kind false) (after_two run) outside) else ends

-- After a name of a path: `<`, parentheses, `::`, or the end of the path.
abbrev pub named_move : PathKind → TokenList → Option TokenList → Move
named_move kind (also (punctuation c spacing span) rest) outside =
    if c == 60 then takes (mark 60) (to (stage.Arguments (argued kind)) rest outside)
    else (if begins_colons (also (punctuation c spacing span) rest) then takes colons (to (stage.Colons kind true) (after_two (also (punctuation c spacing span) rest)) outside)
    else name_end kind (also (punctuation c spacing span) rest) outside)
named_move kind (also (group Parenthesis span inside) rest) outside = opens Parenthesis span stage.Inputs inside rest outside
named_move kind run outside = ends

-- After the `!` of a macro: a group.
abbrev pub macro_move : TokenList → Option TokenList → Move
macro_move (also (group delimiter span inside) rest) outside = takes (opening delimiter) (to stage.End rest outside)
macro_move run outside = mismatches run

-- After the parentheses of a path or of a function: optionally `->`.
abbrev pub output_move : TokenList → Option TokenList → Move
output_move run outside = if begins_arrow run then takes arrow (to stage.Target (after_two run) outside) else ends

-- Closes the group and continues after it at this stage.
abbrev pub closes : Delimiter → Stage → Option TokenList → Move
closes delimiter next (Some rest) = takes (closing delimiter) (to next rest None)
closes delimiter next None = ends

-- In the parentheses of a path: a type, or the end of the parentheses.
abbrev pub inputs_move : TokenList → Option TokenList → Move
inputs_move none outside = closes Parenthesis stage.Output outside
inputs_move run outside = needs true stage.InputEnd

-- After a type in the parentheses of a path: `,` or the end.
abbrev pub input_end_move : TokenList → Option TokenList → Move
input_end_move none outside = closes Parenthesis stage.Output outside
input_end_move (also (punctuation c spacing span) rest) outside = if c == 44 then takes (mark 44) (to stage.Inputs rest outside) else stops (mismatch span)
input_end_move run outside = mismatches run

-- After `::`: a name, or `<` if arguments are allowed.
abbrev pub colons_move : PathKind → Bool → TokenList → Option TokenList → Move
colons_move kind arguments (also (identifier text span) rest) outside = takes (word text) (to (stage.Named kind) rest outside)
colons_move kind arguments (also (punctuation c spacing span) rest) outside =
    if arguments && (c == 60) then takes (mark 60) (to (stage.Arguments (argued kind)) rest outside) else stops (mismatch span)
colons_move kind arguments run outside = mismatches run

-- The lifetime among the arguments of a path of this kind.
abbrev pub argument_lifetime : PathKind → List ℕ → Sign
argument_lifetime OfBound text = other_lifetime text
argument_lifetime kind text = lifetime text

-- After a `'` among arguments: the name of the lifetime.
abbrev pub lifetime_move : PathKind → TokenList → Option TokenList → Move
lifetime_move kind (also (identifier text span) rest) outside = takes (argument_lifetime kind text) (to (stage.ArgumentEnd kind) rest outside)
lifetime_move kind run outside = mismatches run

-- Among arguments, at a name: before `=` it is bound, before `:` constrained, and otherwise a type
-- begins.
abbrev pub argument_word : PathKind → List ℕ → TokenList → Option TokenList → Move
argument_word kind text rest outside =
    if begins_mark 61 rest then takes (word text) (to (stage.Equals kind) rest outside)
    else (if typing rest then bars (word text) (to (stage.Constrained kind) rest outside)
    else needs true (stage.ArgumentEnd kind))

-- Among arguments: `>`, a lifetime, a literal, braces, a name before `=` or `:`, or a type.
abbrev pub arguments_move : PathKind → TokenList → Option TokenList → Move
arguments_move kind (also (punctuation c spacing span) rest) outside =
    if c == 62 then takes (mark 62) (to (stage.Segments kind) rest outside)
    else (if c == 39 then lifetime_move kind rest outside
    else needs true (stage.ArgumentEnd kind))
arguments_move kind (also (literal text span) rest) outside = takes (value text) (to (stage.ArgumentEnd kind) rest outside)
arguments_move kind (also (identifier text span) rest) outside = argument_word kind text rest outside
arguments_move kind (also (group Brace span inside) rest) outside = opens Brace span (stage.Braced kind) inside rest outside
arguments_move kind run outside = needs true (stage.ArgumentEnd kind)

-- In braces: tokens in which no types are read.
abbrev pub braced_move : PathKind → TokenList → Option TokenList → Move
braced_move kind none outside = closes Brace (stage.ArgumentEnd kind) outside
braced_move kind run outside = keeps run (to (stage.Braced kind) none outside)

-- After a name before `=`: the `=`.
abbrev pub equals_move : PathKind → TokenList → Option TokenList → Move
equals_move kind (also (punctuation c spacing span) rest) outside = if c == 61 then takes (mark 61) (to (stage.Value kind) rest outside) else stops (mismatch span)
equals_move kind run outside = mismatches run

-- After a name before `:`: the `:`, and bounds.
abbrev pub constrained_move : PathKind → TokenList → Option TokenList → Move
constrained_move kind (also (punctuation c spacing span) rest) outside = if c == 58 then nests (mark 58) (to (stage.Bound true) rest None) (stage.ArgumentEnd kind) else stops (mismatch span)
constrained_move kind run outside = mismatches run

-- After an argument: `,` or `>`.
abbrev pub argument_end_move : PathKind → TokenList → Option TokenList → Move
argument_end_move kind (also (punctuation c spacing span) rest) outside =
    if c == 44 then takes (mark 44) (to (stage.Arguments kind) rest outside)
    else (if c == 62 then takes (mark 62) (to (stage.Segments kind) rest outside)
    else stops (mismatch span))
argument_end_move kind run outside = mismatches run

-- After `&` and its lifetime: optionally `mut`, then a type.
abbrev pub referent_move : TokenList → Option TokenList → Move
referent_move (also (identifier text span) rest) outside = if bytes_eq text (codes "mut") then takes (word text) (to stage.Target rest outside) else needs false stage.End
referent_move run outside = needs false stage.End

-- After `*`: `const` or `mut`.
abbrev pub pointer_move : TokenList → Option TokenList → Move
pointer_move (also (identifier text span) rest) outside = if bytes_eq text (codes "const") || bytes_eq text (codes "mut") then takes (word text) (to stage.Target rest outside) else stops (mismatch span)
pointer_move run outside = mismatches run

-- In parentheses: types with commas between them, with an optional comma after the last.
abbrev pub list_move : TokenList → Option TokenList → Move
list_move none outside = closes Parenthesis stage.End outside
list_move run outside = needs true stage.ListEnd

-- After a type in parentheses: `,` or the end.
abbrev pub list_end_move : TokenList → Option TokenList → Move
list_end_move none outside = closes Parenthesis stage.End outside
list_end_move (also (punctuation c spacing span) rest) outside = if c == 44 then takes (mark 44) (to stage.List rest outside) else stops (mismatch span)
list_end_move run outside = mismatches run

-- In brackets, after the type: nothing, or `;`.
abbrev pub element_end_move : TokenList → Option TokenList → Move
element_end_move none outside = closes Bracket stage.End outside
element_end_move (also (punctuation c spacing span) rest) outside = if c == 59 then takes (mark 59) (to stage.Length rest outside) else stops (mismatch span)
element_end_move run outside = mismatches run

-- After the `;` of an array: tokens in which no types are read.
abbrev pub length_move : TokenList → Option TokenList → Move
length_move none outside = mismatches none
length_move run outside = keeps run (to stage.LengthEnd none outside)

-- After the type that follows `<`: `as` or `>`.
abbrev pub self_end_move : TokenList → Option TokenList → Move
self_end_move (also (identifier text span) rest) outside = if bytes_eq text (codes "as") then takes (word text) (to stage.SelfTrait rest outside) else stops (mismatch span)
self_end_move (also (punctuation c spacing span) rest) outside = if c == 62 then takes (mark 62) (to stage.SelfClosed rest outside) else stops (mismatch span)
self_end_move run outside = mismatches run

-- Where a path begins: a name or `::`. `next` is the stage after the path.
abbrev pub path_move : PathKind → Stage → TokenList → Move
path_move kind next (also (identifier text span) rest) = nests (word text) (to (stage.Named kind) rest None) next
path_move kind next (also (punctuation c spacing span) rest) =
    if begins_colons (also (punctuation c spacing span) rest) then nests colons (to (stage.Colons kind false) (after_two (also (punctuation c spacing span) rest)) None) next
    else stops (mismatch span)
path_move kind next run = mismatches run

-- After the path that follows `as`: `>`.
abbrev pub self_trait_end_move : TokenList → Option TokenList → Move
self_trait_end_move (also (punctuation c spacing span) rest) outside = if c == 62 then takes (mark 62) (to stage.SelfClosed rest outside) else stops (mismatch span)
self_trait_end_move run outside = mismatches run

-- After the `>` of `<T as P>`: `::`.
abbrev pub self_closed_move : TokenList → Option TokenList → Move
self_closed_move run outside = if begins_colons run then takes colons (to (stage.Colons OfType false) (after_two run) outside) else mismatches run

-- The stage after a bound.
abbrev pub after_bound : BoundKind → Stage
after_bound (Listed plus) = stage.BoundEnd plus
after_bound (Enclosed plus) = stage.EnclosedEnd plus

-- At `'` where a bound is expected: a lifetime.
abbrev pub bound_lifetime_move : Bool → TokenList → Option TokenList → Move
bound_lifetime_move plus (also (identifier text span) rest) outside = takes (other_lifetime text) (to (stage.BoundEnd plus) rest outside)
bound_lifetime_move plus run outside = mismatches run

-- Where the path of a bound is expected, with an optional `for<..>` before it.
abbrev pub trait_move : BoundKind → TokenList → Option TokenList → Move
trait_move kind (also (identifier text span) rest) outside =
    if bytes_eq text (codes "for") then takes (word text) (to (stage.For (OfTrait kind)) rest outside) else path_move OfBound (after_bound kind) (also (identifier text span) rest)
trait_move kind run outside = path_move OfBound (after_bound kind) run

-- Where the path of a bound is expected, with an optional `?` before it.
abbrev pub question_move : BoundKind → TokenList → Option TokenList → Move
question_move kind (also (punctuation c spacing span) rest) outside =
    if c == 63 then takes (mark 63) (to (stage.Trait kind) rest outside) else trait_move kind (also (punctuation c spacing span) rest) outside
question_move kind run outside = trait_move kind run outside

-- A bound: a lifetime, a path, or a path in parentheses.
abbrev pub bound_move : Bool → TokenList → Option TokenList → Move
bound_move plus (also (punctuation c spacing span) rest) outside =
    if c == 39 then bound_lifetime_move plus rest outside else question_move (Listed plus) (also (punctuation c spacing span) rest) outside
bound_move plus (also (group Parenthesis span inside) rest) outside = opens Parenthesis span (stage.Question plus) inside rest outside
bound_move plus run outside = question_move (Listed plus) run outside

-- After a bound: optionally `+`.
abbrev pub bound_end_move : Bool → TokenList → Option TokenList → Move
bound_end_move plus (also (punctuation c spacing span) rest) outside = if plus && (c == 43) then takes (mark 43) (to stage.Further rest outside) else ends
bound_end_move plus run outside = ends

-- After `+`: optionally a bound.
abbrev pub further_move : TokenList → Option TokenList → Move
further_move run outside = if begins_bound run then bound_move true run outside else ends

-- After the path in the parentheses of a bound: the end of the parentheses.
abbrev pub enclosed_end_move : Bool → TokenList → Option TokenList → Move
enclosed_end_move plus none outside = closes Parenthesis (stage.BoundEnd plus) outside
enclosed_end_move plus run outside = mismatches run

-- The stage after `for<..>`: a function, or the path of a bound.
abbrev pub after_for : Binder → Stage
after_for OfFunction = stage.Qualified
after_for (OfTrait kind) = stage.TraitPath kind

-- After `for`: `<`.
abbrev pub for_move : Binder → TokenList → Option TokenList → Move
for_move binder (also (punctuation c spacing span) rest) outside = if c == 60 then takes (mark 60) (to (stage.ForList binder) rest outside) else stops (mismatch span)
for_move binder run outside = mismatches run

-- At `'` in `for<..>`: a lifetime.
abbrev pub for_lifetime_move : Binder → TokenList → Option TokenList → Move
for_lifetime_move binder (also (identifier text span) rest) outside = takes (other_lifetime text) (to (stage.ForEnd binder) rest outside)
for_lifetime_move binder run outside = mismatches run

-- Among the lifetimes of `for<..>`: a lifetime, or `>`.
abbrev pub for_list_move : Binder → TokenList → Option TokenList → Move
for_list_move binder (also (punctuation c spacing span) rest) outside =
    if c == 62 then takes (mark 62) (to (after_for binder) rest outside)
    else (if c == 39 then for_lifetime_move binder rest outside
    else stops (mismatch span))
for_list_move binder run outside = mismatches run

-- After a lifetime of `for<..>`: `,` or `>`.
abbrev pub for_end_move : Binder → TokenList → Option TokenList → Move
for_end_move binder (also (punctuation c spacing span) rest) outside =
    if c == 44 then takes (mark 44) (to (stage.ForList binder) rest outside)
    else (if c == 62 then takes (mark 62) (to (after_for binder) rest outside)
    else stops (mismatch span))
for_end_move binder run outside = mismatches run

-- After `extern` and its literal: `fn`.
abbrev pub linked_move : TokenList → Option TokenList → Move
linked_move (also (identifier text span) rest) outside = if bytes_eq text (codes "fn") then takes (word text) (to stage.Function rest outside) else stops (mismatch span)
linked_move run outside = mismatches run

-- After `unsafe`: `extern` or `fn`.
abbrev pub unsafe_move : TokenList → Option TokenList → Move
unsafe_move (also (identifier text span) rest) outside = if bytes_eq text (codes "extern") then takes (word text) (to stage.Extern rest outside) else linked_move (also (identifier text span) rest) outside
unsafe_move run outside = mismatches run

-- After `for<..>`: `unsafe`, `extern` or `fn`.
abbrev pub qualified_move : TokenList → Option TokenList → Move
qualified_move (also (identifier text span) rest) outside = if bytes_eq text (codes "unsafe") then takes (word text) (to stage.Unsafe rest outside) else unsafe_move (also (identifier text span) rest) outside
qualified_move run outside = mismatches run

-- After `extern`: optionally a literal.
abbrev pub extern_move : TokenList → Option TokenList → Move
extern_move (also (literal text span) rest) outside = takes (value text) (to stage.Linked rest outside)
extern_move run outside = linked_move run outside

-- After `fn`: the parameters, in parentheses.
abbrev pub function_move : TokenList → Option TokenList → Move
function_move (also (group Parenthesis span inside) rest) outside = opens Parenthesis span stage.Taken inside rest outside
function_move run outside = mismatches run

-- Where the type of a parameter or `...` is expected.
abbrev pub taken_value : TokenList → Option TokenList → Move
taken_value run outside = if begins_dots run then bars (mark 46) (to stage.Variadic (after_three run) outside) else needs true stage.OneTaken

-- Among the parameters: a name before `:`, a type, or `...`.
abbrev pub taken_move : TokenList → Option TokenList → Move
taken_move none outside = closes Parenthesis stage.Output outside
taken_move (also (identifier text span) rest) outside = if typing rest then takes (word text) (to stage.Typed rest outside) else needs true stage.OneTaken
taken_move run outside = taken_value run outside

-- Between the name of a parameter and `:`: the `:`.
abbrev pub typed_move : TokenList → Option TokenList → Move
typed_move (also (punctuation c spacing span) rest) outside = if c == 58 then takes (mark 58) (to stage.TypedValue rest outside) else stops (mismatch span)
typed_move run outside = mismatches run

-- After one parameter of a function: `,` or the end.
abbrev pub one_taken_move : TokenList → Option TokenList → Move
one_taken_move none outside = closes Parenthesis stage.Output outside
one_taken_move (also (punctuation c spacing span) rest) outside = if c == 44 then takes (mark 44) (to stage.Taken rest outside) else stops (mismatch span)
one_taken_move run outside = mismatches run

-- After `...`: optionally `,`.
abbrev pub variadic_move : TokenList → Option TokenList → Move
variadic_move none outside = closes Parenthesis stage.Output outside
variadic_move (also (punctuation c spacing span) rest) outside = if c == 44 then takes (mark 44) (to stage.VariadicEnd rest outside) else stops (mismatch span)
variadic_move run outside = mismatches run

-- After the `,` that follows `...`: the end.
abbrev pub variadic_end_move : TokenList → Option TokenList → Move
variadic_end_move none outside = closes Parenthesis stage.Output outside
variadic_end_move run outside = mismatches run

-- The next step at a spot inside a type.
unfoldable pub next_at : Stage → TokenList → Option TokenList → Move
next_at stage.End run outside = ends
next_at (stage.Named kind) run outside = named_move kind run outside
next_at (stage.Segments kind) run outside = segments_move kind run outside
next_at (stage.Colons kind arguments) run outside = colons_move kind arguments run outside
next_at (stage.Arguments kind) run outside = arguments_move kind run outside
next_at (stage.Equals kind) run outside = equals_move kind run outside
next_at (stage.Value kind) run outside = needs true (stage.ArgumentEnd kind)
next_at (stage.Constrained kind) run outside = constrained_move kind run outside
next_at (stage.Braced kind) run outside = braced_move kind run outside
next_at (stage.ArgumentEnd kind) run outside = argument_end_move kind run outside
next_at stage.Macro run outside = macro_move run outside
next_at stage.Inputs run outside = inputs_move run outside
next_at stage.InputEnd run outside = input_end_move run outside
next_at stage.Output run outside = output_move run outside
next_at stage.SelfType run outside = keeps_type stage.SelfEnd
next_at stage.SelfEnd run outside = self_end_move run outside
next_at stage.SelfTrait run outside = path_move OfType stage.SelfTraitEnd run
next_at stage.SelfTraitEnd run outside = self_trait_end_move run outside
next_at stage.SelfClosed run outside = self_closed_move run outside
next_at stage.Referent run outside = referent_move run outside
next_at stage.Pointer run outside = pointer_move run outside
next_at stage.Target run outside = needs false stage.End
next_at stage.List run outside = list_move run outside
next_at stage.ListEnd run outside = list_end_move run outside
next_at stage.Element run outside = needs true stage.ElementEnd
next_at stage.ElementEnd run outside = element_end_move run outside
next_at stage.Length run outside = length_move run outside
next_at stage.LengthEnd run outside = closes Bracket stage.End outside
next_at (stage.Bound plus) run outside = bound_move plus run outside
next_at (stage.Question plus) run outside = question_move (Enclosed plus) run outside
next_at (stage.Trait kind) run outside = trait_move kind run outside
next_at (stage.TraitPath kind) run outside = path_move OfBound (after_bound kind) run
next_at (stage.BoundEnd plus) run outside = bound_end_move plus run outside
next_at stage.Further run outside = further_move run outside
next_at (stage.EnclosedEnd plus) run outside = enclosed_end_move plus run outside
next_at (stage.For binder) run outside = for_move binder run outside
next_at (stage.ForList binder) run outside = for_list_move binder run outside
next_at (stage.ForEnd binder) run outside = for_end_move binder run outside
next_at stage.Qualified run outside = qualified_move run outside
next_at stage.Unsafe run outside = unsafe_move run outside
next_at stage.Extern run outside = extern_move run outside
next_at stage.Linked run outside = linked_move run outside
next_at stage.Function run outside = function_move run outside
next_at stage.Taken run outside = taken_move run outside
next_at stage.Typed run outside = typed_move run outside
next_at stage.TypedValue run outside = taken_value run outside
next_at stage.OneTaken run outside = one_taken_move run outside
next_at stage.Variadic run outside = variadic_move run outside
next_at stage.VariadicEnd run outside = variadic_end_move run outside

-- After `&'` at the start of a type: the name of the lifetime.
abbrev pub reference_lifetime_first : TokenList → First
reference_lifetime_first (also (identifier text span) rest) = starts false (reference (Some text)) (to stage.Referent rest None)
reference_lifetime_first run = refused (mismatch (first_span run))

-- After `&` at the start of a type: optionally a lifetime.
abbrev pub reference_first : TokenList → First
reference_first (also (punctuation c spacing span) rest) =
    if c == 39 then reference_lifetime_first rest else starts false (reference None) (to stage.Referent (also (punctuation c spacing span) rest) None)
reference_first run = starts false (reference None) (to stage.Referent run None)

-- The beginning of a type at a group.
abbrev pub group_first : Delimiter → Span → TokenList → TokenList → First
group_first Parenthesis span inside rest = starts false (opening Parenthesis) (to stage.List inside (Some rest))
group_first Bracket span inside rest = starts false (opening Bracket) (to stage.Element inside (Some rest))
group_first Brace span inside rest = refused (mismatch span)

-- The stage after the word at the start of a type.
abbrev pub word_stage : Bool → List ℕ → Stage
word_stage plus text =
    if bytes_eq text (codes "dyn") || bytes_eq text (codes "impl") then stage.Bound plus
    else (if bytes_eq text (codes "fn") then stage.Function
    else (if bytes_eq text (codes "unsafe") then stage.Unsafe
    else (if bytes_eq text (codes "extern") then stage.Extern
    else (if bytes_eq text (codes "for") then stage.For OfFunction
    else stage.Named Plain))))

-- The beginning of a type at a word.
abbrev pub word_first : Bool → List ℕ → Span → TokenList → First
word_first plus text span rest =
    if bytes_eq text (codes "_") then refused (unsupported span)
    else starts (bytes_eq text (codes "impl")) (word text) (to (word_stage plus text) rest None)

-- The beginning of a type at punctuation.
abbrev pub mark_first : ℕ → Span → TokenList → TokenList → First
mark_first c span run rest =
    if c == 38 then reference_first rest
    else (if c == 42 then starts false (mark 42) (to stage.Pointer rest None)
    else (if c == 60 then starts false (mark 60) (to stage.SelfType rest None)
    else (if c == 33 then refused (unsupported span)
    else (if begins_colons run then starts false colons (to (stage.Colons Plain false) (after_two run) None)
    else refused (mismatch span)))))

-- The beginning of a type.
unfoldable pub begin : Bool → TokenList → First
begin plus (also (identifier text span) rest) = word_first plus text span rest
begin plus (also (group delimiter span inside) rest) = group_first delimiter span inside rest
begin plus (also (punctuation c spacing span) rest) = mark_first c span (also (punctuation c spacing span) rest) rest
begin plus run = refused (mismatch (first_span run))

-- The word is reserved, so that it is not the name of a type.
abbrev pub is_reserved : List ℕ → Bool
is_reserved text =
    ((bytes_eq text (codes "dyn") || bytes_eq text (codes "impl")) || (bytes_eq text (codes "_") || bytes_eq text (codes "for")))
    || ((bytes_eq text (codes "fn") || bytes_eq text (codes "unsafe")) || bytes_eq text (codes "extern"))

-- The name, if the type at the start of the run is exactly a name.
abbrev pub name_of : TokenList → Option (List ℕ)
name_of (also (identifier text span) rest) = if is_reserved text then None else (if continues rest || begins_mark 33 rest then None else Some text)
name_of run = None
