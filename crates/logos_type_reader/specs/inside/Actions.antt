-- The rows of the table as functions of the tokens at the spot.
use Rattle.std.specs.Prelude.{◌≡◌, ℕ, List, [], Bool, true, false, Option, Some, None, Result, Ok, Err}
use Rattle.std.specs.Str.{bytes_eq}
use Rattle.logos_lexeme.specs.declared.lexeme.Span.{Span}
use Rattle.logos_token.specs.Tokens.{TokenList, identifier, punctuation, literal, doc, group, none, also, rest_of}
use Rattle.logos_type_reader.specs.declared.table.stage.Stage.{Stage}
use Rattle.logos_type_reader.specs.declared.table.stage.Stage.TheVariants as stage
use Rattle.logos_type_reader.specs.declared.table.stage.FrontToken.{FrontToken}
use Rattle.logos_type_reader.specs.declared.table.stage.FrontToken.TheVariants as look
use Rattle.logos_type_reader.specs.declared.table.stage.Prefix.{Prefix}
use Rattle.logos_type_reader.specs.declared.table.stage.Prefix.TheVariants as lead
use Rattle.logos_type_reader.specs.declared.table.stage.TableEntry.{TableEntry}
use Rattle.logos_type_reader.specs.declared.table.stage.TableEntry.TheVariants as action
use Rattle.logos_type_reader.specs.declared.table.stage.FirstEntry.{FirstEntry}
use Rattle.logos_type_reader.specs.declared.table.stage.FirstEntry.TheVariants as start
use Rattle.logos_type_reader.specs.declared.table.stage.StepFault.{StepFault}
use Rattle.logos_type_reader.specs.declared.table.stage.StepFault.TheVariants as stop
use Rattle.logos_type_reader.specs.Table.{Spot, Move, ends, takes, bars, needs, keeps_type, keeps, nests, stops, First, starts, refused, first_span, unsupported, mismatch, mismatches, to, opens, closes, after_two, after_three}
use Rattle.logos_type.specs.Parts.{Sign, word, mark, colons, arrow, value, opening, reference, lifetime, other_lifetime}

-- A run begins with a token of this class.
abbrev pub Looks : FrontToken → TokenList → Type 0
Looks look.Nothing run = run ≡ none
Looks look.Word run = (text : List ℕ) × (span : Span) × (rest : TokenList) × (run ≡ also (identifier text span) rest)
Looks (look.Mark c spacing) run = (span : Span) × (rest : TokenList) × (run ≡ also (punctuation c spacing span) rest)
Looks look.Literal run = (text : List ℕ) × (span : Span) × (rest : TokenList) × (run ≡ also (literal text span) rest)
Looks look.Doc run = (text : List ℕ) × (span : Span) × (rest : TokenList) × (run ≡ also (doc text span) rest)
Looks (look.Group delimiter) run = (span : Span) × (inside : TokenList) × (rest : TokenList) × (run ≡ also (group delimiter span inside) rest)

-- Whether a run begins with the identifier `wanted`.
abbrev pub begins_word : List ℕ → TokenList → Bool
begins_word wanted (also (identifier text span) rest) = bytes_eq text wanted
begins_word wanted run = false

-- The text of the first token if it is a name or a literal.
abbrev pub first_text : TokenList → List ℕ
first_text (also (identifier text span) rest) = text
first_text (also (literal text span) rest) = text
first_text run = []

-- The token that a lead takes from the front of a run.
abbrev pub lead_sign : Prefix → TokenList → Sign
lead_sign lead.Word run = word (first_text run)
lead_sign (lead.Mark c) run = mark c
lead_sign lead.Literal run = value (first_text run)
lead_sign lead.Colons run = colons
lead_sign lead.Arrow run = arrow
lead_sign lead.Dots run = mark 46
lead_sign lead.Reference run = reference None
lead_sign lead.ReferenceLifetime run = reference (Some (first_text (rest_of (rest_of run))))
lead_sign lead.Lifetime run = lifetime (first_text (rest_of run))
lead_sign lead.OtherLifetime run = other_lifetime (first_text (rest_of run))
lead_sign (lead.Group delimiter) run = opening delimiter

-- The run after the tokens that a lead takes.
abbrev pub after_lead : Prefix → TokenList → TokenList
after_lead lead.Colons run = after_two run
after_lead lead.Arrow run = after_two run
after_lead lead.Dots run = after_three run
after_lead lead.ReferenceLifetime run = rest_of (rest_of (rest_of run))
after_lead lead.Lifetime run = rest_of (rest_of run)
after_lead lead.OtherLifetime run = rest_of (rest_of run)
after_lead other run = rest_of run

-- Opens the group at the start of the run. Only one group can be open at a time.
abbrev pub opens_first : Stage → TokenList → Option TokenList → Move
opens_first stage (also (group delimiter span inside) rest) outside = opens delimiter span stage inside rest outside
opens_first stage run outside = mismatches run

-- The next step for an action and the tokens at the spot.
abbrev pub acts : TableEntry → TokenList → Option TokenList → Move
acts action.End run outside = ends
acts (action.Take l stage) run outside = takes (lead_sign l run) (to stage (after_lead l run) outside)
acts (action.Bar l stage) run outside = bars (lead_sign l run) (to stage (after_lead l run) outside)
acts (action.Need plus stage) run outside = needs plus stage
acts (action.KeepType stage) run outside = keeps_type stage
acts (action.Keep stage) run outside = keeps run (to stage none outside)
acts (action.Nest l stage next) run outside = nests (lead_sign l run) (to stage (after_lead l run) None) next
acts (action.Open stage) run outside = opens_first stage run outside
acts (action.Close delimiter stage) run outside = closes delimiter stage outside

-- Whether the spot is in a bound, in `for<..>` or in the type of a function.
abbrev pub is_in_bounds : Stage → Bool
is_in_bounds (stage.Bound plus) = true
is_in_bounds (stage.Question plus) = true
is_in_bounds (stage.Trait kind) = true
is_in_bounds (stage.TraitPath kind) = true
is_in_bounds (stage.BoundEnd plus) = true
is_in_bounds (stage.EnclosedEnd plus) = true
is_in_bounds (stage.For binder) = true
is_in_bounds (stage.ForList binder) = true
is_in_bounds (stage.ForEnd binder) = true
is_in_bounds stage.Further = true
is_in_bounds stage.Qualified = true
is_in_bounds stage.Unsafe = true
is_in_bounds stage.Extern = true
is_in_bounds stage.Linked = true
is_in_bounds stage.Function = true
is_in_bounds stage.Taken = true
is_in_bounds stage.Typed = true
is_in_bounds stage.TypedValue = true
is_in_bounds stage.OneTaken = true
is_in_bounds stage.Variadic = true
is_in_bounds stage.VariadicEnd = true
is_in_bounds other = false

-- The action leads to this step.
abbrev pub IsAction : Result TableEntry StepFault → Spot → Move → Type 0
IsAction (Ok action) spot next = next ≡ acts action spot.run spot.outside
IsAction (Err (stop.Unsupported span)) spot next = next ≡ stops (unsupported span)
IsAction (Err (stop.Mismatch span)) spot next = next ≡ stops (mismatch span)

-- Opens the group at the start of a type.
abbrev pub opens_type : Stage → TokenList → First
opens_type stage (also (group delimiter span inside) rest) = starts false (opening delimiter) (to stage inside (Some rest))
opens_type stage run = refused (mismatch (first_span run))

-- The beginning of a type that begins in this way.
abbrev pub begun : FirstEntry → TokenList → First
begun (start.Lead barred l stage) run = starts barred (lead_sign l run) (to stage (after_lead l run) None)
begun (start.Open stage) run = opens_type stage run

-- The entry leads to this first token.
abbrev pub IsStart : Result FirstEntry StepFault → TokenList → First → Type 0
IsStart (Ok found) run first = first ≡ begun found run
IsStart (Err (stop.Unsupported span)) run first = first ≡ refused (unsupported span)
IsStart (Err (stop.Mismatch span)) run first = first ≡ refused (mismatch span)
