-- Generic parameters.
use Rattle.std.specs.Prelude.{◌≡◌, ◌==◌, if◌then◌else◌, List, [], true, false, Ok, Err, codes}
use Rattle.std.specs.Str.{bytes_eq}
use Rattle.logos_token.specs.Tokens.{TokenList, identifier, punctuation, none, also, append, rest_of}
use Rattle.logos_enum.specs.declared.error.ReadError.{ReadError}
use Rattle.logos_enum.specs.declared.extents.End.{End}
use Rattle.logos_enum.specs.declared.extents.End.TheVariants.{OfBounds, OfDefault}
use Rattle.logos_enum.specs.declared.generics.ParameterKind.{ParameterKind}
use Rattle.logos_enum.specs.declared.generics.ParameterKind.TheVariants.{Lifetime, «Type», Const}
use Rattle.logos_enum.specs.Attributes.{Attributes}
use Rattle.logos_enum.specs.Extents.{ends, after_extent}
use Rattle.logos_enum.specs.Marks.{quote, colon, equals, less, greater, begins_with}
use Rattle.logos_enum.specs.Rules.{Outcome, Rule, mismatch, by, given, ◌>>=◌, Listed}
use Rattle.logos_enum.specs.Values.{Slice, Head, ParameterValue}

-- A name: any identifier.
abbrev pub name_in : TokenList → Outcome Slice
name_in (also (identifier text span) rest) = Ok (record { text = text; span = span }, rest)
name_in run = mismatch run

-- The head of a parameter of this kind: its name is at the front.
abbrev pub head_of : ParameterKind → TokenList → Outcome Head
head_of kind (also (identifier text span) rest) = Ok (record { kind = kind; name = record { text = text; span = span } }, rest)
head_of kind run = mismatch run

-- The head of a parameter: a lifetime, `const` and a name, or the name of a type.
abbrev pub head_in : TokenList → Outcome Head
head_in (also (punctuation character spacing span) rest) = if character == quote then head_of Lifetime rest else mismatch (also (punctuation character spacing span) rest)
head_in (also (identifier text span) rest) = if bytes_eq text (codes "const") then head_of Const rest else head_of «Type» (also (identifier text span) rest)
head_in run = mismatch run

-- At least one token of an extent, and the tokens after it.
abbrev pub some_in : End → TokenList → Outcome (Unit {0})
some_in end (also (punctuation character spacing span) rest) =
    if ends end character then mismatch (also (punctuation character spacing span) rest)
    else Ok (tt, after_extent end (also (punctuation character spacing span) rest))
some_in end none = mismatch none
some_in end run = Ok (tt, after_extent end run)

-- After a name: an optional `:` and bounds.
abbrev pub bounds_in : TokenList → Outcome (Unit {0})
bounds_in (also (punctuation character spacing span) rest) =
    if character == colon then Ok (tt, after_extent OfBounds rest)
    else Ok (tt, also (punctuation character spacing span) rest)
bounds_in run = Ok (tt, run)

-- After the name of a constant: `:` and a type.
abbrev pub constant_in : TokenList → Outcome (Unit {0})
constant_in (also (punctuation character spacing span) rest) = if character == colon then some_in OfBounds rest else mismatch (also (punctuation character spacing span) rest)
constant_in run = mismatch run

-- After bounds: an optional `=` and default.
abbrev pub default_in : TokenList → Outcome (Unit {0})
default_in (also (punctuation character spacing span) rest) =
    if character == equals then some_in OfDefault rest
    else Ok (tt, also (punctuation character spacing span) rest)
default_in run = Ok (tt, run)

-- After the name of a parameter: bounds of a lifetime, bounds and a default of a type, or the type
-- and a default of a constant.
abbrev pub tail : ParameterKind → Rule (Unit {0})
tail Lifetime = by bounds_in
tail «Type» = by bounds_in >>= λ _. by default_in
tail Const = by constant_in >>= λ _. by default_in

-- A parameter: attributes, a kind with a name, and the tokens that follow the name.
abbrev pub shape : Rule Head
shape = Attributes >>= λ _. by head_in >>= λ head. tail head.kind >>= λ _. given head

-- The parameter with this kind and name, and with all its tokens.
abbrev pub parameter_of : Head → TokenList → ParameterValue
parameter_of head run = record { kind = head.kind; name = head.name; run = run }

-- A parameter with all its tokens, up to the comma or the `>` after it.
pub data OneParameter (run : TokenList) : Outcome ParameterValue → Type 0 where
  occurs : {head : Head} {front rest : TokenList} →
      shape run (Ok (head, rest)) → run ≡ append front (after_extent OfDefault run) → OneParameter run (Ok (parameter_of head front, rest))
  broken : {error : ReadError} → shape run (Err error) → OneParameter run (Err error)

-- The `>` after the parameters.
abbrev pub closing_in : TokenList → Outcome (Unit {0})
closing_in (also (punctuation character spacing span) rest) = if character == greater then Ok (tt, rest) else mismatch (also (punctuation character spacing span) rest)
closing_in run = mismatch run

-- Parameters, separated by commas, up to `>`.
abbrev pub parameters : Rule (List ParameterValue)
parameters = Listed (begins_with greater) OneParameter >>= λ list. by closing_in >>= λ _. given list

-- Parameters in angle brackets, if `<` comes first.
pub data Generics (run : TokenList) : Outcome (List ParameterValue) → Type 0 where
  listed : {outcome : Outcome (List ParameterValue)} → begins_with less run ≡ true → parameters (rest_of run) outcome → Generics run outcome
  absent : begins_with less run ≡ false → Generics run (Ok ([], run))
