-- The rests of a run of tokens after attributes and generic parameters, for any property of runs
-- that each rest of one has.
use Rattle.std.proofs.Common.{◌==◌, false, Ok, codes, subst}
use Rattle.std.specs.Str.{bytes_eq}
use Rattle.logos_token.specs.Tokens.{TokenList, identifier, punctuation, literal, doc, group, none, also, rest_of}
use Rattle.logos_token.proofs.reading.SpanLemmas.{Each}
use Rattle.logos_enum.specs.Attributes.{Attributes}
use Rattle.logos_enum.specs.Attributes.Attributes.{occur, broken}
use Rattle.logos_enum.specs.Extents.{ends, after_extent}
use Rattle.logos_enum.specs.Generics.{name_in, head_of, head_in, some_in, bounds_in, constant_in, default_in, tail, shape, OneParameter, closing_in, parameters, Generics}
use Rattle.logos_enum.specs.Generics.OneParameter.{occurs, broken as shape_broken}
use Rattle.logos_enum.specs.Generics.Generics.{listed, absent}
use Rattle.logos_enum.specs.Marks.{quote, colon, equals, greater, begins_with}
use Rattle.logos_enum.specs.Rules.{mismatch}
use Rattle.logos_enum.specs.declared.generics.ParameterKind.{ParameterKind}
use Rattle.logos_enum.specs.declared.generics.ParameterKind.TheVariants.{Lifetime, «Type», Const}
use Rattle.logos_enum.proofs.ExtentLemmas.{extent_rest}
use Rattle.logos_laws.proofs.spans.RuleParts.{Anything, Yields, Keeps, Rests, back_has, left_has, yields_if, keeps_by, keeps_given, keeps_then, keeps_listed}

pub attributes_keep : (In : TokenList → Type 0) (rests : Rests In) → Keeps In Anything Attributes
attributes_keep In rests run outcome r (occur {attributes} {rest} h e) =
    (tt, back_has In rests attributes rest (subst In e r))
attributes_keep In rests run outcome r (broken h) = tt

-- ---- Generic parameters.

pub name_yields : (In : TokenList → Type 0) (rests : Rests In) (run : TokenList) → In run → Yields In Anything (name_in run)
name_yields In rests none r = tt
name_yields In rests (also (identifier text span) rest) r = (tt, rests _ rest r)
name_yields In rests (also (punctuation character spacing span) rest) r = tt
name_yields In rests (also (literal text span) rest) r = tt
name_yields In rests (also (doc text span) rest) r = tt
name_yields In rests (also (group delimiter span inside) rest) r = tt

head_of_yields : (In : TokenList → Type 0) (rests : Rests In) (kind : ParameterKind) (run : TokenList) → In run → Yields In Anything (head_of kind run)
head_of_yields In rests kind none r = tt
head_of_yields In rests kind (also (identifier text span) rest) r = (tt, rests _ rest r)
head_of_yields In rests kind (also (punctuation character spacing span) rest) r = tt
head_of_yields In rests kind (also (literal text span) rest) r = tt
head_of_yields In rests kind (also (doc text span) rest) r = tt
head_of_yields In rests kind (also (group delimiter span inside) rest) r = tt

head_yields : (In : TokenList → Type 0) (rests : Rests In) (run : TokenList) → In run → Yields In Anything (head_in run)
head_yields In rests none r = tt
head_yields In rests (also (identifier text span) rest) r =
    let run = also (identifier text span) rest in
    yields_if In Anything (bytes_eq text (codes "const")) (head_of Const rest) (head_of «Type» run) (head_of_yields In rests Const rest (rests _ rest r)) (head_of_yields In rests «Type» run r)
head_yields In rests (also (punctuation character spacing span) rest) r =
    yields_if In Anything (character == quote) (head_of Lifetime rest) (mismatch (also (punctuation character spacing span) rest)) (head_of_yields In rests Lifetime rest (rests _ rest r)) tt
head_yields In rests (also (literal text span) rest) r = tt
head_yields In rests (also (doc text span) rest) r = tt
head_yields In rests (also (group delimiter span inside) rest) r = tt

extent_part : (In : TokenList → Type 0) (rests : Rests In) (end : _) (run : TokenList) → In run → In (after_extent end run)
extent_part In rests end run r = left_has In rests run (after_extent end run) (extent_rest end false 0 run) r

some_yields : (In : TokenList → Type 0) (rests : Rests In) (end : _) (run : TokenList) → In run → Yields In Anything (some_in end run)
some_yields In rests end none r = tt
some_yields In rests end (also (identifier text span) rest) r = (tt, extent_part In rests end (also (identifier text span) rest) r)
some_yields In rests end (also (punctuation character spacing span) rest) r =
    let run = also (punctuation character spacing span) rest in
    yields_if In Anything (ends end character) (mismatch run) (Ok (tt, after_extent end run)) tt (tt, extent_part In rests end run r)
some_yields In rests end (also (literal text span) rest) r = (tt, extent_part In rests end (also (literal text span) rest) r)
some_yields In rests end (also (doc text span) rest) r = (tt, extent_part In rests end (also (doc text span) rest) r)
some_yields In rests end (also (group delimiter span inside) rest) r = (tt, extent_part In rests end (also (group delimiter span inside) rest) r)

bounds_yield : (In : TokenList → Type 0) (rests : Rests In) (run : TokenList) → In run → Yields In Anything (bounds_in run)
bounds_yield In rests none r = (tt, r)
bounds_yield In rests (also (identifier text span) rest) r = (tt, r)
bounds_yield In rests (also (punctuation character spacing span) rest) r =
    let p = rests _ rest r in
    yields_if In Anything (character == colon) _ (Ok (tt, also (punctuation character spacing span) rest)) (tt, search (extent_part In rests, p)) (tt, r)
bounds_yield In rests (also (literal text span) rest) r = (tt, r)
bounds_yield In rests (also (doc text span) rest) r = (tt, r)
bounds_yield In rests (also (group delimiter span inside) rest) r = (tt, r)

constant_yields : (In : TokenList → Type 0) (rests : Rests In) (run : TokenList) → In run → Yields In Anything (constant_in run)
constant_yields In rests none r = tt
constant_yields In rests (also (identifier text span) rest) r = tt
constant_yields In rests (also (punctuation character spacing span) rest) r =
    let p = rests _ rest r in
    yields_if In Anything (character == colon) _ (mismatch (also (punctuation character spacing span) rest)) (search (some_yields, rests, p)) tt
constant_yields In rests (also (literal text span) rest) r = tt
constant_yields In rests (also (doc text span) rest) r = tt
constant_yields In rests (also (group delimiter span inside) rest) r = tt

default_yields : (In : TokenList → Type 0) (rests : Rests In) (run : TokenList) → In run → Yields In Anything (default_in run)
default_yields In rests none r = (tt, r)
default_yields In rests (also (identifier text span) rest) r = (tt, r)
default_yields In rests (also (punctuation character spacing span) rest) r =
    let p = rests _ rest r in
    yields_if In Anything (character == equals) _ (Ok (tt, also (punctuation character spacing span) rest)) (search (some_yields, rests, p)) (tt, r)
default_yields In rests (also (literal text span) rest) r = (tt, r)
default_yields In rests (also (doc text span) rest) r = (tt, r)
default_yields In rests (also (group delimiter span inside) rest) r = (tt, r)

tail_keeps : (In : TokenList → Type 0) (rests : Rests In) (kind : ParameterKind) → Keeps In Anything (tail kind)
tail_keeps In rests Lifetime = keeps_by In Anything bounds_in (bounds_yield In rests)
tail_keeps In rests «Type» =
    keeps_then In Anything Anything _ _ (keeps_by In Anything bounds_in (bounds_yield In rests)) (λ _ _. keeps_by In Anything default_in (default_yields In rests))
tail_keeps In rests Const =
    keeps_then In Anything Anything _ _ (keeps_by In Anything constant_in (constant_yields In rests)) (λ _ _. keeps_by In Anything default_in (default_yields In rests))

shape_keeps : (In : TokenList → Type 0) (rests : Rests In) → Keeps In Anything shape
shape_keeps In rests =
    keeps_then In Anything Anything _ _ (attributes_keep In rests) (λ _ _.
    keeps_then In Anything Anything _ _ (keeps_by In Anything head_in (head_yields In rests)) (λ head _.
    keeps_then In Anything Anything _ _ (tail_keeps In rests head.kind) (λ _ _. keeps_given In Anything head tt)))

parameter_keeps : (In : TokenList → Type 0) (rests : Rests In) → Keeps In Anything OneParameter
parameter_keeps In rests run outcome r (occurs {head} {front} {rest} s e) = (tt, (shape_keeps In rests run (Ok (head, rest)) r s).1)
parameter_keeps In rests run outcome r (shape_broken s) = tt

closing_yields : (In : TokenList → Type 0) (rests : Rests In) (run : TokenList) → In run → Yields In Anything (closing_in run)
closing_yields In rests none r = tt
closing_yields In rests (also (identifier text span) rest) r = tt
closing_yields In rests (also (punctuation character spacing span) rest) r =
    yields_if In Anything (character == greater) (Ok (tt, rest)) (mismatch (also (punctuation character spacing span) rest)) (tt, rests _ rest r) tt
closing_yields In rests (also (literal text span) rest) r = tt
closing_yields In rests (also (doc text span) rest) r = tt
closing_yields In rests (also (group delimiter span inside) rest) r = tt

parameters_keep : (In : TokenList → Type 0) (rests : Rests In) → Keeps In Anything parameters
parameters_keep In rests =
    keeps_then In (Each Anything) Anything _ _ (keeps_listed In rests Anything (begins_with greater) OneParameter (parameter_keeps In rests)) (λ list _.
    keeps_then In Anything Anything _ _ (keeps_by In Anything closing_in (closing_yields In rests)) (λ _ _. keeps_given In Anything list tt))

rest_of_part : (In : TokenList → Type 0) (rests : Rests In) (run : TokenList) → In run → In (rest_of run)
rest_of_part In rests none r = r
rest_of_part In rests (also token rest) r = rests token rest r

pub generics_keep : (In : TokenList → Type 0) (rests : Rests In) → Keeps In Anything Generics
generics_keep In rests run outcome r (listed b p) = parameters_keep In rests (rest_of run) outcome (rest_of_part In rests run r) p
generics_keep In rests run outcome r (absent b) = (tt, r)
