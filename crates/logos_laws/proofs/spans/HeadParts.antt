-- The tokens of an enum around its generic parameters, for any property of runs that each rest of
-- one has.
use Rattle.std.proofs.Common.{◌≡◌, Bool, true, false, Option, Some, None, Ok, if◌then◌else◌, codes, subst}
use Rattle.std.specs.Str.{bytes_eq}
use Rattle.logos_lexeme.specs.declared.lexeme.Delimiter.TheVariants.{Parenthesis, Bracket, Brace}
use Rattle.logos_token.specs.Tokens.{TokenList, identifier, punctuation, literal, doc, group, none, also}
use Rattle.logos_enum.specs.Attributes.{after_parenthesis, after_visibility, after_keyword, announced_in}
use Rattle.logos_enum.specs.Enum.{from_brace, where_in}
use Rattle.logos_laws.proofs.spans.RuleParts.{Anything, Yields, Rests, part_if, yields_if}

after_parenthesis_part : (In : TokenList → Type 0) (rests : Rests In) (run : TokenList) → In run → In (after_parenthesis run)
after_parenthesis_part In rests none r = r
after_parenthesis_part In rests (also (identifier text span) rest) r = r
after_parenthesis_part In rests (also (punctuation character spacing span) rest) r = r
after_parenthesis_part In rests (also (literal text span) rest) r = r
after_parenthesis_part In rests (also (doc text span) rest) r = r
after_parenthesis_part In rests (also (group Parenthesis span inside) rest) r = rests _ rest r
after_parenthesis_part In rests (also (group Bracket span inside) rest) r = r
after_parenthesis_part In rests (also (group Brace span inside) rest) r = r

pub visibility_part : (In : TokenList → Type 0) (rests : Rests In) (run : TokenList) → In run → In (after_visibility run)
visibility_part In rests none r = r
visibility_part In rests (also (identifier text span) rest) r =
    part_if In (bytes_eq text (codes "pub")) (after_parenthesis rest) (also (identifier text span) rest) (after_parenthesis_part In rests rest (rests _ rest r)) r
visibility_part In rests (also (punctuation character spacing span) rest) r = r
visibility_part In rests (also (literal text span) rest) r = r
visibility_part In rests (also (doc text span) rest) r = r
visibility_part In rests (also (group delimiter span inside) rest) r = r

-- the run, if there is one, has this
abbrev pub IfRun : (TokenList → Type 0) → Option TokenList → Type 0
IfRun In None = Unit {0}
IfRun In (Some run) = In run

if_run_if : (In : TokenList → Type 0) (b : Bool) (one other : Option TokenList) → IfRun In one → IfRun In other → IfRun In (if b then one else other)
if_run_if In true one other p q = p
if_run_if In false one other p q = q

pub keyword_part : (In : TokenList → Type 0) (rests : Rests In) (run : TokenList) → In run → IfRun In (after_keyword run)
keyword_part In rests none r = tt
keyword_part In rests (also (identifier text span) rest) r = if_run_if In (bytes_eq text (codes "enum")) (Some rest) None (rests _ rest r) tt
keyword_part In rests (also (punctuation character spacing span) rest) r = tt
keyword_part In rests (also (literal text span) rest) r = tt
keyword_part In rests (also (doc text span) rest) r = tt
keyword_part In rests (also (group delimiter span inside) rest) r = tt

pub announced_part : (In : TokenList → Type 0) (rests : Rests In) (middle rest : TokenList) → In middle → announced_in middle ≡ Some rest → In rest
announced_part In rests middle rest r e = subst (IfRun In) e (keyword_part In rests (after_visibility middle) (visibility_part In rests middle r))

from_brace_part : (In : TokenList → Type 0) (rests : Rests In) (run : TokenList) → In run → In (from_brace run)
from_brace_part In rests none r = r
from_brace_part In rests (also (identifier text span) rest) r = from_brace_part In rests rest (rests _ rest r)
from_brace_part In rests (also (punctuation character spacing span) rest) r = from_brace_part In rests rest (rests _ rest r)
from_brace_part In rests (also (literal text span) rest) r = from_brace_part In rests rest (rests _ rest r)
from_brace_part In rests (also (doc text span) rest) r = from_brace_part In rests rest (rests _ rest r)
from_brace_part In rests (also (group Parenthesis span inside) rest) r = from_brace_part In rests rest (rests _ rest r)
from_brace_part In rests (also (group Bracket span inside) rest) r = from_brace_part In rests rest (rests _ rest r)
from_brace_part In rests (also (group Brace span inside) rest) r = r

pub where_yields : (In : TokenList → Type 0) (rests : Rests In) (run : TokenList) → In run → Yields In Anything (where_in run)
where_yields In rests none r = (tt, r)
where_yields In rests (also (identifier text span) rest) r =
    yields_if In Anything (bytes_eq text (codes "where")) (Ok (tt, from_brace rest)) (Ok (tt, also (identifier text span) rest)) (tt, from_brace_part In rests rest (rests _ rest r)) (tt, r)
where_yields In rests (also (punctuation character spacing span) rest) r = (tt, r)
where_yields In rests (also (literal text span) rest) r = (tt, r)
where_yields In rests (also (doc text span) rest) r = (tt, r)
where_yields In rests (also (group delimiter span inside) rest) r = (tt, r)
