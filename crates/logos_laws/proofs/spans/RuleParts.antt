-- The rests of a run of tokens after rules that are applied in turn, for any property of runs that
-- each rest of one has.
use Rattle.std.proofs.Common.{◌==◌, Bool, true, false, List, Ok, Err, if◌then◌else◌, subst}
use Rattle.logos_token.specs.Tokens.{Token, TokenList, identifier, punctuation, literal, doc, group, none, also, append, IsRestOf}
use Rattle.logos_token.proofs.reading.SpanLemmas.{Each}
use Rattle.logos_enum.specs.Marks.{comma}
use Rattle.logos_enum.specs.Rules.{Outcome, Rule, mismatch, by, given, Then, after_item, preceded_by, Listed}
use Rattle.logos_enum.specs.Rules.Then.{goes, stops}
use Rattle.logos_enum.specs.Rules.Listed.{ended, further, unparted, stopped}

-- a property of a run is one of its rest
abbrev pub Rests : (TokenList → Type 0) → Type 0
Rests In = (token : Token) (rest : TokenList) → In (also token rest) → In rest

pub back_has : (In : TokenList → Type 0) → Rests In → (front rest : TokenList) → In (append front rest) → In rest
back_has In rests none rest h = h
back_has In rests (also token front) rest h = back_has In rests front rest (rests token (append front rest) h)

pub left_has : (In : TokenList → Type 0) → Rests In → (run rest : TokenList) → IsRestOf run rest → In run → In rest
left_has In rests run rest r h = back_has In rests r.front rest (subst In r.is h)

-- nothing is required of a value
abbrev pub Anything : {A : Type 0} → A → Type 0
Anything value = Unit {0}

-- the value of an outcome has a property, and so have the tokens after it
abbrev pub Yields : {A : Type 0} → (TokenList → Type 0) → (A → Type 0) → Outcome A → Type 0
Yields In P (Ok read) = P read.0 × In read.1
Yields In P (Err error) = Unit {0}

-- each outcome of a rule for such a run is one
abbrev pub Keeps : {A : Type 0} → (TokenList → Type 0) → (A → Type 0) → Rule A → Type 0
Keeps {A} In P R = (run : TokenList) (outcome : Outcome A) → In run → R run outcome → Yields In P outcome

pub part_if : (In : TokenList → Type 0) (b : Bool) (run other : TokenList) → In run → In other → In (if b then run else other)
part_if In true run other p q = p
part_if In false run other p q = q

pub yields_if : {A : Type 0} (In : TokenList → Type 0) (P : A → Type 0) (b : Bool) (one other : Outcome A) → Yields In P one → Yields In P other → Yields In P (if b then one else other)
yields_if In P true one other p q = p
yields_if In P false one other p q = q

-- ---- Rules in turn.

pub keeps_by : {A : Type 0} (In : TokenList → Type 0) (P : A → Type 0) (f : TokenList → Outcome A) → ((run : TokenList) → In run → Yields In P (f run)) → Keeps In P (by f)
keeps_by In P f h run outcome r e = subst (Yields In P) e (h run r)

pub keeps_given : {A : Type 0} (In : TokenList → Type 0) (P : A → Type 0) (value : A) → P value → Keeps In P (given value)
keeps_given In P value p run outcome r e = subst (Yields In P) e (p, r)

module _ {A B : Type 0} (In : TokenList → Type 0) (P : A → Type 0) (Q : B → Type 0) (First : Rule A) (Next : A → Rule B) (first : Keeps In P First) (next : (value : A) → P value → Keeps In Q (Next value)) where
  pub keeps_then : Keeps In Q (Then First Next)
  keeps_then run outcome r (goes {value} {rest} h k) = let g = first run (Ok (value, rest)) r h in next value g.0 rest outcome g.1 k
  keeps_then run outcome r (stops h) = tt

after_item_yields : (In : TokenList → Type 0) (rests : Rests In) (stop : TokenList → Bool) (run : TokenList) → In run → Yields In Anything (after_item stop run)
after_item_yields In rests stop none r = yields_if In Anything (stop none) (Ok (tt, none)) (mismatch none) (tt, r) tt
after_item_yields In rests stop (also (identifier text span) rest) r =
    let run = also (identifier text span) rest in yields_if In Anything (stop run) (Ok (tt, run)) (mismatch run) (tt, r) tt
after_item_yields In rests stop (also (literal text span) rest) r =
    let run = also (literal text span) rest in yields_if In Anything (stop run) (Ok (tt, run)) (mismatch run) (tt, r) tt
after_item_yields In rests stop (also (doc text span) rest) r =
    let run = also (doc text span) rest in yields_if In Anything (stop run) (Ok (tt, run)) (mismatch run) (tt, r) tt
after_item_yields In rests stop (also (group delimiter span inside) rest) r =
    let run = also (group delimiter span inside) rest in yields_if In Anything (stop run) (Ok (tt, run)) (mismatch run) (tt, r) tt
after_item_yields In rests stop (also (punctuation character spacing span) rest) r =
    let run = also (punctuation character spacing span) rest in
    yields_if In Anything (stop run) (Ok (tt, run)) (if character == comma then Ok (tt, rest) else mismatch run) (tt, r)
    (yields_if In Anything (character == comma) (Ok (tt, rest)) (mismatch run) (tt, rests _ rest r) tt)

preceded_yields : {A : Type 0} (In : TokenList → Type 0) (P : A → Type 0) (value : A) (outcome : Outcome (List A)) → P value → Yields In (Each P) outcome → Yields In (Each P) (preceded_by value outcome)
preceded_yields In P value (Ok read) p g = ((p, g.0), g.1)
preceded_yields In P value (Err error) p g = tt

module _ {A : Type 0} (In : TokenList → Type 0) (rests : Rests In) (P : A → Type 0) (stop : TokenList → Bool) (Item : Rule A) (each : Keeps In P Item) where
  pub keeps_listed : Keeps In (Each P) (Listed stop Item)
  keeps_listed run outcome r (ended e) = (tt, r)
  keeps_listed run outcome r (further {rest = rest} {next = next} {value = value} {outcome = others} e i a l) =
      let g = each run (Ok (value, rest)) r i in
      let n : Yields In (Anything {A = Unit {0}}) (Ok (tt, next)) = subst (Yields In Anything) a (after_item_yields In rests stop rest g.1) in
      preceded_yields In P value others g.0 (keeps_listed next others n.1 l)
  keeps_listed run outcome r (unparted e i a) = tt
  keeps_listed run outcome r (stopped e i) = tt
