-- Rules of a grammar. A rule yields the value at the front of a run and the tokens after it, or the
-- error if nothing fits.
use Rattle.std.specs.Prelude.{◌≡◌, ◌==◌, List, [], ◌∷◌, Bool, true, false, if◌then◌else◌, Result, Ok, Err, ◌⊎◌}
use Rattle.logos_token.specs.Tokens.{TokenList, punctuation, also}
use Rattle.logos_enum.specs.declared.error.ReadError.{ReadError}
use Rattle.logos_enum.specs.declared.error.ReadError.TheVariants.{Grammar, Memory}
use Rattle.logos_enum.specs.Marks.{comma, first_span}

-- The value that is read and the tokens after it, or the error.
abbrev pub Outcome : Type 0 → Type 0
Outcome A = Result (A × TokenList) ReadError

-- A rule: the relation between a run and the outcome of reading it.
abbrev pub Rule : Type 0 → Type 1
Rule A = TokenList → Outcome A → Type 0

-- The error that the first token does not fit.
abbrev pub mismatch : {A : Type 0} → TokenList → Outcome A
mismatch run = Err (Grammar (first_span run))

-- The rule that a function defines.
abbrev pub by : {A : Type 0} → (TokenList → Outcome A) → Rule A
by f run outcome = f run ≡ outcome

-- The rule that yields this value and takes no token.
abbrev pub given : {A : Type 0} → A → Rule A
given value run outcome = Ok (value, run) ≡ outcome

-- Two rules in sequence. The second one can depend on the value of the first.
pub data Then {A B : Type 0} (First : Rule A) (Next : A → Rule B) (run : TokenList) : Outcome B → Type 0 where
  goes : {value : A} {rest : TokenList} {outcome : Outcome B} → First run (Ok (value, rest)) → Next value rest outcome → Then First Next run outcome
  stops : {error : ReadError} → First run (Err error) → Then First Next run (Err error)

infixl 10 ◌>>=◌
abbrev pub ◌>>=◌ : {A B : Type 0} → Rule A → (A → Rule B) → Rule B
first >>= next = Then first next

-- The tokens after an element of a list. No token is taken at the end of the list, and otherwise a
-- comma of either spacing is taken.
abbrev pub after_item : (TokenList → Bool) → TokenList → Outcome (Unit {0})
after_item ends (also (punctuation character spacing span) rest) =
    if ends (also (punctuation character spacing span) rest) then Ok (tt, also (punctuation character spacing span) rest)
    else (if character == comma then Ok (tt, rest)
    else mismatch (also (punctuation character spacing span) rest))
after_item ends run = if ends run then Ok (tt, run) else mismatch run

-- The outcome with one more value before the others.
abbrev pub preceded_by : {A : Type 0} → A → Outcome (List A) → Outcome (List A)
preceded_by value (Ok read) = Ok (value ∷ read.0, read.1)
preceded_by value (Err error) = Err error

-- Elements, separated by commas, with an optional comma after the last, up to the end of the list.
pub data Listed {A : Type 0} (ends : TokenList → Bool) (Item : Rule A) : TokenList → Outcome (List A) → Type 0 where
  ended : {run : TokenList} → ends run ≡ true → Listed ends Item run (Ok ([], run))
  further : {run rest next : TokenList} {value : A} {outcome : Outcome (List A)} →
      ends run ≡ false → Item run (Ok (value, rest)) → after_item ends rest ≡ Ok (tt, next) → Listed ends Item next outcome → Listed ends Item run (preceded_by value outcome)
  unparted : {run rest : TokenList} {value : A} {error : ReadError} →
      ends run ≡ false → Item run (Ok (value, rest)) → after_item ends rest ≡ Err error → Listed ends Item run (Err error)
  stopped : {run : TokenList} {error : ReadError} → ends run ≡ false → Item run (Err error) → Listed ends Item run (Err error)

-- Memory ran out, or the error has the property `Holds`.
abbrev pub Occurs : (ReadError → Type 0) → ReadError → Type 0
Occurs Holds error = (error ≡ Memory) ⊎ Holds error
