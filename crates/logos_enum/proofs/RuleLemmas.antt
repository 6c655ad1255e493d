-- Runs of rules.
use Rattle.std.proofs.Common.{◌≡◌, ◌↔◌, IsTrue, inl, inr, List, [], ◌∷◌, ◌++◌, map, true, false, Bool, Ok, Err, refl, sym, ◌∙◌, ap, append_assoc}
use Rattle.std.proofs.lemmas.List.{append-nil, map-append}
use Rattle.logos_token.specs.Tokens.{Token, TokenList, none, also, append, IsRestOf}
use Rattle.logos_enum.specs.declared.error.ReadError.{ReadError}
use Rattle.logos_enum.specs.Marks.{is_none}
use Rattle.logos_enum.specs.Rules.{Outcome, Rule, Then, Listed, preceded_by, Occurs}
use Rattle.logos_enum.specs.Rules.Then.{goes, stops}
use Rattle.logos_enum.specs.Rules.Listed.{stopped}

-- with these values in front
abbrev pub joined : {A : Type 0} → List A → Outcome (List A) → Outcome (List A)
joined before (Ok read) = Ok (before ++ read.0, read.1)
joined before (Err error) = Err error

append_append : (front middle back : TokenList) → append (append front middle) back ≡ append front (append middle back)
append_append none middle back = refl
append_append (also token front) middle back = ap (also token) (append_append front middle back)

-- the rest of the rest
pub IsRestOf-join : (run middle rest : TokenList) → IsRestOf run middle → IsRestOf middle rest → IsRestOf run rest
IsRestOf-join run middle rest r s = record { front = append r.front s.front; is = r.is ∙ (ap (append r.front) s.is ∙ sym (append_append r.front s.front rest)) }

-- after its first token
pub IsRestOf-token : (run : TokenList) (token : Token) (rest : TokenList) → run ≡ also token rest → IsRestOf run rest
IsRestOf-token run token rest e = record { front = also token none; is = e }

-- one more value after those in front
joined-push : {A : Type 0} (before : List A) (value : A) (outcome : Outcome (List A)) → joined before (preceded_by value outcome) ≡ joined (before ++ value ∷ []) outcome
joined-push before value (Ok read) = ap (λ list. Ok (list, read.1)) (sym (append_assoc before (value ∷ []) read.0))
joined-push before value (Err error) = refl

pub joined-nil : {A : Type 0} (before : List A) (rest : TokenList) → joined before (Ok ([], rest)) ≡ Ok (before, rest)
joined-nil before rest = ap (λ list. Ok (list, rest)) (append-nil before)

module _ {A B : Type 0} (First : Rule A) (Next : A → Rule B) (run : TokenList) where
  -- facts about the first rule, and about the one after it, are facts about both
  pub then-stops : (error : ReadError) → Occurs (λ e. First run (Err e)) error → Occurs (λ e. Then First Next run (Err e)) error
  then-stops error (inl e) = inl e
  then-stops error (inr h) = inr (stops h)

  pub then-goes : (value : A) (rest : TokenList) (error : ReadError) → First run (Ok (value, rest)) → Occurs (λ e. Next value rest (Err e)) error → Occurs (λ e. Then First Next run (Err e)) error
  then-goes value rest error h (inl e) = inl e
  then-goes value rest error h (inr k) = inr (goes h k)

-- one more value after those that a list has in front
pub one-more : {A X : Type 0} (view : X → A) (old new : List X) (value : X) (outcome : Outcome (List A)) →
    new ≡ old ++ value ∷ [] → joined (map view old) (preceded_by (view value) outcome) ≡ joined (map view new) outcome
one-more view old new value outcome e = joined-push (map view old) (view value) outcome ∙ ap (λ list. joined list outcome) (sym (ap (map view) e ∙ map-append view old (value ∷ [])))

-- a fault of an item is a fault of the list, and so is a fault of the rest of the list
pub listed-stops : {A : Type 0} (ends : TokenList → Bool) (Item : Rule A) (run rest : TokenList) → ends rest ≡ false →
    ((error : ReadError) → Listed ends Item rest (Err error) → Listed ends Item run (Err error)) → {error : ReadError} →
    Occurs (λ e. Item rest (Err e)) error → Occurs (λ e. Listed ends Item run (Err e)) error
listed-stops ends Item run rest b f (inl m) = inl m
listed-stops ends Item run rest b f {error} (inr h) = inr (f error (stopped b h))

-- whether a run is empty
pub not_none : (b : Bool) (run : TokenList) → IsTrue b ↔ (run ≡ none) → b ≡ false → is_none run ≡ false
not_none b none h e = let t : b ≡ true = h.1 refl in cc
not_none b (also token rest) h e = refl

pub is_none-from_none : (run : TokenList) → run ≡ none → is_none run ≡ true
is_none-from_none run e = rw e refl
