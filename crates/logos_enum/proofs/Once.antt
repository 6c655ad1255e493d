-- A rule has at most one outcome for a run.
use Rattle.std.proofs.Common.{◌≡◌, ◌+◌, Bool, true, false, List, Option, Some, None, Result, Ok, Err, MatchOption, refl, sym, ◌∙◌, ap, subst, arith}
use Rattle.logos_token.specs.Tokens.{TokenList, none, also, append, count_of}
use Rattle.logos_token.proofs.reading.CountLemmas.{token_count-positive}
use Rattle.logos_enum.specs.declared.error.ReadError.{ReadError}
use Rattle.logos_enum.specs.Rules.{Outcome, Rule, by, given, Then, Listed, preceded_by, after_item}
use Rattle.logos_enum.specs.Rules.Then.{goes, stops}
use Rattle.logos_enum.specs.Rules.Listed.{ended, further, unparted, stopped}
use Rattle.logos_enum.specs.Attributes.{Attributes, announced_in, IsFront}
use Rattle.logos_enum.specs.Attributes.Attributes.{occur, broken}
use Rattle.logos_enum.specs.Enum.{NoFront}
use Rattle.logos_enum.specs.Enum.NoFront.{malformed, without}
use Rattle.logos_token.specs.declared.token.views.Tokens.{Tokens}
use Rattle.logos_token.specs.Views.{tokens_of}

abbrev pub Once : {A : Type 0} → Rule A → Type 0
Once {A} R = (run : TokenList) (one other : Outcome A) → R run one → R run other → one ≡ other

pub once-by : {A : Type 0} (f : TokenList → Outcome A) → Once (by f)
once-by f run one other h k = sym h ∙ k

pub once-given : {A : Type 0} (value : A) → Once (given value)
once-given value run one other h k = sym h ∙ k

-- outcomes, with their types
abbrev pub reading : {A : Type 0} → A → TokenList → Outcome A
reading value rest = Ok (value, rest)

abbrev pub failing : (A : Type 0) → ReadError → Result A ReadError
failing A error = Err error

abbrev pub succeeding : (A : Type 0) → A → Result A ReadError
succeeding A value = Ok value

abbrev pub leaving : TokenList → Result TokenList ReadError
leaving rest = Ok rest

-- the value that is read, and the end of its tokens, by one outcome
same-read : {A : Type 0} (one other : A × TokenList) → ◌≡◌ {A = Outcome A} (Ok one) (Ok other) → one ≡ other
same-read one other e = cc

pub same-value : {A : Type 0} (value other : A) (rest after : TokenList) → reading value rest ≡ reading other after → value ≡ other
same-value {A} value other rest after e = ap (λ (read : A × TokenList). read.0) (same-read (value, rest) (other, after) e)

pub same-rest : {A : Type 0} (value other : A) (rest after : TokenList) → reading value rest ≡ reading other after → rest ≡ after
same-rest {A} value other rest after e = ap (λ (read : A × TokenList). read.1) (same-read (value, rest) (other, after) e)

pub same-error : (A B : Type 0) (error other : ReadError) → failing A error ≡ failing A other → failing B error ≡ failing B other
same-error A B error other e = let p : error ≡ other = cc in ap (failing B) p

-- nothing is read, and fails too
pub read-or-fail : (A : Type 0) (value : A) (error : ReadError) → ◌≡◌ {A = Result A ReadError} (Ok value) (Err error) → ⊥
read-or-fail A value error e = cc

module _ {A B : Type 0} (First : Rule A) (Next : A → Rule B) (first-once : Once First) (next-once : (value : A) → Once (Next value)) where
  pub once-then : Once (Then First Next)
  once-then run one other (goes {value} {rest} f n) (goes {value = value'} {rest = rest'} g m) =
      let e = first-once run _ _ f g in
      let m' : Next value rest' other = subst (λ (v : A). Next v rest' other) (sym (same-value value value' rest rest' e)) m in
      let m'' : Next value rest other = subst (λ (r : TokenList). Next value r other) (sym (same-rest value value' rest rest' e)) m' in
      next-once value rest one other n m''
  once-then run one other (goes f n) (stops g) = let e = first-once run _ _ f g in cc
  once-then run one other (stops f) (goes g m) = let e = first-once run _ _ f g in cc
  once-then run one other (stops {error} f) (stops {error = error'} g) = same-error (A × TokenList) (B × TokenList) error error' (first-once run _ _ f g)

module _ {A : Type 0} (ends : TokenList → Bool) (Item : Rule A) (item-once : Once Item) where
  pub once-listed : Once (Listed ends Item)
  once-listed run one other (ended e) (ended f) = refl
  once-listed run one other (ended e) (further f i p l) = let k : true ≡ false = sym e ∙ f in cc
  once-listed run one other (ended e) (unparted f i p) = let k : true ≡ false = sym e ∙ f in cc
  once-listed run one other (ended e) (stopped f i) = let k : true ≡ false = sym e ∙ f in cc
  once-listed run one other (further e i p l) (ended f) = let k : true ≡ false = sym f ∙ e in cc
  once-listed run one other (further {rest} {next} {value} {outcome} e i p l) (further {rest = rest'} {next = next'} {value = value'} {outcome = outcome'} f j q m) =
      let s = item-once run _ _ i j in
      let t : after_item ends rest ≡ Ok (tt, next') = subst (λ (r : TokenList). after_item ends r ≡ Ok (tt, next')) (sym (same-rest value value' rest rest' s)) q in
      let n = same-rest tt tt next next' (sym p ∙ t) in
      let m' : Listed ends Item next outcome' = subst (λ (r : TokenList). Listed ends Item r outcome') (sym n) m in
      ap (preceded_by value) (once-listed next outcome outcome' l m') ∙ ap (λ (v : A). preceded_by v outcome') (same-value value value' rest rest' s)
  once-listed run one other (further {rest} {value} e i p l) (unparted {rest = rest'} {value = value'} {error} f j q) =
      let s = item-once run _ _ i j in
      let t : after_item ends rest ≡ Err error = subst (λ (r : TokenList). after_item ends r ≡ Err error) (sym (same-rest value value' rest rest' s)) q in
      cc
  once-listed run one other (further e i p l) (stopped f j) = let s = item-once run _ _ i j in cc
  once-listed run one other (unparted e i p) (ended f) = let k : true ≡ false = sym f ∙ e in cc
  once-listed run one other (unparted {rest} {value} {error} e i p) (further {rest = rest'} {next = next'} {value = value'} f j q m) =
      let s = item-once run _ _ i j in
      let t : after_item ends rest ≡ Ok (tt, next') = subst (λ (r : TokenList). after_item ends r ≡ Ok (tt, next')) (sym (same-rest value value' rest rest' s)) q in
      cc
  once-listed run one other (unparted {rest} {value} {error} e i p) (unparted {rest = rest'} {value = value'} {error = error'} f j q) =
      let s = item-once run _ _ i j in
      let t : after_item ends rest ≡ Err error' = subst (λ (r : TokenList). after_item ends r ≡ Err error') (sym (same-rest value value' rest rest' s)) q in
      same-error (Unit {0} × TokenList) (List A × TokenList) error error' (sym p ∙ t)
  once-listed run one other (unparted e i p) (stopped f j) = let s = item-once run _ _ i j in cc
  once-listed run one other (stopped e i) (ended f) = let k : true ≡ false = sym f ∙ e in cc
  once-listed run one other (stopped e i) (further f j q m) = let s = item-once run _ _ i j in cc
  once-listed run one other (stopped e i) (unparted f j q) = let s = item-once run _ _ i j in cc
  once-listed run one other (stopped {error} e i) (stopped {error = error'} f j) = same-error (A × TokenList) (List A × TokenList) error error' (item-once run _ _ i j)

count-append : (front back : TokenList) → count_of (append front back) ≡ count_of front + count_of back
count-append none back = omega arith
count-append (also token front) back = let h = count-append front back in omega arith

-- runs before equal rests are equal
pub one-front : (front other rest : TokenList) → append front rest ≡ append other rest → front ≡ other
one-front none none rest e = refl
one-front none (also token other) rest e =
    let h : count_of rest ≡ count_of (append (also token other) rest) = ap count_of e in
    absurd (omega (arith, h, count-append other rest, token_count-positive token))
one-front (also token front) none rest e =
    let h : count_of (append (also token front) rest) ≡ count_of rest = ap count_of e in
    absurd (omega (arith, h, count-append front rest, token_count-positive token))
one-front (also token front) (also first other) rest e =
    let t : token ≡ first = cc in
    let r : append front rest ≡ append other rest = cc in
    let f = one-front front other rest r in
    cc

pub once-attributes : Once Attributes
once-attributes run one other (occur {attributes} {rest} e f) (occur {attributes = attributes'} {rest = rest'} g h) =
    let s : leaving rest ≡ leaving rest' = sym e ∙ g in
    let r : rest ≡ rest' = cc in
    let k : append attributes rest ≡ append attributes' rest = sym f ∙ (h ∙ ap (append attributes') (sym r)) in
    let a = one-front attributes attributes' rest k in
    ap (λ (front : TokenList). reading front rest) a ∙ ap (λ (back : TokenList). reading attributes' back) r
once-attributes run one other (occur e f) (broken g) = let s = sym e ∙ g in cc
once-attributes run one other (broken e) (occur g h) = let s = sym e ∙ g in cc
once-attributes run one other (broken {error} e) (broken {error = error'} g) = same-error TokenList (TokenList × TokenList) error error' (sym e ∙ g)

-- no front where there is one
pub no-front : (run : TokenList) → NoFront run → (attributes rest : TokenList) → IsFront run attributes rest → ⊥
no-front run (malformed error h) attributes rest f = let s = once-attributes run _ _ h f.occur in cc
no-front run (without front middle h e) attributes rest f =
    let s = once-attributes run _ _ h f.occur in
    let m = same-rest front attributes middle f.middle s in
    let k : ◌≡◌ {A = Option TokenList} None (Some rest) = sym e ∙ (ap announced_in m ∙ f.announced) in
    cc

-- a front is found if `enum` comes after the attributes
pub front-match : (run attributes middle : TokenList) (result : Option (Tokens × Tokens)) → Attributes run (Ok (attributes, middle)) →
    MatchOption result (announced_in middle ≡ None) (λ read. (tokens_of read.0 ≡ attributes) × (announced_in middle ≡ Some (tokens_of read.1))) →
    MatchOption result (NoFront run) (λ read. IsFront run (tokens_of read.0) (tokens_of read.1))
front-match run attributes middle None h e = without attributes middle h e
front-match run attributes middle (Some read) h e = record { middle = middle; occur = rw e.0 h; announced = e.1 }
