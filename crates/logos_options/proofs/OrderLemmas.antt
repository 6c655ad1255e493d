-- The order of options does not matter.
use Rattle.std.proofs.Common.{◌≡◌, ◌≢◌, ◌∙◌, ◌++◌, ℕ, Bool, true, false, List, [], ◌∷◌, Option, Some, None, ap, if◌then◌else◌, is_some, refl, set, sym}
use Rattle.std.proofs.lemmas.List.{append-nil, get_or-set_other, set_comm}
use Rattle.logos_options.specs.ArgumentSteps.{OptionValue}
use Rattle.logos_options.specs.Arguments.{ArgumentsValue, arguments_of, is_set, nothing_given, settled, with_given, with_role, with_step, with_arguments}
use Rattle.logos_options.specs.Options.{number, role_of}
use Rattle.logos_options.specs.Paths.{not_begun}
use Rattle.logos_options.specs.Programs.{takes}
use Rattle.logos_options.specs.WholeOptions.{AreApart, AreSettled, AreWhole, nothing, in_one, in_two, IsOther}
use Rattle.logos_options.specs.declared.options.OptionRole.{OptionRole}
use Rattle.logos_options.specs.declared.options.OptionRole.TheVariants.{Setting, Question, Text}
use Rattle.logos_options.specs.declared.program.Program.{Program}

-- Arguments of which all are read, with no text.
abbrev held : Option (List ℕ) → Option (List ℕ) → List (Option (List ℕ)) → Option OptionValue → ArgumentsValue
held first second settings question = record { first = first; second = second; settings = settings; question = question; text = None; progress = not_begun }

-- One more option, which the program takes or not and which does this.
abbrev given_by : Bool → OptionRole → ArgumentsValue → OptionValue → Option ArgumentsValue
given_by b role parsed one = if b then with_role parsed one role else None

abbrev then_by : Bool → OptionRole → OptionValue → Option ArgumentsValue → Option ArgumentsValue
then_by b role one None = None
then_by b role one (Some parsed) = given_by b role parsed one

-- One more option after these arguments, if they were valid.
abbrev after : Program → Option ArgumentsValue → OptionValue → Option ArgumentsValue
after program parsed one = then_by (takes program one.option) (role_of one.option) one parsed

-- These options, one after another.
abbrev with_options : Program → Option ArgumentsValue → List OptionValue → Option ArgumentsValue
with_options program parsed [] = parsed
with_options program parsed (one ∷ rest) = with_options program (after program parsed one) rest

-- Arguments are invalid, or all are read.
data IsHeld : Option ArgumentsValue → Type 0 where
  refused : IsHeld None
  holds : (first second : Option (List ℕ)) (settings : List (Option (List ℕ))) (question : Option OptionValue) → IsHeld (Some (held first second settings question))

module _ (program : Program) (first second : Option (List ℕ)) (settings : List (Option (List ℕ))) (question : Option OptionValue) (one : OptionValue) where
  by_set : (b : Bool) → IsHeld (if b then None else Some (held first second (set settings (number one.option) (Some one.value)) question))
  by_set true = refused
  by_set false = holds first second (set settings (number one.option) (Some one.value)) question

  by_question : (b : Bool) → IsHeld (if b then None else Some (held first second settings (Some one)))
  by_question true = refused
  by_question false = holds first second settings (Some one)

  by_takes : (b : Bool) (role : OptionRole) → role ≢ Text → IsHeld (if b then with_role (held first second settings question) one role else None)
  by_takes false role n = refused
  by_takes true Setting n = by_set (is_set one.option settings)
  by_takes true Question n = by_question (is_some question)
  by_takes true Text n = absurd (n refl)

  still_held : role_of one.option ≢ Text → IsHeld (with_given program (held first second settings question) one)
  still_held n = by_takes (takes program one.option) (role_of one.option) n

none_left : (program : Program) (arguments : List (List ℕ)) → with_arguments program None arguments ≡ None
none_left program [] = refl
none_left program (word ∷ rest) = refl

none_after : (program : Program) (list : List OptionValue) → with_options program None list ≡ None
none_after program [] = refl
none_after program (one ∷ rest) = none_after program rest

held_after : (program : Program) (r : Option ArgumentsValue) (one : OptionValue) → IsHeld r → role_of one.option ≢ Text → IsHeld (after program r one)
held_after program None one refused n = refused
held_after program (Some parsed) one (holds first second settings question) n = still_held program first second settings question one n

-- Reading the arguments is reading the options that they spell.
reads : (program : Program) (arguments : List (List ℕ)) (list : List OptionValue) → AreWhole arguments list → AreSettled list → (r : Option ArgumentsValue) → IsHeld r →
    with_arguments program r arguments ≡ with_options program r list
reads program [] [] nothing s r h = refl
reads program [] (one ∷ rest) w s r h = elim w [ ]
reads program (word ∷ arguments) [] w s r h = elim w [ ]
reads program (word ∷ arguments) (one ∷ rest) (in_one e m) s None refused = sym (none_after program rest)
reads program (word ∷ arguments) (one ∷ rest) (in_one e m) s (Some parsed) (holds f g v q) =
    ap (λ o. with_arguments program (with_step program (held f g v q) o) arguments) e
    ∙ reads program arguments rest m s.1 (with_given program (held f g v q) one) (still_held program f g v q one s.0)
reads program (word ∷ value ∷ arguments) (one ∷ rest) (in_two e m) s None refused = sym (none_after program rest)
reads program (word ∷ value ∷ arguments) (one ∷ rest) (in_two e m) s (Some parsed) (holds f g v q) =
    ap (λ o. with_arguments program (with_step program (held f g v q) o) (value ∷ arguments)) e
    ∙ reads program arguments rest m s.1 (with_given program (held f g v q) one) (still_held program f g v q one s.0)

-- Two options may be exchanged.
abbrev chain : Bool → Bool → ArgumentsValue → Option ArgumentsValue
chain s t end = if s then None else (if t then None else Some end)

both : (s t t' s' : Bool) (end other : ArgumentsValue) → t' ≡ t → s' ≡ s → end ≡ other → chain s t' end ≡ chain t s' other
both true true t' s' end other p q r = refl
both true false t' s' end other p q r = sym (ap (λ b. if b then None else Some other) q)
both false true t' s' end other p q r = ap (λ b. if b then None else Some end) p
both false false t' s' end other p q r = ap (λ b. if b then None else Some end) p ∙ ap (λ e. Some e) r ∙ sym (ap (λ b. if b then None else Some other) q)

twice : (s : Bool) (end other : ArgumentsValue) → chain s true end ≡ chain s true other
twice true end other = refl
twice false end other = refl

never : (role : OptionRole) (one : OptionValue) (o : Option ArgumentsValue) → then_by false role one o ≡ None
never role one None = refl
never role one (Some parsed) = refl

chained : (role : OptionRole) (one : OptionValue) (s : Bool) (a : ArgumentsValue) → then_by true role one (if s then None else Some a) ≡ (if s then None else with_role a one role)
chained role one true a = refl
chained role one false a = refl

module _ (f g : Option (List ℕ)) (v : List (Option (List ℕ))) (q : Option OptionValue) (x y : OptionValue) (apart : number x.option ≢ number y.option) where
  abbrev x_first : List (Option (List ℕ))
  x_first = set v (number x.option) (Some x.value)

  abbrev y_first : List (Option (List ℕ))
  y_first = set v (number y.option) (Some y.value)

  y_as_before : is_set y.option x_first ≡ is_set y.option v
  y_as_before = ap is_some (get_or-set_other v (number x.option) (number y.option) (Some x.value) None (λ e. apart (sym e)))

  x_as_before : is_set x.option y_first ≡ is_set x.option v
  x_as_before = ap is_some (get_or-set_other v (number y.option) (number x.option) (Some y.value) None apart)

  same_end : held f g (set x_first (number y.option) (Some y.value)) q ≡ held f g (set y_first (number x.option) (Some x.value)) q
  same_end = ap (λ settings. held f g settings q) (set_comm v (number x.option) (number y.option) (Some x.value) (Some y.value) apart)

  by_roles : (a b : OptionRole) → a ≢ Text → b ≢ Text → then_by true b y (given_by true a (held f g v q) x) ≡ then_by true a x (given_by true b (held f g v q) y)
  by_roles Setting Setting n m =
      chained Setting y (is_set x.option v) (held f g x_first q)
      ∙ both (is_set x.option v) (is_set y.option v) (is_set y.option x_first) (is_set x.option y_first) (held f g (set x_first (number y.option) (Some y.value)) q) (held f g (set y_first (number x.option) (Some x.value)) q)
      y_as_before x_as_before same_end
      ∙ sym (chained Setting x (is_set y.option v) (held f g y_first q))
  by_roles Setting Question n m =
      chained Question y (is_set x.option v) (held f g x_first q)
      ∙ both (is_set x.option v) (is_some q) (is_some q) (is_set x.option v) (held f g x_first (Some y)) (held f g x_first (Some y)) refl refl refl
      ∙ sym (chained Setting x (is_some q) (held f g v (Some y)))
  by_roles Question Setting n m =
      chained Setting y (is_some q) (held f g v (Some x))
      ∙ both (is_some q) (is_set y.option v) (is_set y.option v) (is_some q) (held f g y_first (Some x)) (held f g y_first (Some x)) refl refl refl
      ∙ sym (chained Question x (is_set y.option v) (held f g y_first q))
  by_roles Question Question n m =
      chained Question y (is_some q) (held f g v (Some x))
      ∙ twice (is_some q) (held f g v (Some y)) (held f g v (Some x))
      ∙ sym (chained Question x (is_some q) (held f g v (Some y)))
  by_roles Text b n m = absurd (n refl)
  by_roles Setting Text n m = absurd (m refl)
  by_roles Question Text n m = absurd (m refl)

  by_both : (s t : Bool) (a b : OptionRole) → a ≢ Text → b ≢ Text → then_by t b y (given_by s a (held f g v q) x) ≡ then_by s a x (given_by t b (held f g v q) y)
  by_both true true a b n m = by_roles a b n m
  by_both false t a b n m = sym (never a x (given_by t b (held f g v q) y))
  by_both true false a b n m = never b y (given_by true a (held f g v q) x)

swapped : (program : Program) (r : Option ArgumentsValue) → IsHeld r → (x y : OptionValue) → role_of x.option ≢ Text → role_of y.option ≢ Text → number x.option ≢ number y.option →
    after program (after program r x) y ≡ after program (after program r y) x
swapped program None refused x y n m apart = refl
swapped program (Some parsed) (holds f g v q) x y n m apart =
    by_both f g v q x y apart (takes program x.option) (takes program y.option) (role_of x.option) (role_of y.option) n m

-- An option may come after others.
moved : (program : Program) (r : Option ArgumentsValue) → IsHeld r → (x : OptionValue) (xs ys : List OptionValue) → role_of x.option ≢ Text → AreSettled xs → IsOther x xs →
    with_options program (after program r x) (xs ++ ys) ≡ with_options program r (xs ++ x ∷ ys)
moved program r h x [] ys n s o = refl
moved program r h x (z ∷ xs) ys n s o =
    ap (λ a. with_options program a (xs ++ ys)) (swapped program r h x z n s.0 o.0)
    ∙ moved program (after program r z) (held_after program r z h s.0) x xs ys n s.1 o.1

rotated : (program : Program) (r : Option ArgumentsValue) → IsHeld r → (xs ys : List OptionValue) → AreSettled xs → AreSettled ys → AreApart xs ys →
    with_options program r (xs ++ ys) ≡ with_options program r (ys ++ xs)
rotated program r h [] ys s t apart = ap (λ list. with_options program r list) (sym (append-nil ys))
rotated program r h (x ∷ xs) ys s t apart =
    rotated program (after program r x) (held_after program r x h s.0) xs ys s.1 t apart.1
    ∙ moved program r h x ys xs s.0 t apart.0

whole_both : (one other : List (List ℕ)) (xs ys : List OptionValue) → AreWhole one xs → AreWhole other ys → AreWhole (one ++ other) (xs ++ ys)
whole_both [] other [] ys nothing w = w
whole_both [] other (x ∷ xs) ys v w = elim v [ ]
whole_both (word ∷ arguments) other [] ys v w = elim v [ ]
whole_both (word ∷ arguments) other (x ∷ xs) ys (in_one e m) w = in_one e (whole_both arguments other xs ys m w)
whole_both (word ∷ value ∷ arguments) other (x ∷ xs) ys (in_two e m) w = in_two e (whole_both arguments other xs ys m w)

settled_both : (xs ys : List OptionValue) → AreSettled xs → AreSettled ys → AreSettled (xs ++ ys)
settled_both [] ys s t = t
settled_both (x ∷ xs) ys s t = (s.0, settled_both xs ys s.1 t)

pub any_order : (program : Program) (one other : List (List ℕ)) (first second : List OptionValue) → AreWhole one first → AreWhole other second → AreSettled first → AreSettled second → AreApart first second →
    arguments_of program (one ++ other) ≡ arguments_of program (other ++ one)
any_order program one other first second w u s t apart =
    let start : IsHeld (Some nothing_given) = holds None None nothing_given.settings None in
    ap settled (reads program (one ++ other) (first ++ second) (whole_both one other first second w u) (settled_both first second s t) (Some nothing_given) start
    ∙ rotated program (Some nothing_given) start first second s t apart
    ∙ sym (reads program (other ++ one) (second ++ first) (whole_both other one second first u w) (settled_both second first t s) (Some nothing_given) start))
