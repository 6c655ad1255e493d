-- Declared names before others, and the consequences for those that are checked and copied.
use Rattle.std.proofs.Common.{◌≡◌, ℕ, ◌⊎◌, ◌↔◌, inl, List, [], ◌∷◌, ◌++◌, ◌||◌, Bool, true, false, not, Option, Some, None, Bor, refl, sym, ap, ◌∙◌, subst, append_assoc, append-nil, true≢false, IsTrue, if◌then◌else◌, cond, inr, Result, Ok, Err}
use Rattle.std.specs.Prelude.{OnOk, IsOk}
use Rattle.std.specs.Str.{bytes_eq}
use Rattle.std.specs.List.{list_any}
use Rattle.logos_token.specs.Faults.{Fault}
use Rattle.logos_type_params.specs.Substitution.{ParamValue}
use Rattle.logos_type_params.specs.SelfReference.{Leads, Has, texts}
use Rattle.logos_type_params.specs.SelfFaults.{type_holds_itself, declared_again, leads_on, leads_back, IsChecked, AreChecked, no_name, one_more}
use Rattle.logos_type.specs.Parts.{Tree}
use Rattle.logos_type_params.specs.TypeParams.{Named, Given, is_declared}
use Rattle.logos_type_params.specs.Generics.{type_of, and_type, and_fault, concrete_types, missing_types}
use Rattle.logos_type_params.specs.WrittenTypes.{is_held, is_free}
use Rattle.logos_type_params.specs.inside.Chains.{AreMarked}
use Rattle.logos_type_params.specs.inside.Fronts.{AreInFront}
use Rattle.logos_type_params.specs.inside.Checks.{ChecksName, NeedsName, CopiesName}
use Rattle.logos_type_params.proofs.ChainLemmas.{Text, any_texts, any_has, any_from_has, any_put, PutsText, eq_text, same_text}

-- a text among those to which one was added
has_key : (t : Bor Text) (keys keys' : List (Bor Text)) (x : Text) → PutsText t keys keys' → Has (texts keys') x → Has (texts keys) x ⊎ (t.now ≡ x)
has_key t keys keys' x put h = go (bytes_eq t.now x) refl
  where
    go : (b : Bool) → bytes_eq t.now x ≡ b → Has (texts keys) x ⊎ (t.now ≡ x)
    go true e = inr (same_text t.now x e)
    go false e = inl (any_has x (texts keys) (let f = sym (any_put t keys keys' put x) ∙ any_from_has x (texts keys') h in rw e at f))

key_has : (t : Bor Text) (keys keys' : List (Bor Text)) (x : Text) → PutsText t keys keys' → Has (texts keys) x → Has (texts keys') x
key_has t keys keys' x put h = any_has x (texts keys') (any_put t keys keys' put x ∙ go (bytes_eq t.now x))
  where
    go : (b : Bool) → cond b true (list_any (bytes_eq x) (texts keys)) ≡ true
    go true = refl
    go false = any_from_has x (texts keys) h

key_put : (t : Bor Text) (keys keys' : List (Bor Text)) → PutsText t keys keys' → Has (texts keys') t.now
key_put t keys keys' put = any_has t.now (texts keys') (any_put t keys keys' put t.now ∙ rw (eq_text t.now t.now refl) refl)

-- a property of a success that is one
pub on_ok_is : {T E P : Type 0} (r : Result T E) → IsOk r → OnOk r P → P
on_ok_is (Ok x) is p = p
on_ok_is (Err e) is p = absurd (true≢false (sym is))

-- ---- names in front

in_front : (front : List Named) (named : Named) (t : Text) → is_declared (front ++ named ∷ []) t ≡ (is_declared front t || bytes_eq named.text t)
in_front [] named t = go (bytes_eq named.text t) refl
  where
    go : (b : Bool) → bytes_eq named.text t ≡ b → (if bytes_eq named.text t then true else false) ≡ bytes_eq named.text t
    go true e = rw e refl
    go false e = rw e refl
in_front (n ∷ front) named t = go (bytes_eq n.text t) refl (in_front front named t)
  where
    go : (b : Bool) → bytes_eq n.text t ≡ b → is_declared (front ++ named ∷ []) t ≡ (is_declared front t || bytes_eq named.text t) →
        is_declared ((n ∷ front) ++ named ∷ []) t ≡ (is_declared (n ∷ front) t || bytes_eq named.text t)
    go true e rest = rw e refl
    go false e rest = rw e rest

or_first : (b d : Bool) → cond b true d ≡ (d || b)
or_first true true = refl
or_first true false = refl
or_first false true = refl
or_first false false = refl

pub fronts_on : (t : Bor Text) (named : Named) (keys keys' : List (Bor Text)) (front : List Named) → named.text ≡ t.now → PutsText t keys keys' → AreInFront front keys → AreInFront (front ++ named ∷ []) keys'
fronts_on t named keys keys' front is put are x =
    any_put t keys keys' put x ∙ ap (λ (b : Bool). cond (bytes_eq t.now x) true b) (are x) ∙ or_first (bytes_eq t.now x) (is_declared front x)
    ∙ ap (λ (y : Text). is_declared front x || bytes_eq y x) (sym is) ∙ sym (in_front front named x)

-- equal texts in another order
pub fronts_same : (front : List Named) (keys keys' : List (Bor Text)) → AreInFront front keys →
    ((q : Bor Text) → list_any (λ (k : Bor Text). bytes_eq q.now k.now) keys' ≡ list_any (λ (k : Bor Text). bytes_eq q.now k.now) keys) → AreInFront front keys'
fronts_same front keys keys' are same x = sym (any_texts x keys') ∙ same (record { ref_ptr = (0, 0); now = x }) ∙ any_texts x keys ∙ are x

pub among : (t : Bor Text) (keys : List (Bor Text)) (added b : Bool) → added ≡ not (list_any (λ (k : Bor Text). bytes_eq t.now k.now) keys) → added ≡ b → list_any (bytes_eq t.now) (texts keys) ≡ not b
among t keys added b e f = sym (any_texts t.now keys) ∙ go (list_any (λ (k : Bor Text). bytes_eq t.now k.now) keys) b (sym f ∙ e)
  where
    go : (a d : Bool) → d ≡ not a → a ≡ not d
    go true true h = absurd (true≢false h)
    go true false h = refl
    go false true h = refl
    go false false h = absurd (true≢false (sym h))

module _ (t : Bor Text) (named : Named) (is : named.text ≡ t.now) (keys keys' : List (Bor Text)) (put : PutsText t keys keys') (params : List ParamValue) (marks : List Bool) (before after : List Fault) where
  declared_as : (front : List Named) → AreInFront front keys → (b : Bool) → list_any (bytes_eq t.now) (texts keys) ≡ b → is_declared front named.text ≡ b
  declared_as front are b e = rw is (sym (are t.now) ∙ e)

  -- a name that is already in the front
  pub checked_again : list_any (bytes_eq t.now) (texts keys) ≡ true → after ≡ before → ChecksName params marks keys named before keys' after
  checked_again e none = record {
    checked = λ are_marked front are. declared_again (declared_as front are true e) none;
    fronts = λ front are. fronts_on t named keys keys' front is put are;
  }

  -- a name to which no chain leads back
  pub checked_free : (leads : Bool) → leads ≡ false → (AreMarked params marks → IsTrue leads ↔ Leads params t.now t.now) → after ≡ before → ChecksName params marks keys named before keys' after
  checked_free leads l needed none = record {
    checked = λ are_marked front are. leads_on (λ back. true≢false (sym ((needed are_marked).1 (rw is at back)) ∙ l)) none;
    fronts = λ front are. fronts_on t named keys keys' front is put are;
  }

  -- a name to which a chain leads back
  pub checked_held : list_any (bytes_eq t.now) (texts keys) ≡ false → (leads : Bool) → leads ≡ true → (AreMarked params marks → IsTrue leads ↔ Leads params t.now t.now) → after ≡ before ++ type_holds_itself named ∷ [] → ChecksName params marks keys named before keys' after
  checked_held e leads l needed listed = record {
    checked = λ are_marked front are. leads_back (declared_as front are false e) (rw is ((needed are_marked).0 l)) listed;
    fronts = λ front are. fronts_on t named keys keys' front is put are;
  }

-- ---- types that are copied

module _ (types : List Given) (t : Bor Text) (named : Named) (is : named.text ≡ t.now) (keys keys' : List (Bor Text)) (put : PutsText t keys keys') where
  chosen : (front : List Named) → AreInFront front keys → (b : Bool) → list_any (bytes_eq t.now) (texts keys) ≡ b → is_declared front named.text ≡ b
  chosen front are b e = rw is (sym (are t.now) ∙ e)

  -- a name that is already in the front
  pub copies_none : list_any (bytes_eq t.now) (texts keys) ≡ true → CopiesName types keys named None keys'
  copies_none e = record {
    copied = λ front are. sym (ap (λ (b : Bool). if b then None else type_of types named.text) (chosen front are true e));
    fronts = λ front are. fronts_on t named keys keys' front is put are;
  }

  -- a name that occurs for the first time
  pub copies_type : (copy : Option Tree) → list_any (bytes_eq t.now) (texts keys) ≡ false → copy ≡ type_of types named.text → CopiesName types keys named copy keys'
  copies_type copy e same = record {
    copied = λ front are. same ∙ sym (ap (λ (b : Bool). if b then None else type_of types named.text) (chosen front are false e));
    fronts = λ front are. fronts_on t named keys keys' front is put are;
  }

and_type_on : (found : Option Tree) (rest : List Tree) → and_type found [] ++ rest ≡ and_type found rest
and_type_on None rest = refl
and_type_on (Some tree) rest = refl

and_fault_on : (found : Option Tree) (named : Named) (rest : List Fault) → and_fault found named [] ++ rest ≡ and_fault found named rest
and_fault_on None named rest = refl
and_fault_on (Some tree) named rest = refl

-- types are copied one by one: the rest of the names completes the types and the faults of all
pub record Copying (types : List Given) (all_types : List Tree) (all_faults : List Fault) (rest : List Named) (keys : List (Bor Text)) (copies : List Tree) (faults : List Fault) : Type 0 where
  pub front : List Named
  pub fronts : AreInFront front keys
  pub types_left : copies ++ concrete_types types front rest ≡ all_types
  pub faults_left : faults ++ missing_types types front rest ≡ all_faults

pub copy_on : (types : List Given) (all_types : List Tree) (all_faults : List Fault) (all rest : List Named) (named : Named) (keys keys' : List (Bor Text)) (found : Option Tree) (old new : List Tree) (before after : List Fault) →
    Copying types all_types all_faults all keys old before → all ≡ named ∷ rest → CopiesName types keys named found keys' → new ≡ old ++ and_type found [] → after ≡ before ++ and_fault found named [] →
    Copying types all_types all_faults rest keys' new after
copy_on types all_types all_faults all rest named keys keys' found old new before after c e h t f =
    let is = h.copied c.front c.fronts in record {
      front = c.front ++ named ∷ [];
      fronts = h.fronts c.front c.fronts;
      types_left =
          ap (λ l. l ++ concrete_types types (c.front ++ named ∷ []) rest) t ∙ append_assoc old (and_type found []) (concrete_types types (c.front ++ named ∷ []) rest)
          ∙ ap (λ l. old ++ l) (and_type_on found (concrete_types types (c.front ++ named ∷ []) rest) ∙ ap (λ o. and_type o (concrete_types types (c.front ++ named ∷ []) rest)) is)
          ∙ sym (ap (λ names. old ++ concrete_types types c.front names) e) ∙ c.types_left;
      faults_left =
          ap (λ l. l ++ missing_types types (c.front ++ named ∷ []) rest) f ∙ append_assoc before (and_fault found named []) (missing_types types (c.front ++ named ∷ []) rest)
          ∙ ap (λ l. before ++ l) (and_fault_on found named (missing_types types (c.front ++ named ∷ []) rest) ∙ ap (λ o. and_fault o named (missing_types types (c.front ++ named ∷ []) rest)) is)
          ∙ sym (ap (λ names. before ++ missing_types types c.front names) e) ∙ c.faults_left;
    }

-- a consequence of a fact about a success
pub on_ok_one : {T E P Q : Type 0} (r : Result T E) → (P → Q) → OnOk r P → OnOk r Q
on_ok_one (Ok x) f p = f p
on_ok_one (Err e) f p = tt

-- a tested name is held or not
pub needs_held : (params : List ParamValue) (marks : List Bool) (t : Bor Text) (leads : Bool) (keys keys' : List (Bor Text)) → leads ≡ true → (AreMarked params marks → IsTrue leads ↔ Leads params t.now t.now) → PutsText t keys keys' →
    NeedsName params marks t.now (texts keys) (texts keys')
needs_held params marks t leads keys keys' l needed put are =
    is_held ((needed are).0 l) (λ other h. has_key t keys keys' other put h) (λ other h. key_has t keys keys' other put h) (key_put t keys keys' put)

pub needs_free : (params : List ParamValue) (marks : List Bool) (t : Text) (leads : Bool) (held : List Text) → leads ≡ false → (AreMarked params marks → IsTrue leads ↔ Leads params t t) → NeedsName params marks t held held
needs_free params marks t leads held l needed are = is_free (λ back. true≢false (sym ((needed are).1 back) ∙ l)) refl

-- names are checked one by one, where a result for the rest completes to a result for the whole
pub record Checking (params : List ParamValue) (Whole : List Fault → Type 0) (rest : List Named) (keys : List (Bor (List ℕ))) (now : List Fault) : Type 0 where
  pub front : List Named
  pub fronts : AreInFront front keys
  pub completes : (faults : List Fault) → AreChecked params front rest now faults → Whole faults

pub check_on : (params : List ParamValue) (marks : List Bool) (Whole : List Fault → Type 0) (all rest : List Named) (named : Named) (keys keys' : List (Bor Text)) (before after : List Fault) →
    Checking params Whole all keys before → all ≡ named ∷ rest → ChecksName params marks keys named before keys' after → AreMarked params marks → Checking params Whole rest keys' after
check_on params marks Whole all rest named keys keys' before after c e h are = record {
  front = c.front ++ named ∷ [];
  fronts = h.fronts c.front c.fronts;
  completes = λ faults r. c.completes faults (rw e (one_more (h.checked are c.front c.fronts) r));
}

-- faults after those that were there before
checked_after : {params : List ParamValue} {front : List Named} {named : Named} {old new : List Fault} (ahead : List Fault) → IsChecked params front named old new → IsChecked params front named (ahead ++ old) (ahead ++ new)
checked_after ahead (declared_again d e) = declared_again d (ap (λ l. ahead ++ l) e)
checked_after ahead (leads_on n e) = leads_on n (ap (λ l. ahead ++ l) e)
checked_after {named = named} {old = old} ahead (leads_back d l e) = leads_back d l (ap (λ l. ahead ++ l) e ∙ sym (append_assoc ahead old (type_holds_itself named ∷ [])))

pub all_checked_after : {params : List ParamValue} {front names : List Named} {old new : List Fault} (ahead : List Fault) → AreChecked params front names old new → AreChecked params front names (ahead ++ old) (ahead ++ new)
all_checked_after ahead no_name = no_name
all_checked_after ahead (one_more first rest) = one_more (checked_after ahead first) (all_checked_after ahead rest)

-- faults that are found alone, and are then appended to others
pub checked_listed : {params : List ParamValue} {front names : List Named} (ahead none found all : List Fault) → none ≡ [] → AreChecked params front names none found → all ≡ ahead ++ found →
    AreChecked params front names ahead all
checked_listed {params = params} {front = front} {names = names} ahead none found all n checked e =
    subst (λ (l : List Fault). AreChecked params front names ahead l) (sym e)
    (subst (λ (l : List Fault). AreChecked params front names l (ahead ++ found)) (ap (λ (l : List Fault). ahead ++ l) n ∙ append-nil ahead) (all_checked_after ahead checked))
