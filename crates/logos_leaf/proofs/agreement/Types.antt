-- Types that are given and replaced without a fault.
use Rattle.std.proofs.Common.{◌≡◌, ℕ, List, [], ◌∷◌, ◌++◌, Bool, true, false, Option, Some, None, ◌∙◌, ap, sym, refl, arith, inl, inr, subst, if◌then◌else◌}
use Rattle.std.specs.Str.{bytes_eq}
use Rattle.std.proofs.lemmas.Slice.Eq.{bytes_eq-Decides}
use Rattle.logos_lexeme.specs.declared.lexeme.Span.{Span}
use Rattle.logos_token.specs.Faults.{Fault}
use Rattle.logos_token.specs.Tokens.{TokenList, run_span}
use Rattle.logos_type.specs.Parts.{Tree, Trees}
use Rattle.logos_type_reader.proofs.ReadingLaws.{one_type, refused_type, not_less}
use Rattle.logos_type_params.specs.Substitution.{ParamValue, Params, nothing, given, given_first, is_among, After, token, stays, named, put, inside, stays_still, AllAfter, none_after, also_after}
use Rattle.logos_type_params.specs.SelfReference.{Has}
use Rattle.logos_type_params.specs.SelfFaults.{IsChecked, declared_again, leads_on, leads_back, AreChecked, no_name, one_more}
use Rattle.logos_type_params.specs.TypeParams.{Named, Value, ReadsValue, is_type, continues, no_type, with_lifetimes, is_declared, former, given_more, given_faults, IsSet, no_value, undeclared, is_given}
use Rattle.logos_type_params.specs.WrittenTypes.{AreHeld, GetsType, replaced, as_written}
use Rattle.logos_type_params.proofs.SubstitutionLaws.{one_after, deeper}
use Rattle.logos_leaf.proofs.agreement.Report.{Grows, Agree, grows_by, grows_same, grows_then, none_before, never, none_added, added_none, no_some, the_same, not_both}

-- ---- values that are types

pub read_grows : {run : TokenList} {at : Span} {old new : List Fault} {read : Option Tree} → ReadsValue run at old new read → Grows old new
read_grows (is_type t e) = grows_same e
read_grows (continues t e) = grows_by _ e
read_grows (no_type t e) = grows_by _ e

pub none_read : {run : TokenList} {at : Span} {old new : List Fault} → ReadsValue run at old new None → new ≡ [] → ⊥
none_read (continues t e) n = never _ _ _ e n
none_read (no_type t e) n = never _ _ _ e n

pub read_once : {run : TokenList} {at : Span} {old new old' new' : List Fault} {tree : Tree} {read : Option Tree} → ReadsValue run at old new (Some tree) → ReadsValue run at old' new' read →
    Agree (Some tree) read old' new'
read_once (is_type t e) (is_type u f) = (f, ap (λ (x : Tree). Some x) (one_type t u).0)
read_once (is_type t e) (continues u f) = absurd (let k = (one_type t u).1 in cc)
read_once (is_type t e) (no_type u f) = absurd (not_less (refused_type u t))

-- ---- types that are given to names

pub set_grows : {v w : Value} {name : Named} {run : TokenList} {old new : List Fault} → IsSet v name run old w new → Grows old new
set_grows (no_value r e) = read_grows r
set_grows (undeclared r d e f) = grows_by _ f
set_grows (is_given r d n l t f) = grows_by _ f

value_same : (v w : Value) → v.names ≡ w.names → v.types ≡ w.types → v.lifetime ≡ w.lifetime → v ≡ w
value_same v w n t l = λ i. record { names = n i; types = t i; lifetime = l i }

module _ {v w w' : Value} {name : Named} {run : TokenList} {old new old' new' : List Fault} where
  given_once : {tree : Tree} → new ≡ [] → ReadsValue run (run_span run) old old (Some tree) → is_declared v.names name.text ≡ true → w.names ≡ v.names → w.lifetime ≡ v.lifetime →
      w.types ≡ given_more (record { name = name; type = with_lifetimes tree; at = run_span run }) v.types → new ≡ old ++ given_faults (former v.types name.text) name →
      IsSet v name run old' w' new' → Agree w w' old' new'
  given_once e r d n l t f (no_value s g) = absurd (no_some (read_once r s).1)
  given_once e r d n l t f (undeclared s c g h) = absurd (not_both d c)
  given_once e r d n l t f (is_given s c m k u h) =
      let same = the_same (read_once r s).1 in (
        added_none h (none_added _ f e),
        value_same w w' (n ∙ sym m)
            (t ∙ (ap (λ (x : Tree). given_more (record { name = name; type = with_lifetimes x; at = run_span run }) v.types) same ∙ sym u)) (l ∙ sym k),
      )

  pub set_once : new ≡ [] → IsSet v name run old w new → IsSet v name run old' w' new' → Agree w w' old' new'
  set_once e (no_value r g) s = absurd (none_read r e)
  set_once e (undeclared r d g h) s = absurd (never _ _ _ h e)
  set_once e (is_given r d n l t f) s = given_once e r d n l t f s

-- ---- names that hold themselves

pub checked_grows : {params : List ParamValue} {front : List Named} {name : Named} {old new : List Fault} → IsChecked params front name old new → Grows old new
checked_grows (declared_again d e) = grows_same e
checked_grows (leads_on l e) = grows_same e
checked_grows (leads_back d l e) = grows_by _ e

pub are_checked_grow : {params : List ParamValue} {front names : List Named} {old new : List Fault} → AreChecked params front names old new → Grows old new
are_checked_grow no_name = grows_same refl
are_checked_grow (one_more c rest) = grows_then (checked_grows c) (are_checked_grow rest)

checked_once : {params : List ParamValue} {front : List Named} {name : Named} {old new old' new' : List Fault} → new ≡ [] → IsChecked params front name old new →
    IsChecked params front name old' new' → new' ≡ old'
checked_once n (leads_back d l e) c = absurd (never _ _ _ e n)
checked_once n (declared_again d e) (declared_again c f) = f
checked_once n (declared_again d e) (leads_on l f) = f
checked_once n (declared_again d e) (leads_back c l f) = absurd (not_both d c)
checked_once n (leads_on k e) (declared_again c f) = f
checked_once n (leads_on k e) (leads_on l f) = f
checked_once n (leads_on k e) (leads_back c l f) = absurd (k l)

pub are_checked_once : {params : List ParamValue} {front names : List Named} {old new old' new' : List Fault} → new ≡ [] → AreChecked params front names old new →
    AreChecked params front names old' new' → new' ≡ old'
are_checked_once n no_name no_name = refl
are_checked_once n (one_more c rest) (one_more d others) = are_checked_once n rest others ∙ checked_once (none_before (are_checked_grow rest) n) c d

-- ---- names that are left in place

among_has : (texts : List (List ℕ)) (text : List ℕ) → is_among texts text ≡ true → Has texts text
among_has [] text e = absurd cc
among_has (t ∷ ts) text e = go (bytes_eq t text) refl (λ k. among_has ts text k)
  where
    go : (b : Bool) → bytes_eq t text ≡ b → (is_among ts text ≡ true → Has ts text) → Has (t ∷ ts) text
    go true d rest = inl ((bytes_eq-Decides t text).0 d)
    go false d rest = inr (rest (rw d at e))

has_among : (texts : List (List ℕ)) (text : List ℕ) → Has texts text → is_among texts text ≡ true
has_among [] text h = absurd h
has_among (t ∷ ts) text (inl e) = rw ((bytes_eq-Decides t text).1 e) refl
has_among (t ∷ ts) text (inr h) = go (bytes_eq t text) refl (has_among ts text h)
  where
    go : (b : Bool) → bytes_eq t text ≡ b → is_among ts text ≡ true → is_among (t ∷ ts) text ≡ true
    go true d rest = rw d refl
    go false d rest = rw d rest

also_held : {types : List ParamValue} {held others : List (List ℕ)} (text : List ℕ) → AreHeld types held → AreHeld types others → is_among held text ≡ true → is_among others text ≡ true
also_held {held = held} {others = others} text h k e =
    let a = among_has held text e in has_among others text (k.all text (h.have_types text a) (h.lead_back text a))

both_ways : (a b : Bool) → (a ≡ true → b ≡ true) → (b ≡ true → a ≡ true) → a ≡ b
both_ways true b f g = sym (f refl)
both_ways false true f g = g refl
both_ways false false f g = refl

-- each name has the same replacement
pub given_same : (p q : Params) → p.types ≡ q.types → AreHeld p.types p.held → AreHeld q.types q.held → (text : List ℕ) → given p text ≡ given q text
given_same p q e h k text =
    let l : AreHeld p.types q.held = subst (λ (x : List ParamValue). AreHeld x q.held) (sym e) k in
    ap (λ (b : Bool). if b then nothing else given_first p.types text) (both_ways (is_among p.held text) (is_among q.held text) (also_held text h l) (also_held text l h))
    ∙ ap (λ (x : List ParamValue). if is_among q.held text then nothing else given_first x text) e

-- ---- types that are replaced

module _ (p q : Params) (same : (text : List ℕ) → given p text ≡ given q text) where
  mutual
    after_too : {n : ℕ} {t u : Tree} → After p n t u → After q n t u
    after_too token = token
    after_too (stays {text = text} a e) = stays a (sym (same text) ∙ e)
    after_too (named {text = text} a e) = named a (sym (same text) ∙ e)
    after_too (put {text = text} a e h) = put a (sym (same text) ∙ e) (all_after_too h)
    after_too (inside a h) = inside a (all_after_too h)
    after_too (stays_still e) = stays_still e

    all_after_too : {n : ℕ} {ts us : Trees} → AllAfter p n ts us → AllAfter q n ts us
    all_after_too none_after = none_after
    all_after_too (also_after a h) = also_after (after_too a) (all_after_too h)

  pub gets_once : {written got other : Tree} {at : Span} {old new old' new' : List Fault} → new ≡ [] → GetsType p written at old new got → GetsType q written at old' new' other →
      Agree got other old' new'
  gets_once n (as_written h g e) s = absurd (never _ _ _ e n)
  gets_once n (replaced h e) (replaced k f) = (f, one_after q (after_too h) k)
  gets_once n (replaced h e) (as_written k g f) = absurd (let l = deeper q k (after_too h) in omega (arith, l))

pub gets_grows : {p : Params} {written got : Tree} {at : Span} {old new : List Fault} → GetsType p written at old new got → Grows old new
gets_grows (replaced h e) = grows_same e
gets_grows (as_written h g e) = grows_by _ e
