-- Subpatterns among others.
use Rattle.std.proofs.Common.{◌≡◌, ℕ, zero, suc, ◌<◌, List, [], ◌∷◌, ◌++◌, map, length, get_or, set, Bool, true, false, cond, if◌then◌else◌, Option, Some, None, option_map, Result, Ok, Err, IsOk, is_ok, refl, sym, ap, subst, append_assoc, ◌∙◌, arith}
use denote.Ref.{Bor}
use Rattle.std.specs.Map.{lookup}
use Rattle.std.specs.Str.{bytes_eq, chars}
use Rattle.std.proofs.lemmas.List.{append-nil, length-map, map-set, map_push, get_or-map}
use Rattle.std.proofs.lemmas.Slice.Eq.{bytes_eq-Decides}
use Rattle.logos_lexeme.specs.declared.lexeme.Span.{Span}
use Rattle.logos_token.specs.Faults.{Fault}
use Rattle.logos_hir.specs.Tree.{Tree}
use Rattle.logos_pattern_tokens.specs.declared.error.PatternError.{PatternError}
use Rattle.logos_pattern_tokens.specs.declared.error.PatternError.TheVariants as errors
use Rattle.logos_syntax.specs.Grammar.{Refuses, first_flags}
use Rattle.logos_syntax.specs.Nesting.{IsTooDeep}
use Rattle.logos_type_params.specs.TypeParams.{previous}
use Rattle.logos_attribute.specs.Slices.{Slice}
use Rattle.logos_attribute.specs.Literals.{NamedLiteral}
use Rattle.logos_leaf.specs.declared.subpattern.Subpattern.{Subpattern}
use Rattle.logos_leaf.specs.subpattern.PatternFaults.{IsRead, Reads, spelled, broken, too_deep}
use Rattle.logos_leaf.specs.subpattern.Substitution.{Stored, stored_at}
use Rattle.logos_leaf.specs.subpattern.StoredViews.{stored_of}
use Rattle.logos_leaf.specs.subpattern.Subpatterns.{put_stored, twice_faults, subpattern_twice, subpattern_report, IsAdded, AreAdded, ended, further}
use Rattle.logos_leaf.specs.subpattern.inside.Errors.{ReportsError}
use Rattle.logos_leaf.specs.subpattern.inside.Slots.{FindSlots, slot_in}

-- ---- subpatterns by their indices

fresh-one : (b : Bool) (r : Option ℕ) → (if b then Some 0 else option_map suc r) ≡ None → (b ≡ false) × (r ≡ None)
fresh-one true r e = cc
fresh-one false None e = (refl, refl)
fresh-one false (Some j) e = cc

within-one : (n i : ℕ) (b : Bool) (r : Option ℕ) → ((j : ℕ) → r ≡ Some j → j < n) → (if b then Some 0 else option_map suc r) ≡ Some i → i < suc n
within-one n i true r h e = let z : 0 ≡ i = cc in omega (arith, z)
within-one n i false None h e = cc
within-one n i false (Some j) h e =
    let z : suc j ≡ i = cc in
    let l = h j refl in
    omega (arith, z, l)

within : (names : List Stored) (name : List ℕ) (i : ℕ) → slot_in names name ≡ Some i → i < length names
within [] name i e = cc
within (x ∷ rest) name i e = within-one (length rest) i (bytes_eq name x.name) (slot_in rest name) (within rest name) e

-- the index of a name is one of the list
pub slot_within : (subpatterns : List Subpattern) (name : List ℕ) (i : ℕ) → slot_in (map stored_of subpatterns) name ≡ Some i → i < length subpatterns
slot_within subpatterns name i e =
    let l = within (map stored_of subpatterns) name i e in
    let m = length-map subpatterns stored_of in
    omega (arith, l, m)

nowhere-one : (x : Stored) (at : Option Stored) (b : Bool) (r : Option ℕ) → (r ≡ None → at ≡ None) → (if b then Some 0 else option_map suc r) ≡ None → (if b then Some x else at) ≡ None
nowhere-one x at true r h e = cc
nowhere-one x at false None h e = h refl
nowhere-one x at false (Some j) h e = cc

-- a name without an index has no subpattern
pub stored_nowhere : (names : List Stored) (name : List ℕ) → slot_in names name ≡ None → stored_at names name ≡ None
stored_nowhere [] name e = refl
stored_nowhere (x ∷ rest) name e = nowhere-one x (stored_at rest name) (bytes_eq name x.name) (slot_in rest name) (stored_nowhere rest name) e

there-one : (x d : Stored) (rest : List Stored) (at : Option Stored) (i : ℕ) (b : Bool) (r : Option ℕ) → ((j : ℕ) → r ≡ Some j → at ≡ Some (get_or rest j d)) →
    (if b then Some 0 else option_map suc r) ≡ Some i → (if b then Some x else at) ≡ Some (get_or (x ∷ rest) i d)
there-one x d rest at i true r h e = let z : i ≡ 0 = cc in rw z refl
there-one x d rest at i false None h e = cc
there-one x d rest at i false (Some j) h e = let z : i ≡ suc j = cc in rw z (h j refl)

there : (names : List Stored) (name : List ℕ) (i : ℕ) (d : Stored) → slot_in names name ≡ Some i → stored_at names name ≡ Some (get_or names i d)
there [] name i d e = cc
there (x ∷ rest) name i d e = there-one x d rest (stored_at rest name) i (bytes_eq name x.name) (slot_in rest name) (λ j. there rest name j d) e

-- the subpattern of a name is the one at its index
pub stored_there : (subpatterns : List Subpattern) (name : List ℕ) (i : ℕ) (d : Subpattern) → slot_in (map stored_of subpatterns) name ≡ Some i →
    stored_at (map stored_of subpatterns) name ≡ Some (stored_of (get_or subpatterns i d))
stored_there subpatterns name i d e =
    there (map stored_of subpatterns) name i (stored_of d) e ∙ ap (λ (s : Stored). Some s) (get_or-map stored_of subpatterns i d (stored_of d) (slot_within subpatterns name i e))

-- ---- a subpattern that is put among others

end-one : (s x : Stored) (rest after : List Stored) (b : Bool) (r : Option ℕ) → (r ≡ None → after ≡ rest ++ s ∷ []) → (if b then Some 0 else option_map suc r) ≡ None →
    (if b then s ∷ rest else x ∷ after) ≡ x ∷ rest ++ s ∷ []
end-one s x rest after true r h e = cc
end-one s x rest after false None h e = ap (λ (xs : List Stored). x ∷ xs) (h refl)
end-one s x rest after false (Some j) h e = cc

-- one with a new name comes after all others
pub put_at_end : (s : Stored) (names : List Stored) → slot_in names s.name ≡ None → put_stored s names ≡ names ++ s ∷ []
put_at_end s [] e = refl
put_at_end s (x ∷ rest) e = end-one s x rest (put_stored s rest) (bytes_eq s.name x.name) (slot_in rest s.name) (put_at_end s rest) e

put-one : (s x : Stored) (rest after : List Stored) (i : ℕ) (b : Bool) (r : Option ℕ) → ((j : ℕ) → r ≡ Some j → after ≡ set rest j s) → (if b then Some 0 else option_map suc r) ≡ Some i →
    (if b then s ∷ rest else x ∷ after) ≡ set (x ∷ rest) i s
put-one s x rest after i true r h e = let z : i ≡ 0 = cc in rw z refl
put-one s x rest after i false None h e = cc
put-one s x rest after i false (Some j) h e = let z : i ≡ suc j = cc in rw z (ap (λ (xs : List Stored). x ∷ xs) (h j refl))

put : (s : Stored) (names : List Stored) (i : ℕ) → slot_in names s.name ≡ Some i → put_stored s names ≡ set names i s
put s [] i e = cc
put s (x ∷ rest) i e = put-one s x rest (put_stored s rest) i (bytes_eq s.name x.name) (slot_in rest s.name) (put s rest) e

-- one with a name that is there replaces the subpattern at its index
pub put_there : (s : Subpattern) (subpatterns : List Subpattern) (i : ℕ) → slot_in (map stored_of subpatterns) s.name.text.now ≡ Some i →
    map stored_of (set subpatterns i s) ≡ put_stored (stored_of s) (map stored_of subpatterns)
put_there s subpatterns i e = map-set stored_of subpatterns i s ∙ sym (put (stored_of s) (map stored_of subpatterns) i e)

kept-one : (s x : Stored) (rest : List Stored) (i : ℕ) (q : List ℕ) (b : Bool) (r : Option ℕ) → (b ≡ true → s.name ≡ x.name) →
    ((j : ℕ) → r ≡ Some j → slot_in (set rest j s) q ≡ slot_in rest q) → (if b then Some 0 else option_map suc r) ≡ Some i →
    slot_in (set (x ∷ rest) i s) q ≡ slot_in (x ∷ rest) q
kept-one s x rest i q true r same h e =
    let z : i ≡ 0 = cc in
    rw z (ap (λ (n : List ℕ). if bytes_eq q n then Some 0 else option_map suc (slot_in rest q)) (same refl))
kept-one s x rest i q false None same h e = cc
kept-one s x rest i q false (Some j) same h e =
    let z : i ≡ suc j = cc in
    rw z (ap (λ (o : Option ℕ). if bytes_eq q x.name then Some 0 else option_map suc o) (h j refl))

-- every name keeps its index then
pub slots_kept : (s : Stored) (names : List Stored) (i : ℕ) → slot_in names s.name ≡ Some i → (q : List ℕ) → slot_in (set names i s) q ≡ slot_in names q
slots_kept s [] i e q = cc
slots_kept s (x ∷ rest) i e q =
    kept-one s x rest i q (bytes_eq s.name x.name) (slot_in rest s.name) (bytes_eq-Decides s.name x.name).0 (λ j f. slots_kept s rest j f q) e

more-one : (n : ℕ) (b c : Bool) (r after : Option ℕ) → (c ≡ true → b ≡ false) → after ≡ cond c (Some n) r →
    (if b then Some 0 else option_map suc after) ≡ cond c (Some (suc n)) (if b then Some 0 else option_map suc r)
more-one n true true r after h e = let f : true ≡ false = h refl in cc
more-one n false true r after h e = ap (option_map suc) e
more-one n b false r after h e = ap (λ (o : Option ℕ). if b then Some 0 else option_map suc o) e

alone-one : (b c : Bool) → (b ≡ true → c ≡ true) → (c ≡ true → b ≡ true) → cond b (Some zero) None ≡ cond c (Some zero) None
alone-one true true h g = refl
alone-one true false h g = let f : false ≡ true = h refl in cc
alone-one false true h g = let f : false ≡ true = g refl in cc
alone-one false false h g = refl

-- after one is added at the end, its name has the last index, and every other name keeps its own
pub slots_more : (s : Stored) (names : List Stored) → slot_in names s.name ≡ None → (q : List ℕ) → slot_in (names ++ s ∷ []) q ≡ cond (bytes_eq s.name q) (Some (length names)) (slot_in names q)
slots_more s [] e q = alone-one (bytes_eq q s.name) (bytes_eq s.name q)
    (λ t. (bytes_eq-Decides s.name q).1 (sym ((bytes_eq-Decides q s.name).0 t))) (λ t. (bytes_eq-Decides q s.name).1 (sym ((bytes_eq-Decides s.name q).0 t)))
slots_more s (x ∷ rest) e q =
    let fresh = fresh-one (bytes_eq s.name x.name) (slot_in rest s.name) e in
    more-one (length rest) (bytes_eq q x.name) (bytes_eq s.name q) (slot_in rest q) (slot_in (rest ++ s ∷ []) q)
    (λ t. subst (λ (n : List ℕ). bytes_eq n x.name ≡ false) ((bytes_eq-Decides s.name q).0 t) fresh.0) (slots_more s rest fresh.1 q)

-- the indices are right after one is added at the end
pub found_more : (s : Subpattern) (subpatterns more : List Subpattern) (entries : List (Bor (List ℕ) × ℕ)) (last : ℕ) → last ≡ length subpatterns → FindSlots (map stored_of subpatterns) entries →
    slot_in (map stored_of subpatterns) s.name.text.now ≡ None → more ≡ subpatterns ++ s ∷ [] → (q : List ℕ) →
    cond (bytes_eq s.name.text.now q) (Some last) (lookup (λ (k : Bor (List ℕ)). bytes_eq q k.now) entries) ≡ slot_in (map stored_of more) q
found_more s subpatterns more entries last l found e m q =
    let there : last ≡ length (map stored_of subpatterns) = l ∙ sym (length-map subpatterns stored_of) in
    ap (λ (n : ℕ). cond (bytes_eq s.name.text.now q) (Some n) (lookup (λ (k : Bor (List ℕ)). bytes_eq q k.now) entries)) there
    ∙ ap (λ (o : Option ℕ). cond (bytes_eq s.name.text.now q) (Some (length (map stored_of subpatterns))) o) (found q) ∙ sym (slots_more (stored_of s) (map stored_of subpatterns) e q)
    ∙ sym (ap (λ (names : List Stored). slot_in names q) (ap (map stored_of) m ∙ map_push stored_of subpatterns s))

-- the indices are right after one replaces the subpattern of its name
pub found_there : (s : Subpattern) (subpatterns : List Subpattern) (i : ℕ) → slot_in (map stored_of subpatterns) s.name.text.now ≡ Some i → (q : List ℕ) →
    slot_in (map stored_of subpatterns) q ≡ slot_in (map stored_of (set subpatterns i s)) q
found_there s subpatterns i e q = sym (ap (λ (names : List Stored). slot_in names q) (map-set stored_of subpatterns i s) ∙ slots_kept (stored_of s) (map stored_of subpatterns) i e q)

-- a list after a call that cannot fail, as the choice by its result determines it
pub if_ok_is : {X E : Type 0} {Y : Type 0} (result : Result X E) (now more old : Y) → IsOk result → now ≡ (if is_ok result then more else old) → now ≡ more
if_ok_is (Ok x) now more old ok e = e
if_ok_is (Err x) now more old ok e = let f : false ≡ true = ok in cc

-- ---- faults of a second subpattern of a name

-- a former one of this name is there
pub put_twice : (name : Slice) (former : Subpattern) (found : Option Subpattern) (stored : Option Stored) → found ≡ Some former → option_map stored_of found ≡ stored →
    twice_faults name stored ≡ subpattern_twice name ∷ previous former.name.span ∷ []
put_twice name former found stored f e =
    let is : Some (stored_of former) ≡ stored = ap (option_map stored_of) (sym f) ∙ e in
    subst (λ (o : Option Stored). twice_faults name o ≡ subpattern_twice name ∷ previous former.name.span ∷ []) is refl

-- no former one is there
pub put_once : (name : Slice) (found : Option Subpattern) (stored : Option Stored) → found ≡ None → option_map stored_of found ≡ stored → twice_faults name stored ≡ []
put_once name found stored f e =
    let is : None ≡ stored = ap (option_map stored_of) (sym f) ∙ e in
    subst (λ (o : Option Stored). twice_faults name o ≡ []) is refl

-- ---- reading a pattern

pub read_tree : (unicode ignore_case : Bool) (text : List ℕ) (span : Span) (tree : Tree) (faults : List Fault) → Reads unicode ignore_case text (spelled tree) → IsRead unicode ignore_case text span (Some tree) faults faults
read_tree unicode ignore_case text span tree faults r = record { reading = spelled tree; reads = r; is_tree = refl; adds = sym (append-nil faults) }

pub read_error : (unicode ignore_case : Bool) (text : List ℕ) (span : Span) (error : PatternError) (old new : List Fault) → Refuses (first_flags unicode ignore_case) (chars text) error →
    (error ≡ errors.LimitPatternNesting → IsTooDeep (first_flags unicode ignore_case) (chars text)) → ReportsError error text span old new → IsRead unicode ignore_case (chars text) span None old new
read_error unicode ignore_case text span (errors.Syntax kind at) old new r d l = record {
  reading = broken kind l.0;
  reads = record { unspelled = r; bytes = text; spells = refl; known = l.1 };
  is_tree = refl;
  adds = l.2;
}
read_error unicode ignore_case text span errors.LimitPatternNesting old new r d l = record { reading = too_deep; reads = record { deeper = r; begins = d refl }; is_tree = refl; adds = l }
read_error unicode ignore_case text span errors.Memory old new r d l = absurd l

-- ---- faults after earlier ones

added_after : {utf8_mode : Bool} {sub : NamedLiteral} {before after : List Stored} {old new : List Fault} (ahead : List Fault) → IsAdded utf8_mode sub before after old new →
    IsAdded utf8_mode sub before after (ahead ++ old) (ahead ++ new)
added_after {utf8_mode = utf8_mode} {sub = sub} {before = before} {old = old} ahead h = record {
  reading = h.reading;
  reads = h.reads;
  reports = (h.reports.0, ap (λ (l : List Fault). ahead ++ l) h.reports.1 ∙ sym (append_assoc ahead old (subpattern_report utf8_mode h.reading sub before).faults));
}

all_after : {utf8_mode : Bool} {subs : List NamedLiteral} {before after : List Stored} {old new : List Fault} (ahead : List Fault) → AreAdded utf8_mode subs before after old new →
    AreAdded utf8_mode subs before after (ahead ++ old) (ahead ++ new)
all_after ahead ended = ended
all_after ahead (further first rest) = further (added_after ahead first) (all_after ahead rest)

-- faults that are found alone, and then added after earlier ones
pub added_alone : {utf8_mode : Bool} {subs : List NamedLiteral} {before after : List Stored} (ahead none found all : List Fault) → none ≡ [] → AreAdded utf8_mode subs before after none found →
    all ≡ ahead ++ found → AreAdded utf8_mode subs before after ahead all
added_alone {utf8_mode = utf8_mode} {subs = subs} {before = before} {after = after} ahead none found all n added e =
    subst (λ (l : List Fault). AreAdded utf8_mode subs before after ahead l) (sym e)
    (subst (λ (l : List Fault). AreAdded utf8_mode subs before after l (ahead ++ found)) (ap (λ (l : List Fault). ahead ++ l) n ∙ append-nil ahead) (all_after ahead added))
