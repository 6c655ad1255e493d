-- The results for the enums of a file, one after another.
use Rattle.std.proofs.Common.{◌≡◌, ◌==◌, ◌≤◌, ◌<◌, ◌+◌, ℕ, suc, Bool, List, [], ◌∷◌, ◌++◌, append_assoc, true, false, IfOk, OnOk, Option, Result, Ok, Err, map, min, length, get_or, drop, string_bytes, refl, sym, ap, ◌∙◌, arith, eqb-true, subst}
use Rattle.std.proofs.lemmas.List.{append-nil}
use Rattle.std.proofs.Math.Seq.{drop-cons}
use Rattle.std.proofs.Math.ListN.{drop_of_length-le}
use Rattle.logos_codegen.specs.Imports.{Rule}
use Rattle.logos_code.specs.Code.{CodeValue}
use Rattle.logos_tables.specs.declared.shape.Shape.{Shape}
use Rattle.logos_codegen.specs.Around.{IsAroundOf}
use Rattle.logos_codegen.specs.Given.{IsGiven}
use Rattle.logos_codegen.specs.Source.{IsAccepted, IsRefused, IsWithinSizes}
use Rattle.logos_expand.specs.declared.expansion.Gathered.{Gathered}
use Rattle.logos_causes.specs.Sets.{HasSets}
use Rattle.logos_report.specs.Sets.{sizes_of}
use Rattle.logos_report.specs.declared.clues.Clues.{Clues}
use Rattle.logos_report.specs.declared.file_report.Refused.{Refused}
use Rattle.logos_expand.specs.Expanding.{IsExpansion, IsExpanded, IsFileOf, IsUnreadable, Replaces, text_at}
use Rattle.logos_tables.specs.Shapes.{config_of}
use Rattle.logos_text.specs.Fronts.{AroundValue}
use Rattle.logos_expand.specs.Expanding.Replaces.{ended as r_ended, stays as r_stays, yields as r_yields}
use Rattle.logos_expand.specs.Heads.{headed}
use Rattle.logos_layout.specs.Inner.{IsWithoutInner}
use Rattle.logos_expand.specs.inside.Steps.{AddsRefusal, AreFaultsOf, GathersOne, IsExpansionBy}
use Rattle.logos_expand.specs.Gathering.{AreRefused, Gathers, GathersAll, errors_in, errors_of}
use Rattle.logos_expand.specs.Gathering.AreRefused.{whole, lexers}
use Rattle.logos_expand.specs.Gathering.Gathers.{ended as g_ended, stays as g_stays, yields as g_yields, refuses as g_refuses}
use Rattle.logos_rust_file.specs.declared.finder.FoundEnum.{FoundEnum}
use Rattle.logos_rust_file.specs.declared.replacement.Replacement.{Replacement}
use Rattle.logos_rust_file.specs.Files.{AreEnumsOf}
use Rattle.logos_rust_file.specs.Replacing.{AreInOrder, found_span, part_span, replaced}
use Rattle.logos_graph.specs.View.{GraphValue}
use Rattle.logos_enum.specs.Values.{Slice}
use Rattle.logos_lexeme.specs.declared.lexeme.Span.{Span}
use Rattle.logos_rust_file.specs.Handed.{Refusal}
use Rattle.logos_rust_file.specs.Handed as refusals
use Rattle.logos_rust_file.specs.Handed.{Refuses}
use Rattle.logos_strip.specs.Results.{SpellsEnum}
use Rattle.logos_token.specs.Faults.{Fault}

-- ---- the enums of a file, one after another

-- the enums up to an index were gathered: with the results for the others, these are the results
-- for all
pub record SoFar (shape : Shape) (text : List ℕ) (found left : List FoundEnum) (gathered : Gathered) : Type 0 where
  pub from : ℕ
  pub order : AreInOrder from (map found_span left) (length text)
  pub completes : (more : List Replacement) (worse : List Refused) → Gathers shape text left more worse → Gathers shape text found (gathered.parts.items ++ more) (gathered.refused.items ++ worse)

pub begun : (shape : Shape) (text : List ℕ) (found : List FoundEnum) (gathered : Gathered) → gathered.parts.items ≡ [] → gathered.refused.items ≡ [] → AreInOrder 0 (map found_span found) (length text) →
    SoFar shape text found found gathered
begun shape text found gathered p r o = record { from = 0; order = o; completes = λ more worse g. rw (p, r) g }

pub further : (shape : Shape) (text : List ℕ) (found : List FoundEnum) (one : FoundEnum) (left : List FoundEnum) (old new : Gathered) → SoFar shape text found (one ∷ left) old → GathersOne shape text one old new →
    SoFar shape text found left new
further shape text found one left old new s g = record {
  from = one.span.to;
  order = s.order.2;
  completes = λ more worse h.
      subst (λ ps. Gathers shape text found ps (new.refused.items ++ worse)) (sym (ap (λ x. x ++ more) g.parts_are ∙ append_assoc old.parts.items g.parts more))
      (subst (λ rs. Gathers shape text found (old.parts.items ++ (g.parts ++ more)) rs) (sym (ap (λ x. x ++ worse) g.refused_are ∙ append_assoc old.refused.items g.refused worse))
      (s.completes (g.parts ++ more) (g.refused ++ worse) (g.completes left more worse h)));
}

pub ended : (shape : Shape) (text : List ℕ) (found : List FoundEnum) (gathered : Gathered) → SoFar shape text found [] gathered → GathersAll shape text found gathered
ended shape text found gathered s =
    subst (λ ps. Gathers shape text found ps gathered.refused.items) (append-nil gathered.parts.items)
    (subst (λ rs. Gathers shape text found (gathered.parts.items ++ []) rs) (append-nil gathered.refused.items) (s.completes [] [] g_ended))

-- the same by the number of the next enum
pub next_left : (found : List FoundEnum) (i : ℕ) (d : FoundEnum) → i < length found → drop i found ≡ get_or found i d ∷ drop (i + 1) found
next_left found i d l =
    let k : suc i ≡ i + 1 = omega arith in
    drop-cons found i d l ∙ ap (λ n. get_or found i d ∷ drop n found) k

pub further_at : (shape : Shape) (text : List ℕ) (found : List FoundEnum) (i : ℕ) (d : FoundEnum) (old new : Gathered) → i < length found → SoFar shape text found (drop i found) old →
    GathersOne shape text (get_or found i d) old new → SoFar shape text found (drop (i + 1) found) new
further_at shape text found i d old new l s g = further shape text found (get_or found i d) (drop (i + 1) found) old new (subst (λ left. SoFar shape text found left old) (next_left found i d l) s) g

pub ended_at : (shape : Shape) (text : List ℕ) (found : List FoundEnum) (i : ℕ) (gathered : Gathered) → length found ≤ i → SoFar shape text found (drop i found) gathered → GathersAll shape text found gathered
ended_at shape text found i gathered l s = ended shape text found gathered (subst (λ left. SoFar shape text found left gathered) (drop_of_length-le found l) s)

-- the next enum is not empty
pub ordered_at : (shape : Shape) (text : List ℕ) (found : List FoundEnum) (i : ℕ) (d : FoundEnum) (gathered : Gathered) → i < length found → SoFar shape text found (drop i found) gathered →
    (get_or found i d).span.from ≤ (get_or found i d).span.to
ordered_at shape text found i d gathered l s =
    let o = subst (λ left. SoFar shape text found left gathered) (next_left found i d l) s in
    omega (arith, o.order.1)

-- ---- one enum

pub stays_one : (shape : Shape) (text : List ℕ) (one : FoundEnum) (gathered : Gathered) → one.derives ≡ false → GathersOne shape text one gathered gathered
stays_one shape text one gathered e = record {
  parts = [];
  refused = [];
  parts_are = sym (append-nil gathered.parts.items);
  refused_are = sym (append-nil gathered.refused.items);
  completes = λ rest more worse g. g_stays e g;
}

pub yields_one : (shape : Shape) (text : List ℕ) (one : FoundEnum) (part : Replacement) (old new : Gathered) (source : List ℕ) → source ≡ text_at text one → one.derives ≡ true → part.span ≡ one.span →
    IsExpansion shape source (string_bytes part.text) → new.parts.items ≡ old.parts.items ++ part ∷ [] → new.refused.items ≡ old.refused.items → GathersOne shape text one old new
yields_one shape text one part old new source k e s x p r = record {
  parts = part ∷ [];
  refused = [];
  parts_are = p;
  refused_are = r ∙ sym (append-nil old.refused.items);
  completes = λ rest more worse g. g_yields e s (subst (λ bytes. IsExpansion shape bytes (string_bytes part.text)) k x) g;
}

-- a refusal has faults of which this holds
pub faults_hold : (Hold : List Fault → Type 0) (refusal : Refusal) (faults : List Fault) → Refuses Hold refusal → AreFaultsOf refusal faults → Hold faults
faults_hold Hold (refusals.Errors errors) faults h a = subst Hold (sym a) h
faults_hold Hold refusals.Memory faults h a = absurd a

pub refuses_one : (shape : Shape) (text : List ℕ) (one : FoundEnum) (refusal : Refusal) (clues : Clues) (old new : Gathered) (source : List ℕ) → source ≡ text_at text one → one.derives ≡ true → Refuses (IsRefused source) refusal →
    HasSets source (sizes_of clues) → AddsRefusal one.span.from refusal clues old.refused.items new.refused.items → new.parts.items ≡ old.parts.items → GathersOne shape text one old new
refuses_one shape text one refusal clues old new source k e h s a p = record {
  parts = [];
  refused = a.bad ∷ [];
  parts_are = p ∙ sym (append-nil old.parts.items);
  refused_are = a.are;
  completes = λ rest more worse g. g_refuses e a.is_offset (subst (λ bytes. IsRefused bytes a.bad.errors) k (faults_hold (IsRefused source) refusal a.bad.errors h a.faults))
      (subst (λ bytes. HasSets bytes (sizes_of a.bad.clues)) k (subst (HasSets source) (sym a.known) s)) g;
}

-- ---- all enums

replaces_all : (shape : Shape) (text : List ℕ) (found : List FoundEnum) (parts : List Replacement) (refused : List Refused) → Gathers shape text found parts refused → refused ≡ [] → Replaces shape text found parts
replaces_all shape text _ _ _ g_ended e = r_ended
replaces_all shape text _ _ _ (g_stays d g) e = r_stays d (replaces_all shape text _ _ _ g e)
replaces_all shape text _ _ _ (g_yields d s x g) e = r_yields d s x (replaces_all shape text _ _ _ g e)
replaces_all shape text _ _ _ (g_refuses d s x k g) e = absurd cc

-- the result of a file without faults
pub expanded_all : (shape : Shape) (path text bytes : List ℕ) (found : List FoundEnum) (gathered : Gathered) → AreEnumsOf text found → GathersAll shape text found gathered → gathered.refused.items ≡ [] →
    IsFileOf shape path text gathered.parts.items bytes → IsExpanded shape path text bytes
expanded_all shape path text bytes found gathered a g e b = record {
  found = found;
  parts = gathered.parts.items;
  are = a;
  replaces = replaces_all shape text found gathered.parts.items gathered.refused.items g e;
  is = b;
}

-- a file as it was made, by whether there are parts
pub bare_file : (shape : Shape) (path text : List ℕ) (parts : List Replacement) (bytes : List ℕ) (empty : Bool) → empty ≡ (length parts == 0) → empty ≡ true → bytes ≡ replaced text 0 parts → IsFileOf shape path text parts bytes
bare_file shape path text [] bytes empty e t r = r
bare_file shape path text (part ∷ parts) bytes empty e t r = absurd (let z : length (part ∷ parts) ≡ 0 = eqb-true _ _ (sym e ∙ t) in omega (arith, z))

pub headed_file : (shape : Shape) (path text : List ℕ) (parts : List Replacement) (body bytes : List ℕ) (empty : Bool) → empty ≡ (length parts == 0) → empty ≡ false → IsWithoutInner (replaced text 0 parts) body → bytes ≡ headed shape path body →
    IsFileOf shape path text parts bytes
headed_file shape path text [] body bytes empty e f w h = absurd (let z : empty ≡ true = e in cc)
headed_file shape path text (part ∷ parts) body bytes empty e f w h = record { body = body; is_body = w; is = h }

pub headed_all : {A E : Type 0} (f : A → List ℕ) (result : Result A E) (shape : Shape) (path text : List ℕ) (parts : List Replacement) (made_of body : List ℕ) (empty : Bool) → empty ≡ (length parts == 0) → empty ≡ false →
    made_of ≡ replaced text 0 parts → IsWithoutInner made_of body → IfOk result (λ made. f made ≡ headed shape path body) → IfOk result (λ made. IsFileOf shape path text parts (f made))
headed_all f (Ok made) shape path text parts made_of body empty e n w i h = headed_file shape path text parts body (f made) empty e n (subst (λ (bytes : List ℕ). IsWithoutInner bytes body) w i) h
headed_all f (Err error) shape path text parts made_of body empty e n w i h = tt

-- the refusals of a file, of which there are some
pub lexers_refused : (shape : Shape) (text : List ℕ) (found : List FoundEnum) (gathered : Gathered) → AreEnumsOf text found → GathersAll shape text found gathered → 0 < length gathered.refused.items →
    AreRefused shape text gathered.refused.items
lexers_refused shape text found gathered a g l = lexers a g (λ e. absurd (let n : 0 < length {A = Refused} [] = subst (λ r. 0 < length r) e l in omega (arith, n)))

-- ---- the parts are in order

earlier : (from location : ℕ) (spans : List Span) (to : ℕ) → from ≤ location → AreInOrder location spans to → AreInOrder from spans to
earlier from location [] to l s = omega (arith, l, s)
earlier from location (span ∷ rest) to l s = (omega (arith, l, s.0), s.1, s.2)

order_parts : (shape : Shape) (text : List ℕ) (found : List FoundEnum) (parts : List Replacement) (refused : List Refused) (from to : ℕ) → Gathers shape text found parts refused → AreInOrder from (map found_span found) to →
    AreInOrder from (map part_span parts) to
order_parts shape text _ _ _ from to g_ended o = o
order_parts shape text _ _ _ from to (g_stays {one} {rest} {parts} {refused} d g) o =
    earlier from one.span.to (map part_span parts) to (omega (arith, o.0, o.1)) (order_parts shape text rest parts refused one.span.to to g o.2)
order_parts shape text _ _ _ from to (g_yields {one} {part} {rest} {parts} {refused} d s x g) o =
    rw s (o.0, o.1, order_parts shape text rest parts refused one.span.to to g o.2)
order_parts shape text _ _ _ from to (g_refuses {one} {bad} {rest} {parts} {refused} d s x k g) o =
    earlier from one.span.to (map part_span parts) to (omega (arith, o.0, o.1)) (order_parts shape text rest parts refused one.span.to to g o.2)

pub ordered_parts : (shape : Shape) (text : List ℕ) (found : List FoundEnum) (gathered : Gathered) → GathersAll shape text found gathered → AreInOrder 0 (map found_span found) (length text) →
    AreInOrder 0 (map part_span gathered.parts.items) (length text)
ordered_parts shape text found gathered g o = order_parts shape text found gathered.parts.items gathered.refused.items 0 (length text) g o

-- ---- the expansion of an enum

pub expansion_made : (shape : Shape) (around : AroundValue) (source shown : List ℕ) (graph : GraphValue) (code : CodeValue) (name : Slice) (export : Option (List ℕ)) → IsGiven source (config_of shape) graph code name export → IsAroundOf source graph around → IsExpansionBy shape around code source shown → IsExpansion shape source shown
expansion_made shape around source shown graph code name export g o b = record {
  left = b.left;
  written = b.prints.written;
  by_name = b.prints.by_name;
  lexer = b.prints.lexer;
  laid = b.prints.laid;
  stripped = b.stripped;
  is_written = b.prints.is_written;
  is_lexer = record { around = around; code = code; lexer = record { graph = graph; name = name; export = export; given = g; is_around = o }; occur = b.prints.occur };
  is_laid_out = b.prints.is_laid_out;
  is = b.prints.is;
}

-- a source without faults spells an enum
pub spells_enum : (source : List ℕ) (rules : List Rule) (utf8 : Bool) → IsAccepted source rules utf8 → IsWithinSizes source rules → SpellsEnum source
spells_enum source rules utf8 a within = record {
  tokens = a.reads_as.tokens;
  enum = a.enum;
  spelled = a.reads_as.spelled;
  reads = a.reads_as.reads;
  short = within.short;
  shallow = within.shallow a.reads_as.tokens a.reads_as.spelled;
}

-- ---- refusals

pub whole_refused : (shape : Shape) (text : List ℕ) (refusal : Refusal) (clues : Clues) (old new : List Refused) → old ≡ [] → Refuses (IsUnreadable text) refusal → AddsRefusal 0 refusal clues old new → AreRefused shape text new
whole_refused shape text refusal clues old new e h a = whole (a.are ∙ ap (λ r. r ++ a.bad ∷ []) e) a.is_offset (faults_hold (IsUnreadable text) refusal a.bad.errors h a.faults)

-- a property that holds after success implies another one
pub ok_then : {A E One Other : Type 0} (result : Result A E) → (One → Other) → OnOk result One → OnOk result Other
ok_then (Ok done) f h = f h
ok_then (Err error) f h = tt

-- an enum with faults was gathered, where there was memory for them

-- a property is preserved whether a call fails or not
pub holds_then : {A E P : Type 0} (result : Result A E) → P → OnOk result P
holds_then (Ok done) p = p
holds_then (Err error) p = tt

pub refuses_then : {A E : Type 0} (result : Result A E) (shape : Shape) (text : List ℕ) (one : FoundEnum) (refusal : Refusal) (clues : Clues) (old new : Gathered) (source : List ℕ) → Refuses (IsRefused source) refusal → HasSets source (sizes_of clues) →
    OnOk result (AddsRefusal one.span.from refusal clues old.refused.items new.refused.items) → new.parts.items ≡ old.parts.items → source ≡ text_at text one → one.derives ≡ true → OnOk result (GathersOne shape text one old new)
refuses_then result shape text one refusal clues old new source h s a p k e = ok_then result (λ b. refuses_one shape text one refusal clues old new source k e h s b p) a

-- a property of a result implies another one
pub wraps : {A E : Type 0} {One Other : A → Type 0} (result : Result A E) → ((a : A) → One a → Other a) → IfOk result One → IfOk result Other
wraps (Ok done) f h = f done h
wraps (Err error) f h = tt

-- a list is not empty, by its length
pub some_left : {A : Type 0} {n : ℕ} (items : List A) → n ≡ length items → (n == 0) ≡ false → 0 < length items
some_left {n = n} [] e h = absurd (let z : (n == 0) ≡ true = rw e refl in cc)
some_left (item ∷ items) e h = omega arith

-- ---- the number of errors

errors_left : (parts : List Refused) (i : ℕ) (d : Refused) → i < length parts → errors_in (drop i parts) ≡ errors_of (get_or parts i d) + errors_in (drop (i + 1) parts)
errors_left parts i d l =
    let k : suc i ≡ i + 1 = omega arith in
    ap errors_in (drop-cons parts i d l ∙ ap (λ n. get_or parts i d ∷ drop n parts) k)

-- with one part more, the errors of those that are left complete all
pub one_more : (parts : List Refused) (i : ℕ) (d : Refused) (count new errors most : ℕ) → i < length parts → errors ≡ errors_of (get_or parts i d) → new ≡ min (count + errors) most →
    min (count + errors_in (drop i parts)) most ≡ min (errors_in parts) most → min (new + errors_in (drop (i + 1) parts)) most ≡ min (errors_in parts) most
one_more parts i d count new errors most l e n h =
    let left = errors_left parts i d l in
    omega (arith, left, e, n, h)

-- none is left
pub all_counted : (parts : List Refused) (i count most : ℕ) → length parts ≤ i → count ≤ most → min (count + errors_in (drop i parts)) most ≡ min (errors_in parts) most → count ≡ min (errors_in parts) most
all_counted parts i count most l few h =
    let left : errors_in (drop i parts) ≡ 0 = ap errors_in (drop_of_length-le parts l) in
    omega (arith, left, few, h)
