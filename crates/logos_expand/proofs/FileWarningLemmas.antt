-- The warnings for the enums of a file, one enum after another.
use Rattle.std.proofs.Common.{◌≡◌, ◌≤◌, ◌<◌, ◌+◌, ℕ, Bool, true, false, IsTrue, All, List, [], ◌∷◌, ◌++◌, Option, append_assoc, map, length, get_or, drop, refl, sym, ap, ◌∙◌, subst}
use Rattle.std.proofs.lemmas.List.{append-nil}
use Rattle.std.proofs.Math.ListN.{drop_of_length-le}
use Rattle.logos_code.specs.Code.{CodeValue}
use Rattle.logos_codegen.specs.Given.{IsGiven}
use Rattle.logos_enum.specs.Values.{Slice}
use Rattle.logos_expand.specs.Expanding.{text_at}
use Rattle.logos_expand.specs.FileWarnings.{AddsOfEnums, AreFileWarnings, AreOfAccepted, AreOfEnums, AreOfGraph}
use Rattle.logos_expand.specs.FileWarnings.AreOfEnums.{no_enum, of_lexer, of_other, of_refused}
use Rattle.logos_expand.specs.declared.expansion.Gathered.{Gathered}
use Rattle.logos_expand.specs.inside.Steps.{AddsRefusal, AddsSome, WarnsOne}
use Rattle.logos_expand.proofs.GatherLemmas.{faults_hold, next_left}
use Rattle.logos_file_warnings.specs.Added.{AddsMissing, AddsMoved, moved, reports_missing}
use Rattle.logos_graph.specs.View.{GraphValue}
use Rattle.logos_host.specs.declared.message_format.MessageFormat.{MessageFormat}
use Rattle.logos_host.specs.declared.message_format.MessageFormat.TheVariants.{Human, Json}
use Rattle.logos_report.specs.declared.clues.Clues.{Clues}
use Rattle.logos_report.specs.declared.file_report.Refused.{Refused}
use Rattle.logos_report.specs.declared.warnings.Warning.{Warning}
use Rattle.logos_rust_file.specs.Files.{AreEnumsOf}
use Rattle.logos_rust_file.specs.Handed.{Refusal, Refuses}
use Rattle.logos_rust_file.specs.Handed as refusals
use Rattle.logos_rust_file.specs.declared.finder.FoundEnum.{FoundEnum}
use Rattle.logos_tables.specs.Shapes.{config_of}
use Rattle.logos_tables.specs.declared.shape.Shape.{Shape}
use Rattle.logos_token.specs.Faults.{Fault}
use Rattle.logos_warnings.specs.Shown.{AreOfText, IsPassedOver}
use Rattle.logos_warnings.specs.declared.origin.Origin.TheVariants.{File}

-- ---- the enums of a file, one after another

-- the enums up to an index were gathered: with the warnings for the others, these are the warnings
-- for all
pub record WarnedSoFar (shape : Shape) (text : List ℕ) (found left : List FoundEnum) (refused : List Refused) (old new : List Warning) : Type 0 where
  pub own : List Warning
  pub is : new ≡ old ++ own
  pub completes : (worse : List Refused) (more : List Warning) → AreOfEnums shape text left worse more → AreOfEnums shape text found (refused ++ worse) (own ++ more)

pub warned_begun : (shape : Shape) (text : List ℕ) (found : List FoundEnum) (refused : List Refused) (warned : List Warning) → refused ≡ [] → WarnedSoFar shape text found found refused warned warned
warned_begun shape text found refused warned r = record { own = []; is = sym (append-nil warned); completes = λ worse more are. rw r are }

pub warned_further : (shape : Shape) (text : List ℕ) (found : List FoundEnum) (i : ℕ) (d : FoundEnum) (old new : Gathered) (first warned after : List Warning) → i < length found →
    WarnedSoFar shape text found (drop i found) old.refused.items first warned → WarnsOne shape text (get_or found i d) old new warned after → WarnedSoFar shape text found (drop (i + 1) found) new.refused.items first after
warned_further shape text found i d old new first warned after l s w = record {
  own = s.own ++ w.own;
  is = w.is ∙ ap (λ x. x ++ w.own) s.is ∙ append_assoc first s.own w.own;
  completes = λ worse more are.
      subst (λ bad. AreOfEnums shape text found bad ((s.own ++ w.own) ++ more)) (sym (ap (λ x. x ++ worse) w.refused_are ∙ append_assoc old.refused.items w.refused worse))
      (subst (AreOfEnums shape text found (old.refused.items ++ (w.refused ++ worse))) (sym (append_assoc s.own w.own more))
      (s.completes (w.refused ++ worse) (w.own ++ more)
      (subst (λ left. AreOfEnums shape text left (w.refused ++ worse) (w.own ++ more)) (sym (next_left found i d l)) (w.completes (drop (i + 1) found) worse more are))));
}

pub warned_ended : (shape : Shape) (text : List ℕ) (found : List FoundEnum) (i : ℕ) (refused : List Refused) (first after : List Warning) → length found ≤ i → WarnedSoFar shape text found (drop i found) refused first after →
    AddsOfEnums shape text found refused first after
warned_ended shape text found i refused first after l s = record {
  own = s.own;
  are = subst (λ bad. AreOfEnums shape text found bad s.own) (append-nil refused)
      (subst (AreOfEnums shape text found (refused ++ [])) (append-nil s.own) (s.completes [] [] (subst (λ left. AreOfEnums shape text left [] []) (sym (drop_of_length-le found l)) no_enum)));
  is = s.is;
}

-- ---- one enum

pub other_warned : (shape : Shape) (text : List ℕ) (one : FoundEnum) (gathered : Gathered) (warned after : List Warning) (source : List ℕ) → source ≡ text_at text one → one.derives ≡ false →
    AddsMoved one.span.from (AreOfText source false File) warned after → WarnsOne shape text one gathered gathered warned after
other_warned shape text one gathered warned after source k e a = record {
  refused = [];
  own = map (moved one.span.from) a.own;
  refused_are = sym (append-nil gathered.refused.items);
  is = a.is;
  completes = λ rest worse more are. of_other e (subst (λ (bytes : List ℕ). AreOfText bytes false File a.own) k a.are) are;
}

pub lexer_warned : (shape : Shape) (text : List ℕ) (one : FoundEnum) (old new : Gathered) (warned after : List Warning) (source : List ℕ) → source ≡ text_at text one → one.derives ≡ true →
    AddsMoved one.span.from (AreOfAccepted shape source) warned after → new.refused.items ≡ old.refused.items → WarnsOne shape text one old new warned after
lexer_warned shape text one old new warned after source k e a r = record {
  refused = [];
  own = map (moved one.span.from) a.own;
  refused_are = r ∙ sym (append-nil old.refused.items);
  is = a.is;
  completes = λ rest worse more are. of_lexer e (subst (λ (bytes : List ℕ). AreOfAccepted shape bytes a.own) k a.are) are;
}

pub refused_warned : (shape : Shape) (text : List ℕ) (one : FoundEnum) (refusal : Refusal) (clues : Clues) (old new : Gathered) (warned between after : List Warning) → one.derives ≡ true → Refuses (λ faults. between ≡ warned) refusal →
    AddsSome between after → AddsRefusal one.span.from refusal clues old.refused.items new.refused.items → WarnsOne shape text one old new warned after
refused_warned shape text one refusal clues old new warned between after e h s a =
    let same : between ≡ warned = faults_hold (λ (faults : List Fault). between ≡ warned) refusal a.bad.errors h a.faults in
    record {
      refused = a.bad ∷ [];
      own = s.0;
      refused_are = a.are;
      is = s.1 ∙ ap (λ x. x ++ s.0) same;
      completes = λ rest worse more are. of_refused s.0 e are;
    }

-- a fact that names no fault holds of a refusal
pub refuses_any : {P : Type 0} (refusal : Refusal) → P → Refuses (λ faults. P) refusal
refuses_any (refusals.Errors errors) p = p
refuses_any refusals.Memory p = tt

-- the warnings about an enum and its lexer, which has no faults
pub accepted_warned : (shape : Shape) (source : List ℕ) (offset : ℕ) (graph : GraphValue) (code : CodeValue) (name : Slice) (export : Option (List ℕ)) (old new : List Warning) → IsGiven source (config_of shape) graph code name export →
    AddsMoved offset (AreOfGraph source graph) old new → AddsMoved offset (AreOfAccepted shape source) old new
accepted_warned shape source offset graph code name export old new g a = record {
  own = a.own;
  are = record { graph = graph; code = code; name = name; export = export; given = g; of_graph = a.are };
  is = a.is;
}

-- ---- all warnings

pub file_warned : (shape : Shape) (text : List ℕ) (found : List FoundEnum) (is_requested : Bool) (refused : List Refused) (first one other all : List Warning) → first ≡ [] → AreEnumsOf text found → refused ≡ [] →
    AddsOfEnums shape text found refused first one → AddsMoved 0 (All IsPassedOver) one other → AddsMissing is_requested found other all → AreFileWarnings shape is_requested text all
file_warned shape text found is_requested refused first one other all e enums none g p m = record {
  found = found;
  enums = enums;
  own = g.own;
  of_enums = subst (λ bad. AreOfEnums shape text found bad g.own) none g.are;
  passed = p.own;
  are_passed = p.are;
  missing = m.added;
  are_missing = m.are;
  are = m.is ∙ ap (λ x. x ++ m.added) (p.is ∙ ap (λ x. x ++ map (moved 0) p.own) (g.is ∙ ap (λ x. x ++ g.own) e)) ∙ append_assoc g.own (map (moved 0) p.own) m.added;
}

-- denied warnings include that no enum derives `Logos`
pub requested : (denies : Bool) (format : MessageFormat) → IsTrue denies → reports_missing denies format ≡ true
requested denies Human t = t
requested denies Json t = refl
