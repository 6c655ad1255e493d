-- The lexers of files, and the answers about them.
use Rattle.std.proofs.Common.{◌≡◌, ℕ, Bool, List, [], Option, Some, Result, Ok, Err, IfOk, OnOk, Fits, w8, get_or, refl, subst}
use Rattle.std.proofs.Math.Facts.{Fits-lt-pow}
use Rattle.std.proofs.lemmas.Grind.{get_or_default_zero}
use Rattle.logos_automaton.specs.Faults.{AllStart}
use Rattle.logos_code.specs.Code.{CodeValue}
use Rattle.logos_codegen.specs.Given.{IsGiven}
use Rattle.logos_codegen.specs.Source.{IsAccepted}
use Rattle.logos_enum.specs.Values.{Slice}
use Rattle.logos_graph.specs.GraphOf.{IsGraphOf}
use Rattle.logos_graph.specs.View.{GraphValue, rules_of}
use Rattle.logos_hir.specs.Text.{IsBytes}
use Rattle.logos_host.specs.Reading.{Reads}
use Rattle.logos_lines.specs.declared.location.Location.{Location}
use Rattle.logos_report.specs.Locations.{SourceValue}
use Rattle.logos_rust_file.specs.declared.finder.FoundEnum.{FoundEnum}
use Rattle.logos_answers.proofs.ExampleLemmas.{all_start}
use Rattle.logos_replies.specs.Answers.{PrintsAgreement}
use Rattle.logos_show.specs.Choices.{IsLexerOf}
use Rattle.logos_show.specs.Parts.{IsPartAt}
use Rattle.logos_show.specs.Runs.{Answers, AnswersAbout, ComparesFiles, ComparesTo, Expects, IsLexerIn, PrintsInputsAs, PrintsMatchesAs, ShowsInputsOf, ShowsMatchesOf, is_json, name_in, shape}
use Rattle.logos_replies.specs.Verdicts.{PrintsVerdict}
use Rattle.logos_replies.specs.declared.replies.Agreement.{Agreement}
use Rattle.logos_questions.specs.Orders.{OrderValue}

-- the elements of a slice of bytes are bytes
pub are_bytes : (bytes : List ℕ) → ((i : ℕ) → Fits w8 (get_or bytes i 0)) → IsBytes bytes
are_bytes bytes h = λ k d l. rw (get_or_default_zero bytes k d l) (Fits-lt-pow (h k))

-- a lexer that was made of a requested enum
abbrev pub lexer_made : {text : List ℕ} {name : Option (List ℕ)} {one : FoundEnum} {source : List ℕ} {graph : GraphValue} {code : CodeValue} {ident : Slice} {export : Option (List ℕ)} → IsLexerOf text name one → IsPartAt text one.span source →
    IsAccepted source (rules_of graph.leaves) graph.utf8 → IsGiven source shape graph code ident export → IsLexerIn text name graph
lexer_made {text} {name} {one} {source} {graph} {code} {ident} {export} chosen part accepted given = record {
  one = one;
  chosen = chosen;
  source = source;
  part = part;
  accepted = accepted;
  code = code;
  ident = ident;
  export = export;
  given = given;
}

module _ (order : OrderValue) (old new : Option (List ℕ)) {T E : Type 0} (agreement : T → Agreement) where
  -- a lexer, compared with that of a file
  pub compared_to : (first : GraphValue) (path : List ℕ) (other : SourceValue) (second : GraphValue) → IsLexerIn other.text (name_in order) second →
      (named : GraphValue) → named ≡ second → (named_path : List ℕ) → named_path ≡ other.path → (json : Bool) → json ≡ is_json order → (result : Result T E) →
      IfOk result (λ x. IsGraphOf first.leaves first.utf8 first → IsGraphOf named.leaves named.utf8 named → first.faults ≡ [] → named.faults ≡ [] → PrintsVerdict first named path named_path json (agreement x) old new) →
      IfOk result (λ x. IsGraphOf first.leaves first.utf8 first → first.faults ≡ [] → ComparesTo order first path other (agreement x) old new)
  compared_to first path other second l named same named_path at json is (Ok x) h = λ of_leaves faultless.
      let here = subst (λ graph. IsGraphOf graph.leaves graph.utf8 graph → first.faults ≡ [] → graph.faults ≡ [] → PrintsVerdict first graph path named_path json (agreement x) old new) same (h of_leaves) in
      let verdict = here l.given.of_source.of_leaves faultless l.given.of_source.faultless in
      let there = subst (λ p. PrintsVerdict first second path p json (agreement x) old new) at verdict in
      record { second = second; of_second = l; verdict = subst (λ j. PrintsVerdict first second path other.path j (agreement x) old new) is there }
  compared_to first path other second l named same named_path at json is (Err e) h = tt

  -- the lexers of two files
  pub compared_files : (file other : SourceValue) (first : GraphValue) → IsLexerIn file.text (name_in order) first →
      (named : GraphValue) → named ≡ first → (path : List ℕ) → path ≡ file.path → (result : Result T E) →
      IfOk result (λ x. IsGraphOf named.leaves named.utf8 named → named.faults ≡ [] → ComparesTo order named path other (agreement x) old new) →
      IfOk result (λ x. ComparesFiles order file other (agreement x) old new)
  compared_files file other first l named same path at (Ok x) h =
      let here = subst (λ graph. IsGraphOf graph.leaves graph.utf8 graph → graph.faults ≡ [] → ComparesTo order graph path other (agreement x) old new) same h in
      let there = here l.given.of_source.of_leaves l.given.of_source.faultless in
      record { first = first; of_first = l; compared = subst (λ p. ComparesTo order first p other (agreement x) old new) at there }
  compared_files file other first l named same path at (Err e) h = tt

module _ (order : OrderValue) (text : List ℕ) (graph : GraphValue) (l : IsLexerIn text (name_in order) graph) (old new : Option (List ℕ)) {T E : Type 0} where
  -- the inputs for a lexer of a text
  pub inputs_shown : (most : ℕ) (json : Bool) → json ≡ is_json order → (result : Result T E) → OnOk result (PrintsInputsAs json graph most old new) → OnOk result (ShowsInputsOf order text most old new)
  inputs_shown most json is (Ok x) h = record { graph = graph; of_text = l; printed = subst (λ j. PrintsInputsAs j graph most old new) is h }
  inputs_shown most json is (Err e) h = tt

  -- the matches of a lexer of a text
  pub matches_shown : (input : List ℕ) → IsBytes input → (location : Location) (json : Bool) → json ≡ is_json order → (result : Result T E) →
      OnOk result (IsGraphOf graph.leaves graph.utf8 graph → AllStart (rules_of graph.leaves) → IsBytes input → PrintsMatchesAs json graph l.code input location old new) →
      OnOk result (ShowsMatchesOf order text input location old new)
  matches_shown input are location json is (Ok x) h =
      let of_leaves = l.given.of_source.of_leaves in
      let printed = h of_leaves (all_start graph of_leaves l.given.of_source.faultless) are in
      record { graph = graph; of_text = l; printed = subst (λ j. PrintsMatchesAs j graph l.code input location old new) is printed }
  matches_shown input are location json is (Err e) h = tt

-- an answer that is compared with the stored one
pub expected : {F : Type 0} (yields : F → List ℕ → List ℕ → F → Type 0) (order : OrderValue) (path : List ℕ) (files read after : F) (stored first made : List ℕ) (outcome : Agreement) → yields files path stored read → first ≡ [] →
    Answers yields order read after outcome (Some first) (Some made) → (old new : Option (List ℕ)) (given answer : List ℕ) → given ≡ stored → answer ≡ made → {E : Type 0} (result : Result Agreement E) →
    IfOk result (λ agreement. PrintsAgreement path given answer agreement old new) → IfOk result (λ agreement. Expects yields order path files after agreement old new)
expected yields order path files read after stored first made outcome y e answers old new given answer same is (Ok agreement) h = record {
  bytes = stored;
  after = read;
  given = y;
  holds = (made, outcome, subst (λ bytes. Answers yields order read after outcome (Some bytes) (Some made)) e answers, subst (λ bytes. PrintsAgreement path bytes made agreement old new) same (subst (λ bytes. PrintsAgreement path given bytes agreement old new) is h));
}
expected yields order path files read after stored first made outcome y e answers old new given answer same is (Err x) h = tt

module _ {F : Type 0} (yields : F → List ℕ → List ℕ → F → Type 0) (order : OrderValue) (files read : F) (text shown : List ℕ) (same : shown ≡ text) (old new : Option (List ℕ)) {E : Type 0} (result : Result Agreement E) where
  -- a lexer, compared with that of a file that was read
  pub compared_reading : (file : SourceValue) (path : List ℕ) → yields files path text read → (other : SourceValue) → other ≡ record { path = path; text = shown } →
      IfOk result (λ agreement. ComparesFiles order file other agreement old new) →
      IfOk result (λ agreement. Reads yields files path (λ bytes after. (read ≡ after) × ComparesFiles order file (record { path = path; text = bytes }) agreement old new))
  compared_reading file path given other is h = compared result h where
    compared : (r : Result Agreement E) → IfOk r (λ agreement. ComparesFiles order file other agreement old new) →
        IfOk r (λ agreement. Reads yields files path (λ bytes after. (read ≡ after) × ComparesFiles order file (record { path = path; text = bytes }) agreement old new))
    compared (Ok agreement) k = record {
      bytes = text;
      after = read;
      given = given;
      holds = (refl, subst (λ (t : List ℕ). ComparesFiles order file (record { path = path; text = t }) agreement old new) same (subst (λ (s : SourceValue). ComparesFiles order file s agreement old new) is k));
    }
    compared (Err error) k = tt

  -- an answer about a file that was read
  pub answered_reading : (after : F) → yields files order.file text read → (source : SourceValue) → source ≡ record { path = order.file; text = shown } →
      IfOk result (λ agreement. AnswersAbout yields order order.question source read after agreement old new) → IfOk result (λ agreement. Answers yields order files after agreement old new)
  answered_reading after given source is h = answered result h where
    answered : (r : Result Agreement E) → IfOk r (λ agreement. AnswersAbout yields order order.question source read after agreement old new) → IfOk r (λ agreement. Answers yields order files after agreement old new)
    answered (Ok agreement) k = record {
      bytes = text;
      after = read;
      given = given;
      holds = subst (λ (t : List ℕ). AnswersAbout yields order order.question (record { path = order.file; text = t }) read after agreement old new) same
          (subst (λ (s : SourceValue). AnswersAbout yields order order.question s read after agreement old new) is k);
    }
    answered (Err error) k = tt
