-- The effect of a command on files and on standard output.
use Rattle.std.proofs.Common.{ℕ, List, Bool, Option, Result, Ok, Err, IfOk, inl, inr, refl, subst, sym}
use Rattle.logos_automaton.specs.Munch.{Rule}
use Rattle.logos_code.specs.Code.{CodeValue}
use Rattle.logos_codegen.specs.Around.{IsAroundOf}
use Rattle.logos_codegen.specs.Given.{IsGiven}
use Rattle.logos_codegen.specs.Source.{IsAccepted}
use Rattle.logos_enum.specs.Values.{Slice}
use Rattle.logos_graph.specs.View.{GraphValue}
use Rattle.logos_host.specs.declared.failure.Failure.{Failure}
use Rattle.logos_text.specs.Fronts.{AroundValue}
use Rattle.logos_commands.specs.declared.outcome.Requested.{Requested as Part}
use Rattle.logos_commands.specs.Runs.{Carries, Effect, HasEffect, IsPart, IsPartOf, IsTouched, ReadsSource, WritesFor, makes_file, prints, shape_of}

-- a part of the lexer of a source without faults
pub part_of : {T : Type 0} (effect : T → Effect) (part : Part) (source : List ℕ) (rules : List Rule) (utf8 : Bool) (graph : GraphValue) (code : CodeValue) (name : Slice) (export : Option (List ℕ)) (around : AroundValue) →
    IsAccepted source rules utf8 → IsGiven source (shape_of part) graph code name export → IsAroundOf source graph around →
    (result : Result T Failure) → IfOk result (λ x. IsPart part around graph code name export (effect x)) → IfOk result (λ x. IsPartOf part source (effect x))
part_of effect part source rules utf8 graph code name export around a g o (Ok x) h =
    record { rules = rules; utf8 = utf8; accepted = a; graph = graph; code = code; name = name; export = export; given = g; around = around; is_around = o; is = h }
part_of effect part source rules utf8 graph code name export around a g o (Err failure) h = tt

-- a file was read, and the result for its source was delivered
pub carried : {F : Type 0} (yields makes : F → List ℕ → List ℕ → F → Type 0) (file : List ℕ) (files between after : F) (old new : Option (List ℕ)) (effect : Effect) (Yields : List ℕ → Effect → Type 0) →
    ReadsSource yields file files between (λ source. Yields source effect) → HasEffect makes effect between after old new → Carries yields makes file files after old new Yields
carried yields makes file files between after old new effect Yields r h = record {
  bytes = r.bytes;
  after = r.after;
  given = r.given;
  holds = (effect, r.holds.1, subst (λ f. HasEffect makes effect f after old new) r.holds.0 h);
}

-- a file was read, and the file for the result was perhaps written
pub touched_by : {F : Type 0} (yields : F → List ℕ → List ℕ → F → Type 0) (reads : F → F → Type 0) (writes : F → List ℕ → F → Type 0) (file : List ℕ) (files between after : F) (effect : Effect) (Yields : List ℕ → Effect → Type 0) →
    reads files between → ReadsSource yields file files between (λ source. Yields source effect) → WritesFor writes effect between after → IsTouched yields reads writes file files after Yields
touched_by yields reads writes file files between after (prints text) Yields l r t = (between, l, inl t)
touched_by yields reads writes file files between after (makes_file path text) Yields l r t =
    (between, l, inr (r.bytes, path, text, subst (λ f. yields files file r.bytes f) (sym r.holds.0) r.given, r.holds.1, t))

-- or it was only read
pub only_read : {F : Type 0} (yields : F → List ℕ → List ℕ → F → Type 0) (reads : F → F → Type 0) (writes : F → List ℕ → F → Type 0) (file : List ℕ) (files between : F) (Yields : List ℕ → Effect → Type 0) → reads files between →
    IsTouched yields reads writes file files between Yields
only_read yields reads writes file files between Yields l = (between, l, inl refl)
