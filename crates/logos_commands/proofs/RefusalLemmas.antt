-- Failures for refusals.
use Rattle.std.proofs.Common.{◌≡◌, ◌≢◌, ℕ, List, ◌∷◌, [], Result, Ok, Err, Option, IfErr, arith, inl, inr, refl}
use Rattle.logos_token.specs.Faults.{Fault}
use Rattle.logos_enum.specs.Values.{Slice}
use Rattle.logos_host.specs.Failures.{status_of}
use Rattle.logos_host.specs.declared.failure.Failure.{Failure}
use Rattle.logos_host.specs.declared.failure.Failure.TheVariants.{Misuse, UnknownOption, OwnOutput, Refused, NotUtf8, NotText, Read, Write, Output, Closed, Memory}
use Rattle.logos_parser.specs.declared.refusal.Refusal.{Refusal}
use Rattle.logos_parser.specs.declared.refusal.Refusal.TheVariants as refusals
use Rattle.logos_parser.specs.Endings.{EndsReading}
use Rattle.logos_parser.specs.Refusals.{Refuses}
use Rattle.logos_graph.specs.View.{GraphValue}
use Rattle.logos_code.specs.Code.{CodeValue}
use Rattle.logos_code.specs.declared.code.Config.{Config}
use Rattle.logos_codegen.specs.Given.{IsGiven}
use Rattle.logos_codegen.specs.Source.{IsRefused}
use Rattle.logos_commands.specs.declared.outcome.Requested.{Requested as Part}
use Rattle.logos_commands.specs.declared.outcome.Requested.TheVariants.{Text, Diagram, Export}
use Rattle.logos_commands.specs.declared.refusals.ExportRefusal.{ExportRefusal}
use Rattle.logos_commands.specs.Diagrams.{Destination, file_at, refused, export_destination}
use Rattle.logos_commands.specs.Refusals.{IsRefusalOf, IsUnexportedBy, ShowsFaultsOf, ShowsReasonOf}
use Rattle.logos_commands.specs.Runs.{IsUnexported, IsUnreadable, RefusesLexer, RefusesExport}
use Rattle.logos_commands.specs.inside.Destinations.{FailsAt}

one_status : (status : ℕ) → status ≡ 3 → status ≡ 1 → ⊥
one_status status e f = omega (arith, e, f)

-- the failure of a source that is refused shows its faults
pub faults_shown : (Holds : List Fault → Type 0) (refusal : Refusal) (failure : Failure) → IsRefusalOf refusal failure → Refuses Holds refusal → status_of failure ≡ 1 → ShowsFaultsOf Holds failure
faults_shown Holds refusal (Misuse what word) e r s = absurd e
faults_shown Holds refusal (UnknownOption word nearest) e r s = absurd e
faults_shown Holds refusal (OwnOutput path) e r s = absurd e
faults_shown Holds (refusals.Errors faults) (Refused text) e r s = (faults, r, e)
faults_shown Holds refusals.Memory (Refused text) e r s = absurd e
faults_shown Holds refusal (NotUtf8 n) e r s = absurd e
faults_shown Holds refusal (NotText path n) e r s = absurd e
faults_shown Holds refusal (Read path reason) e r s = absurd e
faults_shown Holds refusal (Write path reason) e r s = absurd e
faults_shown Holds refusal Output e r s = absurd e
faults_shown Holds refusal Closed e r s = absurd e
faults_shown Holds refusal Memory e r s = absurd (one_status 3 refl s)

-- one fault ends the reading of a source
pub unreadable : (source : List ℕ) (refusal : Refusal) → Refuses (λ faults. (ending : Fault) × EndsReading source ending × (faults ≡ ending ∷ [])) refusal → Refuses (IsUnreadable source) refusal
unreadable source (refusals.Errors faults) (ending, ends, one) = record { ending = ending; ends = ends; one = one }
unreadable source refusals.Memory r = tt

-- the failure for a diagram that is not exported shows the reason
reason_shown : (Holds : ExportRefusal → Type 0) (why : ExportRefusal) → Holds why → (failure : Failure) → IsUnexportedBy why failure → status_of failure ≡ 1 → ShowsReasonOf Holds failure
reason_shown Holds why h (Misuse what word) e s = absurd e
reason_shown Holds why h (UnknownOption word nearest) e s = absurd e
reason_shown Holds why h (OwnOutput path) e s = absurd e
reason_shown Holds why h (Refused text) e s = (why, h, e)
reason_shown Holds why h (NotUtf8 n) e s = absurd e
reason_shown Holds why h (NotText path n) e s = absurd e
reason_shown Holds why h (Read path reason) e s = absurd e
reason_shown Holds why h (Write path reason) e s = absurd e
reason_shown Holds why h Output e s = absurd e
reason_shown Holds why h Closed e s = absurd e
reason_shown Holds why h Memory e s = absurd (one_status 3 refl s)

pub export_shown : (to : Destination) (failure : Failure) → FailsAt to failure → status_of failure ≡ 1 → RefusesExport to failure
export_shown (file_at path) failure e s = absurd (let k : 3 ≡ 1 = rw e at s in one_status 3 refl k)
export_shown (refused why) failure e s = reason_shown (λ other. refused why ≡ refused other) why refl failure e s

-- the path of a diagram is refused
export_refused : (source : List ℕ) (config : Config) (graph : GraphValue) (code : CodeValue) (name : Slice) (export : Option (List ℕ)) →
    IsGiven source config graph code name export → (failure : Failure) → RefusesExport (export_destination export name.text) failure → ShowsReasonOf (IsUnexported source) failure
export_refused source config graph code name export g (Misuse what word) r = absurd r
export_refused source config graph code name export g (UnknownOption word nearest) r = absurd r
export_refused source config graph code name export g (OwnOutput path) r = absurd r
export_refused source config graph code name export g (Refused text) r =
    (r.0, record { config = config; graph = graph; code = code; name = name; export = export; given = g; is = r.1 }, r.2)
export_refused source config graph code name export g (NotUtf8 n) r = absurd r
export_refused source config graph code name export g (NotText path n) r = absurd r
export_refused source config graph code name export g (Read path reason) r = absurd r
export_refused source config graph code name export g (Write path reason) r = absurd r
export_refused source config graph code name export g Output r = absurd r
export_refused source config graph code name export g Closed r = absurd r
export_refused source config graph code name export g Memory r = absurd r

-- a source that is refused has no part
pub part_refused : (source : List ℕ) (part : Part) (failure : Failure) → ShowsFaultsOf (IsRefused source) failure → RefusesLexer source part failure
part_refused source (Text shape) failure r = r
part_refused source Diagram failure r = r
part_refused source Export failure r = inl r

-- the failures that a finished lexer excludes
pub lexer_refused : {T : Type 0} (source : List ℕ) (part : Part) (config : Config) (graph : GraphValue) (code : CodeValue) (name : Slice) (export : Option (List ℕ)) →
    IsGiven source config graph code name export → (r : Result T Failure) → (part ≢ Export → IfErr r (λ failure. status_of failure ≡ 3)) →
    IfErr r (λ failure. status_of failure ≡ 1 → RefusesExport (export_destination export name.text) failure) →
    IfErr r (λ failure. status_of failure ≡ 1 → RefusesLexer source part failure)
lexer_refused source part config graph code name export g (Ok x) plain exported = tt
lexer_refused source (Text shape) config graph code name export g (Err f) plain exported = λ s. absurd (one_status _ (plain (λ e. cc)) s)
lexer_refused source Diagram config graph code name export g (Err f) plain exported = λ s. absurd (one_status _ (plain (λ e. cc)) s)
lexer_refused source Export config graph code name export g (Err f) plain exported = λ s. inr (export_refused source config graph code name export g f (exported s))
