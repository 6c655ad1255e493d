-- From a lexer to a derivation.
use Rattle.std.proofs.Common.{◌≡◌, ◌≢◌, ℕ, List, [], ◌∷◌, Option, Result, Ok, Err, IfOk, sym, ◌∙◌}
use Rattle.logos_code.specs.Code.{CodeValue}
use Rattle.logos_codegen.specs.Around.{IsAroundOf}
use Rattle.logos_codegen.specs.Given.{IsGiven}
use Rattle.logos_codegen.specs.Source.{IsRefused, unread, faulty}
use Rattle.logos_derive.proofs.ErrorLemmas.{some_summaries}
use Rattle.logos_derive.specs.Derivations.{IsDerivation, accepted, refused}
use Rattle.logos_derive.specs.declared.derivation.Derivation.{Derivation}
use Rattle.logos_derive.specs.inside.Steps.{IsAcceptedBy, IsRefusedFor}
use Rattle.logos_enum.specs.Values.{Slice}
use Rattle.logos_graph.specs.View.{GraphValue}
use Rattle.logos_tables.specs.Shapes.{config_of}
use Rattle.logos_tables.specs.declared.shape.Shape.{Shape}
use Rattle.logos_text.specs.Fronts.{AroundValue}
use Rattle.logos_token.specs.Faults.{Fault}

-- an accepted source
one_accepted : {shape : Shape} {around : AroundValue} {source : List ℕ} {graph : GraphValue} {code : CodeValue} {name : Slice} {export : Option (List ℕ)} (derivation : Derivation) →
    IsGiven source (config_of shape) graph code name export → IsAroundOf source graph around → IsAcceptedBy shape around code derivation → IsDerivation shape source derivation
one_accepted {shape} {around} {source} {graph} {code} {name} {export} derivation g o a = accepted (record {
  made = a.made;
  is = a.is;
  implements = record {
    around = around;
    code = code;
    lexer = record { graph = graph; name = name; export = export; given = g; is_around = o };
    made_of = a.implements;
  };
  warns = a.warns;
})

pub all_accepted : {E : Type 0} (shape : Shape) {around : AroundValue} {source : List ℕ} {graph : GraphValue} {code : CodeValue} {name : Slice} {export : Option (List ℕ)} (result : Result Derivation E) →
    IsGiven source (config_of shape) graph code name export → IsAroundOf source graph around → IfOk result (IsAcceptedBy shape around code) → IfOk result (IsDerivation shape source)
all_accepted shape (Ok derivation) g o a = one_accepted derivation g o a
all_accepted shape (Err error) g o a = tt

-- a source that is refused has faults
some_faults : {source : List ℕ} {faults : List Fault} → IsRefused source faults → faults ≢ []
some_faults (unread {fault} ending is) = λ e. let clash : fault ∷ [] ≡ [] = sym is ∙ e in absurd cc
some_faults (faulty short shallow yields reported some) = some

-- a refused source
one_refused : {shape : Shape} {source : List ℕ} {faults : List Fault} (derivation : Derivation) → IsRefused source faults → IsRefusedFor source faults derivation → IsDerivation shape source derivation
one_refused {shape} {source} {faults} derivation r d = refused (record {
  sizes = d.sizes;
  none = d.none;
  refused = r;
  sets = d.sets;
  errors = d.errors;
  some = some_summaries d.sizes faults (some_faults r);
})

pub all_refused : {E : Type 0} (shape : Shape) {source : List ℕ} {faults : List Fault} (result : Result Derivation E) → IsRefused source faults → IfOk result (IsRefusedFor source faults) →
    IfOk result (IsDerivation shape source)
all_refused shape (Ok derivation) r d = one_refused derivation r d
all_refused shape (Err error) r d = tt
