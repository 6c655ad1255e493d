-- The faults of parameters whose types contain them.
use Rattle.std.specs.Prelude.{◌≡◌, List, [], ◌∷◌, ◌++◌, true, false, codes}
use Rattle.logos_token.specs.declared.error.fault_code.FaultCode.TheVariants.{TypeHoldsItself}
use Rattle.logos_token.specs.Faults.{Fault}
use Rattle.logos_type_params.specs.Substitution.{ParamValue}
use Rattle.logos_type_params.specs.SelfReference.{Leads}
use Rattle.logos_type_params.specs.TypeParams.{Named, about, is_declared}

-- The fault of a parameter whose type contains it, at its declaration.
abbrev pub type_holds_itself : Named → Fault
type_holds_itself named = about TypeHoldsItself (codes "Type parameter ") named (codes " holds itself")

-- A declared name adds its fault if a chain leads from it back to it, unless it is one of the
-- earlier names `front`.
pub data IsChecked (params : List ParamValue) (front : List Named) (named : Named) (old new : List Fault) : Type 0 where
  declared_again : is_declared front named.text ≡ true → new ≡ old → IsChecked params front named old new
  leads_on : (Leads params named.text named.text → ⊥) → new ≡ old → IsChecked params front named old new
  leads_back : is_declared front named.text ≡ false → Leads params named.text named.text → new ≡ old ++ type_holds_itself named ∷ [] → IsChecked params front named old new

-- Each declared name after those in `front` adds its fault, in order.
pub data AreChecked (params : List ParamValue) : (front names : List Named) (old new : List Fault) → Type 0 where
  no_name : {front : List Named} {faults : List Fault} → AreChecked params front [] faults faults
  one_more : {front names : List Named} {named : Named} {old mid new : List Fault} → IsChecked params front named old mid →
      AreChecked params (front ++ named ∷ []) names mid new → AreChecked params front (named ∷ names) old new
