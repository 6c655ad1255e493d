use Rattle.std.proofs.Common.{List, [], map, drop}
use Rattle.logos_token.specs.Faults.{Fault}
use Rattle.logos_type_params.specs.Substitution.{param_value}
use Rattle.logos_type_params.specs.TypeParams.{named_of}
use Rattle.logos_type_params.specs.SelfFaults.{AreChecked}
use Rattle.logos_type_params.proofs.SettledLemmas.{Checking}
use Rattle.logos_type_params.proofs.type_params.TypeParams.check_all.Given as goal

abbrev pub invariant-loop-name : goal.invariant-loop-name
invariant-loop-name l =
    Checking (map param_value l.fn.self.types.entries.items) (λ (faults : List Fault). AreChecked (map param_value l.fn.self.types.entries.items) [] (map named_of l.name-items) l.fn.errors faults)
    (map named_of (drop l.name-index l.name-items)) l.front.keys l.errors
